use Rattle.std.proofs.Common.{◌≡◌, ℕ, ◌+◌, ◌<◌, ◌≤◌, true, List, [], ◌∷◌, length, get_or, drop, ℤ, pos, ◌≤ℤ◌, sym, ap, ◌∙◌, subst, arith, rules}
use Rattle.std.specs.Int.{int_max}
use Rattle.std.proofs.lemmas.List.{drop_all}
use Rattle.measure.specs.declared.measurer.Measurer.{Ghosts as Meaning}
use Rattle.extent.specs.declared.Extent.{Ghosts as Sides}
use Rattle.ledger.specs.declared.records.ItemRecord.{ItemRecord}
use Rattle.ledger.specs.declared.records.ItemRecord.TheVariants.{Space}
use Rattle.ledger.specs.Chunks.{total}
use Rattle.ledger.specs.Items.{taken}
use Rattle.ledger.specs.Ledger.{Item}
use Rattle.ledger.specs.Lawful.{fine, all_fine}
use Rattle.packer.specs.declared.source.Source.{Source}
use Rattle.packer.specs.declared.source.Measures.{Measures}
use Rattle.packer.specs.Views.{look_in, item_in, items_from, measures_of}
use Rattle.packer.proofs.Cuts.{items-next, items-none, all-next, total-next}
use Rattle.packer.proofs.Heights.{Sizing, sizing-start, sizing-next, most-end}
use Rattle.packer.proofs.source.Source.row_size.Invariants.{Keeps}
use Rattle.packer.proofs.source.Source.row_size.Goals as goal

module _ {X E : Type 0} {m : Meaning X E} {k : Sides E} {src : Source X E} {h d : ℤ} {all : List ItemRecord} {start place : ℕ} where
  -- one item further
  module _ {i : ℕ} (lt : i < length all) (keeps : Keeps m k src h d all (drop i all) start place) where
    here : Item
    here = item_in src (get_or all i Space) place

    rest : List Item
    rest = items_from src (drop (i + 1) all) (place + taken (get_or all i Space))

    cut : items_from src (drop i all) place ≡ here ∷ rest
    unfolding here rest
    cut = items-next src.preamble.now src.lines.now all i place Space lt

    known : (fine (m.meaning src.measurer.now) here ≡ true) × (all_fine (m.meaning src.measurer.now) rest ≡ true)
    known = all-next (fine (m.meaning src.measurer.now)) here rest (subst (λ (xs : List Item). all_fine (m.meaning src.measurer.now) xs ≡ true) cut keeps.known)

    known-here : fine (m.meaning src.measurer.now) (item_in src (get_or all i Space) place) ≡ true
    unfolding here
    known-here = known.0

    fits : (place + taken (get_or all i Space)) + total taken (drop (i + 1) all) ≤ length src.lines.now
    fits = omega (arith, keeps.text, total-next taken all i Space lt)

    next : (r : Measures) (h' d' : ℤ) (n : ℕ) → r ≡ measures_of (look_in m k src) (item_in src (get_or all i Space) place)
        → (pos 0 ≤ℤ r.high) × (r.high ≤ℤ pos 16777215) → (pos 0 ≤ℤ r.deep) × (r.deep ≤ℤ pos 16777215) → h' ≡ int_max h r.high → d' ≡ int_max d r.deep → n ≡ taken (get_or all i Space)
        → Keeps m k src h' d' all (drop (i + 1) all) start (place + n)
    unfolding here rest
    next r h' d' n e a b eh ed en =
        let l = look_in m k src in
        let high : r.high ≡ l.high here = ap (λ (x : Measures). x.high) e in
        let deep : r.deep ≡ l.deep here = ap (λ (x : Measures). x.deep) e in
        let a' = subst (λ (z : ℤ). (pos 0 ≤ℤ z) × (z ≤ℤ pos 16777215)) high a in
        let b' = subst (λ (z : ℤ). (pos 0 ≤ℤ z) × (z ≤ℤ pos 16777215)) deep b in
        let old = subst (λ (xs : List Item). Sizing l h d xs (items_from src all start)) cut keeps.sizing in
        let new = sizing-next l h d here rest (items_from src all start) old a' b' in
        let new' = subst (λ (z : ℤ). Sizing l z (int_max d (l.deep here)) rest (items_from src all start)) (ap (int_max h) (sym high) ∙ sym eh) new in
        let new'' = subst (λ (z : ℤ). Sizing l h' z rest (items_from src all start)) (ap (int_max d) (sym deep) ∙ sym ed) new' in
        subst (λ (w : ℕ). Keeps m k src h' d' all (drop (i + 1) all) start (place + w)) (sym en) (record { sizing = new''; known = known.1; text = fits })

  -- no item is left
  done : {i : ℕ} → length all ≤ i → Keeps m k src h d all (drop i all) start place → Sizing (look_in m k src) h d [] (items_from src all start)
  done {i} le keeps = subst (λ (xs : List Item). Sizing (look_in m k src) h d xs (items_from src all start)) (ap (λ (is : List ItemRecord). items_from src is place) (drop_all i all le) ∙ items-none src.preamble.now src.lines.now place) keeps.sizing

pub loop-item-init : goal.loop-item-init
loop-item-init g c = record { sizing = sizing-start _ _; known = c.requires.known; text = c.requires.text }

pub measures-requires-clause-known : goal.measures-requires-clause-known
measures-requires-clause-known g c = known-here c.loop-item-test.true c.loop-item.invariant

pub overflow_add-place : goal.overflow_add-place
overflow_add-place g c =
    let f = fits c.loop-item-test.true c.loop-item.invariant in
    search rules

pub loop-item-preserved : goal.loop-item-preserved
loop-item-preserved g c =
    next c.loop-item-test.true c.loop-item.invariant
    c.measures.result _ _ _ c.measures.ensures.is c.measures.ensures.high c.measures.ensures.deep c.with-size.ensures.height c.with-size.ensures.depth c.bytes_taken-place.ensures

pub returns-clause-height : goal.returns-clause-height
returns-clause-height g c =
    let s = done c.loop-item-test.false c.loop-item.invariant in
    most-end _ _ _ s.height.0 s.high

pub returns-clause-depth : goal.returns-clause-depth
returns-clause-depth g c =
    let s = done c.loop-item-test.false c.loop-item.invariant in
    most-end _ _ _ s.depth.0 s.deep

pub returns-clause-high : goal.returns-clause-high
returns-clause-high g c = c.loop-item.invariant.sizing.height

pub returns-clause-deep : goal.returns-clause-deep
returns-clause-deep g c = c.loop-item.invariant.sizing.depth
