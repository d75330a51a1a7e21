-- Items on a side are in the ranges that a list needs, by the laws of measurers and extents. Assumes nothing.
use Rattle.std.proofs.Common.{◌≡◌, ℕ, ◌^◌, ◌<◌, true, List, [], ◌∷◌, take, ℤ, pos, ◌+ℤ◌, ◌≤ℤ◌, Ok, Result, refl, sym, ap, subst, arith}
use Rattle.std.proofs.lemmas.Int.{ints}
use Rattle.extent.specs.Sizes.{Within}
use Rattle.extent.specs.declared.Extent.{Ghosts as Sides}
use Rattle.measure.specs.declared.measurer.Metrics.{Metrics}
use Rattle.measure.specs.declared.measurer.Measurer.{Ghosts as Meaning}
use Rattle.measure.specs.Words.{IsWord}
use Rattle.measure.specs.Ranges.{Upto}
use Rattle.measure.specs.Bounds.{Bounded, Spaced}
use Rattle.ledger.specs.Ledger.{Item, cell_word, template_word, space, kern, hfil}
use Rattle.ledger.specs.Calls.{laid_entries}
use Rattle.ledger.specs.Lawful.{fine, Lawful, items_at}
use Rattle.ledger.specs.Ledger.{Ledger}
use Rattle.ledger.specs.Calls.{Template}
use Rattle.ledger.specs.Naturals.{natural, wide_of}
use Rattle.packer.specs.Looks.{look_of, height_by, depth_by}
use Rattle.packer.specs.Boxes.{wide_in}
use Rattle.packer.specs.Writes.{LookSized, entry_at}
use Rattle.packer.proofs.Fine.{fine-known, item-within}

module _ {X E : Type 0} (m : Meaning X E) (s : Sides E) (x : X) (k : ℕ) (side : k < s.count)
    (words : (w : List ℕ) (y : Metrics E) → IsWord w → m.meaning x w ≡ Ok y → Bounded s.count s.num y)
    (spaces : Spaced s.count s.num (m.blank x))
    (bounded : (b : ℕ) (z : ℤ) → Within b z → Within b (s.entered k z))
    (upward : (z : ℤ) → pos 0 ≤ℤ z → pos 0 ≤ℤ s.entered k z)
  where
    flat : Upto 16777215 (pos 0)
    flat = (omega (arith, ints), omega (arith, ints))

    word-tall : (w : List ℕ) → fine (m.meaning x) (cell_word w) ≡ true → Upto 16777215 (height_by s.num k (m.meaning x w)) × Upto 16777215 (depth_by s.num k (m.meaning x w))
    word-tall w h =
        let q = fine-known (m.meaning x) w h in
        let b = words w q.metrics q.word q.meant k side in
        subst (λ (r : Result (Metrics E) ℕ). Upto 16777215 (height_by s.num k r) × Upto 16777215 (depth_by s.num k r)) (sym q.meant) (b.1, b.2)

    tall : (a : Item) → fine (m.meaning x) a ≡ true → Upto 16777215 ((look_of m s x k).high a) × Upto 16777215 ((look_of m s x k).deep a)
    tall (cell_word w) h = word-tall w h
    tall (template_word a w) h = word-tall w h
    tall space h = (flat, flat)
    tall (kern z) h = (flat, flat)
    tall hfil h = (flat, flat)

    pub look-sized : LookSized (fine (m.meaning x)) (look_of m s x k)
    look-sized = record {
      items = λ a h. let t = tall a h in record { wide = item-within m s x k side words spaces bounded a h; high = t.0; deep = t.1 };
      entered = λ z h. let w = bounded 16777215 z (omega (arith, ints, h.0), h.1) in (upward z h.0, w.1);
    }

module _ {X E : Type 0} (m : Meaning X E) (s : Sides E) (x : X) (k : ℕ) where
  pub wide-natural : (is : List Item) → natural (wide_of m s x) is k ≡ wide_in (look_of m s x k) is
  unfolding natural wide_in
  wide-natural [] = refl
  wide-natural (a ∷ rest) = ap (λ (z : ℤ). wide_of m s x a k +ℤ z) (wide-natural rest)

  pub entry-near : (side : k < s.count) (P : List Template) (g : Ledger) → Lawful (m.meaning x) s.count (wide_of m s x) P g → (i j : ℕ) → Within (2 ^ 38) (wide_in (look_of m s x k) (take j (entry_at (laid_entries g) i).items))
  entry-near side P g w i j = subst (Within (2 ^ 38)) (wide-natural (take j (items_at (laid_entries g) i))) (w.laid i j k side)
