-- Entries of a row that are left to draw. Assumes nothing.
use Rattle.std.proofs.Common.{◌≡◌, ℕ, ◌+◌, ◌<◌, ◌≤◌, min, true, List, ◌∷◌, ◌++◌, length, get_or, take, drop, ℤ, to_z, of_z, w64, FitsSigned, sym, ap, ◌∙◌, subst, arith}
use Rattle.std.proofs.lemmas.List.{drop_all, at_drop_more}
use Rattle.std.proofs.lemmas.Int.{to_z-of_z}
use Rattle.measure.specs.declared.measurer.Measurer.{Ghosts as Meaning}
use Rattle.extent.specs.declared.Extent.{Ghosts as Sides}
use Rattle.boxlist.specs.declared.BoxRecord.{BoxRecord}
use Rattle.sharing.specs.declared.Edges.{Edges}
use Rattle.ledger.specs.declared.records.ItemRecord.{ItemRecord}
use Rattle.ledger.specs.Chunks.{total}
use Rattle.ledger.specs.Items.{taken}
use Rattle.ledger.specs.Lawful.{all_fine}
use Rattle.rows.specs.declared.state.EntryRecord.{EntryRecord}
use Rattle.rows.specs.Held.{entry_of, decoded_entries}
use Rattle.packer.specs.declared.source.Source.{Source}
use Rattle.packer.specs.declared.pen.Pen.{Pen}
use Rattle.packer.specs.Boxes.{Columns, wide_in, entry_boxes, row_boxes}
use Rattle.packer.specs.Views.{look_in, items_from, EdgesAre, HasRoom, Drawn}
use Rattle.packer.proofs.Ready.{Ready, few-front, text-front, known-front, first-fits, first-stored, first-lies, ready-next}
use Rattle.packer.proofs.Going.{Going, going-room, going-next, going-end}
use Rattle.packer.proofs.Rows.{row-none, row-next}

-- the boxes of entries on a baseline, the items of the first from the front on
abbrev pub boxes_from : {X E : Type 0} → Meaning X E → Sides E → Source X E → Columns → ℤ → List (EntryRecord E) → List ItemRecord → ℕ → List BoxRecord
boxes_from m k src c y es is p = row_boxes (look_in m k src) c y p (decoded_entries es (items_from src is p))

-- of these those of the entries that are left are to be drawn
pub record RowLeft {X E : Type 0} (m : Meaning X E) (k : Sides E) (src : Source X E) (columns : List Edges) (y : ℤ) (es₀ : List (EntryRecord E)) (is₀ : List ItemRecord) (p₀ : ℕ) (old : Pen) (es : List (EntryRecord E)) (is : List ItemRecord) (p : ℕ) (now : Pen) : Type 0 where
  pub ready : Ready m k src (length columns) es is p
  pub going : (c : Columns) → EdgesAre c columns → Going old now (boxes_from m k src c y es is p) (boxes_from m k src c y es₀ is₀ p₀)

-- the boxes of an entry that takes its own items
abbrev pub entry_from : {X E : Type 0} → Meaning X E → Sides E → Source X E → Columns → ℤ → EntryRecord E → List ItemRecord → ℕ → List BoxRecord
entry_from m k src c y e is p = entry_boxes (look_in m k src) c y p (entry_of e (items_from src is p))

-- an element and what lies behind it
behind : {R : Type 0} (rs : List R) (i : ℕ) (r : R) → i < length rs → r ≡ get_or rs i r → drop i rs ≡ r ∷ drop (i + 1) rs
behind {R} rs i r h e = at_drop_more (λ (qs : List R). qs) rs i r h ∙ ap (λ (x : R). x ∷ drop (i + 1) rs) (sym e)

-- the room on a baseline as it is kept
pub room-at : {X E : Type 0} (m : Meaning X E) (k : Sides E) (src : Source X E) (columns : List Edges) (es₀ : List (EntryRecord E)) (is₀ : List ItemRecord) (p₀ : ℕ) (old : Pen) (z : ℤ) → FitsSigned w64 z → ((c : Columns) → EdgesAre c columns → HasRoom old (boxes_from m k src c z es₀ is₀ p₀)) → (c : Columns) → EdgesAre c columns → HasRoom old (boxes_from m k src c (to_z w64 (of_z w64 z)) es₀ is₀ p₀)
room-at m k src columns es₀ is₀ p₀ old z fit room c a = subst (λ (y : ℤ). HasRoom old (boxes_from m k src c y es₀ is₀ p₀)) (sym (to_z-of_z w64 z fit)) (room c a)

module _ {X E : Type 0} {m : Meaning X E} {k : Sides E} {src : Source X E} {columns : List Edges} {y : ℤ} {es₀ : List (EntryRecord E)} {is₀ : List ItemRecord} {p₀ : ℕ} {old : Pen} where
  -- one entry further, which takes its own items
  module _ {i : ℕ} {e : EntryRecord E} {is own : List ItemRecord} {p n : ℕ} {now : Pen} (lt : i < length es₀) (at : e ≡ get_or es₀ i e) (keeps : RowLeft m k src columns y es₀ is₀ p₀ old (drop i es₀) is p now) (cut : own ≡ take n is) (count : n ≡ min e.count (length is)) where
    es : List (EntryRecord E)
    es = drop (i + 1) es₀

    kept : RowLeft m k src columns y es₀ is₀ p₀ old (e ∷ es) is p now
    unfolding es
    kept = subst (λ (qs : List (EntryRecord E)). RowLeft m k src columns y es₀ is₀ p₀ old qs is p now) (behind es₀ i e lt at) keeps

    whole : n ≡ e.count
    whole = omega (arith, first-fits kept.ready, count)

    pub few-own : length own ≤ 16384
    few-own = subst (λ (xs : List ItemRecord). length xs ≤ 16384) (sym cut) (few-front kept.ready n)

    pub text-own : p + total taken own ≤ length src.lines.now
    text-own = subst (λ (xs : List ItemRecord). p + total taken xs ≤ length src.lines.now) (sym cut) (text-front kept.ready n)

    pub known-own : all_fine (m.meaning src.measurer.now) (items_from src own p) ≡ true
    known-own = subst (λ (xs : List ItemRecord). all_fine (m.meaning src.measurer.now) (items_from src xs p) ≡ true) (sym cut) (known-front kept.ready n)

    own-is : take e.count is ≡ own
    own-is = ap (λ (c : ℕ). take c is) (sym whole) ∙ sym cut

    pub stored-own : k.num e.entry.width src.side ≡ wide_in (look_in m k src) (items_from src own p)
    stored-own = subst (λ (xs : List ItemRecord). k.num e.entry.width src.side ≡ wide_in (look_in m k src) (items_from src xs p)) own-is (first-stored kept.ready)

    pub lies-own : (e.entry.first ≤ e.entry.last) × (e.entry.last < length columns)
    lies-own = first-lies kept.ready

    fits : p + total taken (take e.count is) ≤ length src.lines.now
    fits = text-front kept.ready e.count

    going : (c : Columns) → EdgesAre c columns → Going old now (entry_from m k src c y e own p ++ boxes_from m k src c y es (drop e.count is) (p + total taken (take e.count is))) (boxes_from m k src c y es₀ is₀ p₀)
    going c a =
        subst (λ (xs : List ItemRecord). Going old now (entry_from m k src c y e xs p ++ boxes_from m k src c y es (drop e.count is) (p + total taken (take e.count is))) (boxes_from m k src c y es₀ is₀ p₀)) own-is
        (subst (λ (bs : List BoxRecord). Going old now bs (boxes_from m k src c y es₀ is₀ p₀)) (row-next (look_in m k src) c y src.preamble.now src.lines.now e es is p fits) (kept.going c a))

    module _ (room : (c : Columns) → EdgesAre c columns → HasRoom old (boxes_from m k src c y es₀ is₀ p₀)) where
      pub room-own : (c : Columns) → EdgesAre c columns → HasRoom now (entry_from m k src c y e own p)
      room-own c a = going-room old now _ _ _ (room c a) (going c a)

      pub next-left : (rest : List ItemRecord) (b : ℕ) (new : Pen) → rest ≡ drop n is → b ≡ total taken own → ((c : Columns) → EdgesAre c columns → Drawn now new (entry_from m k src c y e own p)) → RowLeft m k src columns y es₀ is₀ p₀ old (drop (i + 1) es₀) rest (p + b) new
      unfolding es
      next-left rest b new er eb drawn =
          let same : drop e.count is ≡ rest = ap (λ (c : ℕ). drop c is) (sym whole) ∙ sym er in
          let bytes : total taken (take e.count is) ≡ b = ap (total taken) own-is ∙ sym eb in
          subst (λ (xs : List ItemRecord). RowLeft m k src columns y es₀ is₀ p₀ old (drop (i + 1) es₀) xs (p + b) new) same
          (subst (λ (w : ℕ). RowLeft m k src columns y es₀ is₀ p₀ old (drop (i + 1) es₀) (drop e.count is) (p + w) new) bytes
          (record { ready = ready-next kept.ready; going = λ c a. going-next old now _ _ _ (room c a) (going c a) new (drawn c a) }))

  pub none-left : {i : ℕ} {is : List ItemRecord} {p : ℕ} {now : Pen} → length es₀ ≤ i → RowLeft m k src columns y es₀ is₀ p₀ old (drop i es₀) is p now → (c : Columns) → EdgesAre c columns → Drawn old now (boxes_from m k src c y es₀ is₀ p₀)
  none-left {i} {is} {p} {now} le keeps c a =
      let last = subst (λ (es : List (EntryRecord E)). Going old now (boxes_from m k src c y es is p) (boxes_from m k src c y es₀ is₀ p₀)) (drop_all i es₀ le) (keeps.going c a) in
      going-end old now _ (subst (λ (bs : List BoxRecord). Going old now bs (boxes_from m k src c y es₀ is₀ p₀)) (row-none (look_in m k src) c y p E (items_from src is p)) last)
