-- The boxes of a row, one entry after another. Assumes nothing.
use Rattle.std.proofs.Common.{◌≡◌, ℕ, ◌+◌, ◌≤◌, List, [], ◌∷◌, ◌++◌, length, take, drop, ℤ, sym, refl, ap, ◌∙◌, arith}
use Rattle.std.proofs.lemmas.List.{length-drop}
use Rattle.ledger.specs.Chunks.{chunks, total}
use Rattle.ledger.specs.Items.{taken, decoded_items}
use Rattle.ledger.specs.Ledger.{Item}
use Rattle.ledger.specs.Calls.{bytes_in}
use Rattle.ledger.specs.declared.records.ItemRecord.{ItemRecord}
use Rattle.rows.specs.declared.state.EntryRecord.{EntryRecord}
use Rattle.rows.specs.Held.{entry_of, decoded_entries}
use Rattle.rows.proofs.Counts.{item-sizes}
use Rattle.packer.specs.Looks.{Look}
use Rattle.packer.specs.Boxes.{Columns, entry_boxes, row_boxes}
use Rattle.packer.proofs.Cuts.{items-front, items-behind}

-- items have the bytes that their records take
pub items-bytes : (q t : List ℕ) (is : List ItemRecord) (p : ℕ) → p + total taken is ≤ length t → total bytes_in (decoded_items q is (drop p t)) ≡ total taken is
items-bytes q t is p h = item-sizes q is (drop p t) (omega (arith, h, length-drop p t))

pub row-none : (l : Look) (c : Columns) (y : ℤ) (p : ℕ) (E : Type 0) (xs : List Item) → row_boxes l c y p (decoded_entries {E = E} [] xs) ≡ []
unfolding row_boxes chunks
row-none l c y p E xs = refl

module _ {E : Type 0} (l : Look) (c : Columns) (y : ℤ) (q t : List ℕ) where
  row-first : (e : EntryRecord E) (es : List (EntryRecord E)) (p : ℕ) (xs : List Item)
      → row_boxes l c y p (decoded_entries (e ∷ es) xs) ≡ entry_boxes l c y p (entry_of e (take e.count xs)) ++ row_boxes l c y (p + total bytes_in (take e.count xs)) (decoded_entries es (drop e.count xs))
  unfolding row_boxes chunks
  row-first e es p xs = refl

  pub row-next : (e : EntryRecord E) (es : List (EntryRecord E)) (is : List ItemRecord) (p : ℕ) → p + total taken (take e.count is) ≤ length t
      → row_boxes l c y p (decoded_entries (e ∷ es) (decoded_items q is (drop p t)))
      ≡ entry_boxes l c y p (entry_of e (decoded_items q (take e.count is) (drop p t))) ++ row_boxes l c y (p + total taken (take e.count is)) (decoded_entries es (decoded_items q (drop e.count is) (drop (p + total taken (take e.count is)) t)))
  row-next e es is p h =
      let own = decoded_items q (take e.count is) (drop p t) in
      let n = total taken (take e.count is) in
      let a = items-front q t is e.count p in
      let b = items-behind q t is e.count p in
      row-first e es p (decoded_items q is (drop p t))
      ∙ ap (λ (xs : List Item). entry_boxes l c y p (entry_of e xs) ++ row_boxes l c y (p + total bytes_in xs) (decoded_entries es (drop e.count (decoded_items q is (drop p t))))) (sym a)
      ∙ ap (λ (xs : List Item). entry_boxes l c y p (entry_of e own) ++ row_boxes l c y (p + total bytes_in own) (decoded_entries es xs)) (sym b)
      ∙ ap (λ (k : ℕ). entry_boxes l c y p (entry_of e own) ++ row_boxes l c y (p + k) (decoded_entries es (decoded_items q (drop e.count is) (drop (p + n) t)))) (items-bytes q t (take e.count is) p h)
