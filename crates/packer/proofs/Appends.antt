-- Boxes of items, entries and lines behind those of others. Assumes nothing.
use Rattle.std.proofs.Common.{◌≡◌, ℕ, ◌+◌, List, [], ◌∷◌, ◌++◌, ℤ, pos, ◌+ℤ◌, sym, ap, ◌∙◌, append_assoc, arith}
use Rattle.std.proofs.lemmas.Int.{ints}
use Rattle.boxlist.specs.declared.BoxRecord.{BoxRecord}
use Rattle.ledger.specs.Chunks.{total}
use Rattle.ledger.specs.Ledger.{Item, Entry, Line}
use Rattle.ledger.specs.Calls.{bytes_in}
use Rattle.packer.specs.Looks.{Look, fill_in}
use Rattle.packer.specs.Boxes.{Columns, Spot, Fills, box_of, shifted, behind, item_boxes, wide_in, entry_boxes, entry_bytes, row_boxes}
use Rattle.packer.specs.Lines.{line_size, line_bytes, line_boxes, table_boxes, total_height}

-- where items leave a spot
abbrev pub behind_all : Look → List Item → Spot → Spot
behind_all l is s = record { x = s.x +ℤ wide_in l is; y = s.y; place = s.place + total bytes_in is }

module _ (l : Look) where
  pub item_boxes-append : (f : Fills) (p : ℕ) (s : Spot) (xs ys : List Item) → item_boxes l f p s (xs ++ ys) ≡ item_boxes l f p s xs ++ item_boxes l f (p + total fill_in xs) (behind_all l xs s) ys
  unfolding item_boxes wide_in total
  item_boxes-append f p s [] ys =
      let x : s.x ≡ s.x +ℤ pos 0 = omega (arith, ints) in
      let place : s.place ≡ s.place + 0 = omega arith in
      let passed : p ≡ p + 0 = omega arith in
      λ i. item_boxes l f (passed i) (record { x = x i; y = s.y; place = place i }) ys
  item_boxes-append f p s (a ∷ rest) ys =
      let first = box_of l (shifted f p s) a in
      let more = item_boxes l f (p + fill_in a) (behind l a s) rest in
      let x : (s.x +ℤ l.wide a) +ℤ wide_in l rest ≡ s.x +ℤ (l.wide a +ℤ wide_in l rest) = omega (arith, ints) in
      let place : (s.place + bytes_in a) + total bytes_in rest ≡ s.place + (bytes_in a + total bytes_in rest) = omega arith in
      let passed : (p + fill_in a) + total fill_in rest ≡ p + (fill_in a + total fill_in rest) = omega arith in
      ap (λ (t : List BoxRecord). first ++ t) (item_boxes-append f (p + fill_in a) (behind l a s) rest ys)
      ∙ sym (append_assoc first more (item_boxes l f ((p + fill_in a) + total fill_in rest) (behind_all l rest (behind l a s)) ys))
      ∙ (λ i. (first ++ more) ++ item_boxes l f (passed i) (record { x = x i; y = s.y; place = place i }) ys)

  module _ (c : Columns) where
    pub row_boxes-append : (y : ℤ) (t : ℕ) (xs ys : List Entry) → row_boxes l c y t (xs ++ ys) ≡ row_boxes l c y t xs ++ row_boxes l c y (t + total entry_bytes xs) ys
    unfolding row_boxes total
    row_boxes-append y t [] ys = ap (λ (k : ℕ). row_boxes l c y k ys) (omega arith)
    row_boxes-append y t (e ∷ rest) ys =
        let first = entry_boxes l c y t e in
        let more = row_boxes l c y (t + entry_bytes e) rest in
        let place : (t + entry_bytes e) + total entry_bytes rest ≡ t + (entry_bytes e + total entry_bytes rest) = omega arith in
        ap (λ (u : List BoxRecord). first ++ u) (row_boxes-append y (t + entry_bytes e) rest ys)
        ∙ sym (append_assoc first more (row_boxes l c y ((t + entry_bytes e) + total entry_bytes rest) ys))
        ∙ (λ i. (first ++ more) ++ row_boxes l c y (place i) ys)

    pub table_boxes-append : (t top : ℤ) (p : ℕ) (xs ys : List Line) → table_boxes l c t top p (xs ++ ys) ≡ table_boxes l c t top p xs ++ table_boxes l c t (top +ℤ total_height l xs) (p + total line_bytes xs) ys
    unfolding table_boxes total_height total
    table_boxes-append t top p [] ys =
        let high : top ≡ top +ℤ pos 0 = omega (arith, ints) in
        let place : p ≡ p + 0 = omega arith in
        λ i. table_boxes l c t (high i) (place i) ys
    table_boxes-append t top p (s ∷ rest) ys =
        let first = line_boxes l c t top p s in
        let more = table_boxes l c t (top +ℤ line_size l s) (p + line_bytes s) rest in
        let high : (top +ℤ line_size l s) +ℤ total_height l rest ≡ top +ℤ (line_size l s +ℤ total_height l rest) = omega (arith, ints) in
        let place : (p + line_bytes s) + total line_bytes rest ≡ p + (line_bytes s + total line_bytes rest) = omega arith in
        ap (λ (u : List BoxRecord). first ++ u) (table_boxes-append t (top +ℤ line_size l s) (p + line_bytes s) rest ys)
        ∙ sym (append_assoc first more (table_boxes l c t ((top +ℤ line_size l s) +ℤ total_height l rest) ((p + line_bytes s) + total line_bytes rest) ys))
        ∙ (λ i. (first ++ more) ++ table_boxes l c t (high i) (place i) ys)
