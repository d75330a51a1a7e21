-- Where a word's box and a rule's stand in the list, and what is in it. Assumes nothing.
use Rattle.std.proofs.Common.{◌≡◌, ℕ, ◌+◌, List, [], ◌∷◌, ◌++◌, length, get_or, ℤ, pos, ◌+ℤ◌, refl, sym, ap, ◌∙◌, append_assoc, arith}
use Rattle.std.specs.List.{flat_map}
use Rattle.std.proofs.Math.Seq.{get_or-append_seam}
use Rattle.std.proofs.lemmas.Int.{ints}
use Rattle.std.proofs.lemmas.List.{length-append}
use Rattle.std.proofs.lemmas.Grind.{flat_map-append}
use Rattle.boxlist.specs.declared.BoxRecord.{BoxRecord}
use Rattle.ledger.specs.Chunks.{total}
use Rattle.ledger.specs.Ledger.{Item, Entry, Line, row, rule}
use Rattle.ledger.specs.Calls.{bytes_in, items_in}
use Rattle.sharing.specs.Rule.{portion}
use Rattle.sharing.specs.Columns.{left_of}
use Rattle.packer.specs.Looks.{Look, fill_in}
use Rattle.packer.specs.Boxes.{Columns, Spot, Fills, box_of, shifted, behind, item_boxes, wide_in, fills_of, start_of, entry_boxes, entry_bytes, row_boxes}
use Rattle.packer.specs.Lines.{row_height, line_size, line_bytes, rule_box, line_boxes, table_boxes, total_height}
use Rattle.packer.specs.Laws.{cell_bytes, line_text, words_in, drawn_in, top_of, spot_in, PlacesWords, PlacesRules}
use Rattle.packer.proofs.Appends.{behind_all, item_boxes-append, row_boxes-append, table_boxes-append}
use Rattle.packer.proofs.Counts.{items-count, row-count, table-count, items-bytes, entries-bytes, lines-bytes}

-- x is in a list behind so many
record Stands (bs : List BoxRecord) (n : ℕ) (x : BoxRecord) : Type 0 where
  before : List BoxRecord
  behind : List BoxRecord
  whole : bs ≡ before ++ (x ∷ behind)
  many : length before ≡ n

stands-at : (bs : List BoxRecord) (n : ℕ) (x d : BoxRecord) → Stands bs n x → get_or bs n d ≡ x
stands-at bs n x d s = (λ i. get_or (s.whole i) (sym s.many i) d) ∙ get_or-append_seam s.before x s.behind d

-- between others
stands-in : (xs ys zs all : List BoxRecord) (n k : ℕ) (x : BoxRecord) → all ≡ xs ++ (ys ++ zs) → k ≡ length xs + n → Stands ys n x → Stands all k x
stands-in xs ys zs all n k x e m s = record {
  before = xs ++ s.before;
  behind = s.behind ++ zs;
  whole = e ∙ ap (λ (t : List BoxRecord). xs ++ (t ++ zs)) s.whole ∙ simp append_assoc;
  many = omega (arith, length-append xs s.before, s.many);
}

module _ (l : Look) where
  item-stands : (f : Fills) (s : Spot) (is front back : List Item) (a : Item) (box : BoxRecord) → is ≡ front ++ a ∷ back → box_of l (shifted f (0 + total fill_in front) (behind_all l front s)) a ≡ box ∷ [] → Stands (item_boxes l f 0 s is) (length (words_in front)) box
  unfolding item_boxes
  item-stands f s is front back a box e b =
      let q = 0 + total fill_in front in
      let u = behind_all l front s in
      let more = item_boxes l f (q + fill_in a) (behind l a u) back in
      record {
        before = item_boxes l f 0 s front;
        behind = more;
        whole = ap (item_boxes l f 0 s) e ∙ item_boxes-append l f 0 s front (a ∷ back) ∙ ap (λ (t : List BoxRecord). item_boxes l f 0 s front ++ (t ++ more)) b;
        many = items-count l f 0 s front;
      }

  module _ (c : Columns) where
    row-stands : (y : ℤ) (t : ℕ) (left right : List Entry) (e : Entry) (n : ℕ) (box : BoxRecord) → Stands (entry_boxes l c y (t + total entry_bytes left) e) n box → Stands (row_boxes l c y t (left ++ e ∷ right)) (length (words_in (flat_map items_in left)) + n) box
    unfolding row_boxes
    row-stands y t left right e n box s =
        let k = t + total entry_bytes left in
        let m = row-count l c y t left in
        stands-in (row_boxes l c y t left) (entry_boxes l c y k e) (row_boxes l c y (k + entry_bytes e) right) (row_boxes l c y t (left ++ e ∷ right)) n (length (words_in (flat_map items_in left)) + n) box (row_boxes-append l c y t left (e ∷ right)) (omega arith) s

    line-stands : (t : ℤ) (before after : List Line) (s : Line) (n : ℕ) (box : BoxRecord) → Stands (line_boxes l c t (pos 0 +ℤ total_height l before) (0 + total line_bytes before) s) n box → Stands (table_boxes l c t (pos 0) 0 (before ++ s ∷ after)) (length (drawn_in before) + n) box
    unfolding table_boxes
    line-stands t before after s n box h =
        let top = pos 0 +ℤ total_height l before in
        let p = 0 + total line_bytes before in
        let m = table-count l c t (pos 0) 0 before in
        stands-in (table_boxes l c t (pos 0) 0 before) (line_boxes l c t top p s) (table_boxes l c t (top +ℤ line_size l s) (p + line_bytes s) after) (table_boxes l c t (pos 0) 0 (before ++ s ∷ after)) n (length (drawn_in before) + n) box (table_boxes-append l c t (pos 0) 0 before (s ∷ after)) (omega arith) h

pub places-rules : PlacesRules
places-rules l c t before after d =
    let x = rule_box l t (pos 0 +ℤ total_height l before) in
    let h : Stands (x ∷ []) 0 x = record { before = []; behind = []; whole = refl; many = refl } in
    let top : pos 0 +ℤ total_height l before ≡ total_height l before = omega (arith, ints) in
    ap (λ (n : ℕ). get_or (table_boxes l c t (pos 0) 0 (before ++ rule ∷ after)) n d) (omega arith)
    ∙ stands-at (table_boxes l c t (pos 0) 0 (before ++ rule ∷ after)) (length (drawn_in before) + 0) x d (line-stands l c t before after rule 0 x h)
    ∙ ap (rule_box l t) top

-- where the lines, the entries and the items before a word put it
spot-is : (l : Look) (c : Columns) (before : List Line) (left es : List Entry) (e : Entry) (front : List Item)
    → shifted (fills_of l c e) (0 + total fill_in front) (behind_all l front (start_of c ((pos 0 +ℤ total_height l before) +ℤ row_height l es) ((0 + total line_bytes before) + total entry_bytes left) e)) ≡ spot_in l c before left es e front
spot-is l c before left es e front =
    let y : (pos 0 +ℤ total_height l before) +ℤ row_height l es ≡ top_of l before +ℤ row_height l es = omega (arith, ints) in
    let xs = flat_map items_in left in
    let joined = ap length (flat_map-append cell_bytes xs front) in
    let place : ((0 + total line_bytes before) + total entry_bytes left) + total bytes_in front ≡ length (line_text before) + length (flat_map cell_bytes (xs ++ front)) =
    omega (arith, joined, length-append (flat_map cell_bytes xs) (flat_map cell_bytes front), lines-bytes before, entries-bytes left, items-bytes front) in
    let passed : 0 + total fill_in front ≡ total fill_in front = omega arith in
    λ i. record {
      x = (left_of c.widths c.first c.gaps e.first +ℤ wide_in l front) +ℤ pos (portion (fills_of l c e).surplus (passed i) (fills_of l c e).count);
      y = y i;
      place = place i;
    }

pub places-words : PlacesWords
places-words l c t before after left right e front back a box split is d =
    let es = left ++ e ∷ right in
    let y = (pos 0 +ℤ total_height l before) +ℤ row_height l es in
    let p = 0 + total line_bytes before in
    let k = p + total entry_bytes left in
    let n = length (words_in front) in
    let m = length (words_in (flat_map items_in left)) in
    let item = item-stands l (fills_of l c e) (start_of c y k e) e.items front back a box split (ap (λ (s : Spot). box_of l s a) (spot-is l c before left es e front) ∙ is) in
    let line = line-stands l c t before after (row es) (m + n) box (row-stands l c y p left right e n box item) in
    let many : length (words_in (flat_map items_in left ++ front)) ≡ m + n = ap length (flat_map-append _ (flat_map items_in left) front) ∙ length-append (words_in (flat_map items_in left)) (words_in front) in
    ap (λ (j : ℕ). get_or (table_boxes l c t (pos 0) 0 (before ++ row es ∷ after)) (length (drawn_in before) + j) d) many
    ∙ stands-at (table_boxes l c t (pos 0) 0 (before ++ row es ∷ after)) (length (drawn_in before) + (m + n)) box d line
