-- How many boxes there are, and how long the line text is. Assumes nothing.
use Rattle.std.proofs.Common.{◌≡◌, ℕ, ◌+◌, List, [], ◌∷◌, ◌++◌, length, ℤ, pos, ◌+ℤ◌, refl, sym, ap, ◌∙◌, arith}
use Rattle.std.specs.List.{flat_map}
use Rattle.std.proofs.lemmas.List.{length-append}
use Rattle.std.proofs.lemmas.Grind.{flat_map-append}
use Rattle.ledger.specs.Chunks.{total}
use Rattle.ledger.specs.Ledger.{Item, cell_word, template_word, space, kern, hfil, Entry, Line, row, rule, gap}
use Rattle.ledger.specs.Calls.{bytes_in, items_in, entries_in}
use Rattle.packer.specs.Looks.{Look, fill_in}
use Rattle.packer.specs.Boxes.{Columns, Spot, Fills, box_of, shifted, behind, item_boxes, fills_of, start_of, entry_boxes, entry_bytes, row_boxes}
use Rattle.packer.specs.Lines.{line_size, line_bytes, line_boxes, table_boxes}
use Rattle.packer.specs.Laws.{line_items, lines_items, cell_bytes, line_text, word_in, words_in, drawn_by, drawn_in, DrawsAll}

length-both : {A B : Type 0} (xs ys : List A) (us vs : List B) → length xs ≡ length us → length ys ≡ length vs → length (xs ++ ys) ≡ length (us ++ vs)
length-both xs ys us vs d e = omega (arith, length-append xs ys, length-append us vs)

-- what is drawn of an entry and those behind it
pub words-entries : (e : Entry) (es : List Entry) → words_in (flat_map items_in (e ∷ es)) ≡ words_in e.items ++ words_in (flat_map items_in es)
words-entries e es = flat_map-append word_in e.items (flat_map items_in es)

module _ (l : Look) where
  box-count : (s : Spot) (a : Item) → length (box_of l s a) ≡ length (word_in a)
  box-count s (cell_word w) = refl
  box-count s (template_word a w) = refl
  box-count s space = refl
  box-count s (kern z) = refl
  box-count s hfil = refl

  pub items-count : (f : Fills) (p : ℕ) (s : Spot) (is : List Item) → length (item_boxes l f p s is) ≡ length (words_in is)
  unfolding item_boxes
  items-count f p s [] = refl
  items-count f p s (a ∷ rest) = length-both (box_of l (shifted f p s) a) (item_boxes l f (p + fill_in a) (behind l a s) rest) (word_in a) (words_in rest) (box-count (shifted f p s) a) (items-count f (p + fill_in a) (behind l a s) rest)

  module _ (c : Columns) where
    pub row-count : (y : ℤ) (t : ℕ) (es : List Entry) → length (row_boxes l c y t es) ≡ length (words_in (flat_map items_in es))
    unfolding row_boxes
    row-count y t [] = refl
    row-count y t (e ∷ rest) =
        length-both (entry_boxes l c y t e) (row_boxes l c y (t + entry_bytes e) rest) (words_in e.items) (words_in (flat_map items_in rest)) (items-count (fills_of l c e) 0 (start_of c y t e) e.items) (row-count y (t + entry_bytes e) rest)
        ∙ ap length (sym (words-entries e rest))

    line-count : (t top : ℤ) (p : ℕ) (s : Line) → length (line_boxes l c t top p s) ≡ length (drawn_by s)
    line-count t top p (row es) = row-count _ p es
    line-count t top p rule = refl
    line-count t top p (gap z) = refl

    pub table-count : (t top : ℤ) (p : ℕ) (ss : List Line) → length (table_boxes l c t top p ss) ≡ length (drawn_in ss)
    unfolding table_boxes
    table-count t top p [] = refl
    table-count t top p (s ∷ rest) = length-both (line_boxes l c t top p s) (table_boxes l c t (top +ℤ line_size l s) (p + line_bytes s) rest) (drawn_by s) (drawn_in rest) (line-count t top p s) (table-count t (top +ℤ line_size l s) (p + line_bytes s) rest)

pub draws-all : DrawsAll
draws-all l c t ss = table-count l c t (pos 0) 0 ss

pub item-bytes : (a : Item) → bytes_in a ≡ length (cell_bytes a)
item-bytes (cell_word w) = refl
item-bytes (template_word a w) = refl
item-bytes space = refl
item-bytes (kern z) = refl
item-bytes hfil = refl

pub items-bytes : (is : List Item) → total bytes_in is ≡ length (flat_map cell_bytes is)
unfolding total
items-bytes [] = refl
items-bytes (a ∷ rest) = omega (arith, length-append (cell_bytes a) (flat_map cell_bytes rest), item-bytes a, items-bytes rest)

pub entries-bytes : (es : List Entry) → total entry_bytes es ≡ length (flat_map cell_bytes (flat_map items_in es))
unfolding total
entries-bytes [] = refl
entries-bytes (e ∷ rest) =
    let xs = flat_map items_in rest in
    let joined = ap length (flat_map-append cell_bytes e.items xs) in
    omega (arith, joined, length-append (flat_map cell_bytes e.items) (flat_map cell_bytes xs), items-bytes e.items, entries-bytes rest)

pub lines-bytes : (ss : List Line) → total line_bytes ss ≡ length (line_text ss)
unfolding total
lines-bytes [] = refl
lines-bytes (s ∷ rest) =
    let xs = line_items s in
    let joined = ap length (flat_map-append cell_bytes xs (lines_items rest)) in
    omega (arith, joined, length-append (flat_map cell_bytes xs) (line_text rest), entries-bytes (entries_in s), lines-bytes rest)
