-- What a list of boxes says of the lines that it is drawn from. Assumes nothing.
use Rattle.std.specs.Prelude.{◌≡◌, ℕ, ◌+◌, ◌≤◌, List, [], ◌∷◌, ◌++◌, map, length, take, drop, ℤ, pos, ◌+ℤ◌, Some, None, Option, slice_index_or}
use Rattle.std.specs.List.{flat_map, AllByRecursion}
use Rattle.boxlist.specs.declared.BoxRecord.{BoxRecord}
use Rattle.boxlist.specs.Parts.{named_part}
use Rattle.ledger.specs.Chunks.{total}
use Rattle.ledger.specs.Ledger.{Item, cell_word, template_word, space, kern, hfil, Entry, Line, row, rule, gap}
use Rattle.ledger.specs.Calls.{items_in, entries_in}
use Rattle.sharing.specs.Rule.{portion}
use Rattle.sharing.specs.Columns.{left_of}
use Rattle.packer.specs.Looks.{Look, fill_in}
use Rattle.packer.specs.Boxes.{Columns, Spot, box_of, wide_in, fills_of}
use Rattle.packer.specs.Lines.{row_height, rule_box, table_boxes, total_height}

-- the items of a line, and of lines
abbrev pub line_items : Line → List Item
line_items s = flat_map items_in (entries_in s)

abbrev pub lines_items : List Line → List Item
lines_items ss = flat_map line_items ss

-- the bytes of the words of cells, back to back: the line text
abbrev pub cell_bytes : Item → List ℕ
cell_bytes (cell_word w) = w
cell_bytes (template_word a w) = []
cell_bytes space = []
cell_bytes (kern z) = []
cell_bytes hfil = []

abbrev pub line_text : List Line → List ℕ
line_text ss = flat_map cell_bytes (lines_items ss)

-- what is drawn, in its order: each word's bytes, and nothing for a rule
abbrev pub word_in : Item → List (Option (List ℕ))
word_in (cell_word w) = Some w ∷ []
word_in (template_word a w) = Some w ∷ []
word_in space = []
word_in (kern z) = []
word_in hfil = []

abbrev pub words_in : List Item → List (Option (List ℕ))
words_in is = flat_map word_in is

abbrev pub drawn_by : Line → List (Option (List ℕ))
drawn_by (row es) = words_in (line_items (row es))
drawn_by rule = None ∷ []
drawn_by (gap z) = []

abbrev pub drawn_in : List Line → List (Option (List ℕ))
drawn_in ss = flat_map drawn_by ss

-- a template's word is its part of the preamble text
abbrev pub InText : List ℕ → Item → Type 0
InText p (cell_word w) = Unit {0}
InText p (template_word a w) = (a + length w ≤ length p) × (take (length w) (drop a p) ≡ w)
InText p space = Unit {0}
InText p (kern z) = Unit {0}
InText p hfil = Unit {0}

-- each box names its word's bytes, in the order of what is drawn; a rule's names none
abbrev pub NamesWords : Type 0
NamesWords = (l : Look) (c : Columns) (t : ℤ) (p : List ℕ) (ss : List Line) → AllByRecursion (InText p) (lines_items ss)
    → map (λ r. named_part r p (line_text ss)) (table_boxes l c t (pos 0) 0 ss) ≡ drawn_in ss

-- a line stands below all before it
abbrev pub top_of : Look → List Line → ℤ
top_of l before = total_height l before

-- a word in its row: the lines before, the entries before in its row, its entry, the items before in that
abbrev pub spot_in : Look → Columns → List Line → List Entry → List Entry → Entry → List Item → Spot
spot_in l c before left es e front = record {
  x = (left_of c.widths c.first c.gaps e.first +ℤ wide_in l front) +ℤ pos (portion (fills_of l c e).surplus (total fill_in front) (fills_of l c e).count);
  y = top_of l before +ℤ row_height l es;
  place = length (line_text before) + length (flat_map cell_bytes (flat_map items_in left ++ front));
}

-- a word's box stands behind those of all words and rules before it; its left edge is its entry's, with the widths of the items
-- before it and what the fills among these have grown by; its baseline is its line's top with the row's height
abbrev pub PlacesWords : Type 0
PlacesWords = (l : Look) (c : Columns) (t : ℤ) (before after : List Line) (left right : List Entry) (e : Entry) (front back : List Item) (a : Item) (box : BoxRecord)
    → e.items ≡ front ++ a ∷ back
    → box_of l (spot_in l c before left (left ++ e ∷ right) e front) a ≡ box ∷ []
    → (d : BoxRecord) → slice_index_or (table_boxes l c t (pos 0) 0 (before ++ row (left ++ e ∷ right) ∷ after)) (length (drawn_in before) + length (words_in (flat_map items_in left ++ front))) d ≡ box

-- a rule's box too, and its lower edge is its line's top with its height
abbrev pub PlacesRules : Type 0
PlacesRules = (l : Look) (c : Columns) (t : ℤ) (before after : List Line) (d : BoxRecord)
    → slice_index_or (table_boxes l c t (pos 0) 0 (before ++ rule ∷ after)) (length (drawn_in before)) d ≡ rule_box l t (top_of l before)

-- and there are no other boxes
abbrev pub DrawsAll : Type 0
DrawsAll = (l : Look) (c : Columns) (t : ℤ) (ss : List Line) → length (table_boxes l c t (pos 0) 0 ss) ≡ length (drawn_in ss)
