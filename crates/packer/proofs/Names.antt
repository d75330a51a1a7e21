-- Each box names the bytes of its word. Assumes nothing.
use Rattle.std.proofs.Common.{◌≡◌, ℕ, ◌+◌, ◌≤◌, Bool, cond, List, [], ◌∷◌, ◌++◌, map, length, take, drop, ℤ, pos, ◌+ℤ◌, Some, None, Option, refl, sym, ap, subst, ◌∙◌, append_assoc, append-nil, arith}
use Rattle.std.specs.List.{flat_map, AllByRecursion}
use Rattle.std.proofs.Math.Seq.{take-append_seam, drop-append_seam}
use Rattle.std.proofs.lemmas.Bool.{le-leb}
use Rattle.std.proofs.lemmas.List.{length-append, map-append}
use Rattle.std.proofs.lemmas.Grind.{flat_map-append}
use Rattle.boxlist.specs.declared.BoxRecord.{BoxRecord}
use Rattle.boxlist.specs.Parts.{named_part, text_part}
use Rattle.ledger.specs.Ledger.{Item, cell_word, template_word, space, kern, hfil, Entry, Line, row, rule, gap}
use Rattle.ledger.specs.Calls.{bytes_in, items_in, entries_in}
use Rattle.packer.specs.Looks.{Look, fill_in}
use Rattle.packer.specs.Boxes.{Columns, Spot, Fills, box_of, shifted, behind, item_boxes, fills_of, start_of, entry_boxes, entry_bytes, row_boxes}
use Rattle.packer.specs.Lines.{row_height, line_size, line_bytes, line_boxes, table_boxes}
use Rattle.packer.specs.Laws.{line_items, lines_items, cell_bytes, line_text, word_in, words_in, drawn_by, drawn_in, InText, NamesWords}
use Rattle.packer.proofs.Alls.{all-left, all-right}
use Rattle.packer.proofs.Counts.{words-entries, item-bytes, items-bytes, entries-bytes}

-- these bytes are in a text, so far from its front
record Lies (text : List ℕ) (place : ℕ) (bs : List ℕ) : Type 0 where
  before : List ℕ
  behind : List ℕ
  whole : text ≡ before ++ (bs ++ behind)
  begins : length before ≡ place

lies-first : (text : List ℕ) (place : ℕ) (xs ys : List ℕ) → Lies text place (xs ++ ys) → Lies text place xs
lies-first text place xs ys h = record {
  before = h.before;
  behind = ys ++ h.behind;
  whole = h.whole ∙ simp append_assoc;
  begins = h.begins;
}

lies-behind : (text : List ℕ) (place n : ℕ) (xs ys : List ℕ) → n ≡ length xs → Lies text place (xs ++ ys) → Lies text (place + n) ys
lies-behind text place n xs ys e h = record {
  before = h.before ++ xs;
  behind = h.behind;
  whole = h.whole ∙ simp append_assoc;
  begins = omega (arith, length-append h.before xs, h.begins);
}

text-part : (text : List ℕ) (place : ℕ) (w : List ℕ) → place + length w ≤ length text → take (length w) (drop place text) ≡ w → text_part text (pos place) (pos (length w)) ≡ Some w
text-part text place w le is =
    ap (λ (b : Bool). cond b (Some (take (length w) (drop place text))) None) (le-leb (place + length w) (length text) le) ∙ ap (λ (t : List ℕ). Some t) is

lies-part : (text : List ℕ) (place : ℕ) (w : List ℕ) → Lies text place w → text_part text (pos place) (pos (length w)) ≡ Some w
lies-part text place w h =
    let long = ap length h.whole in
    let rest = ap (drop place) h.whole ∙ (λ i. drop (sym h.begins i) (h.before ++ (w ++ h.behind))) ∙ drop-append_seam h.before (w ++ h.behind) in
    text-part text place w (omega (arith, long, h.begins, length-append h.before (w ++ h.behind), length-append w h.behind))
    (ap (take (length w)) rest ∙ take-append_seam w h.behind)

map-both : {A B : Type 0} (f : A → B) (xs ys : List A) (us vs : List B) → map f xs ≡ us → map f ys ≡ vs → map f (xs ++ ys) ≡ us ++ vs
map-both f xs ys us vs d e = map-append f xs ys ∙ (λ i. d i ++ e i)

-- in a preamble text p and a line text
module _ (p text : List ℕ) where
  abbrev named : BoxRecord → Option (List ℕ)
  named r = named_part r p text

  module _ (l : Look) where
    box-names : (s : Spot) (a : Item) → InText p a → Lies text s.place (cell_bytes a) → map named (box_of l s a) ≡ word_in a
    box-names s (cell_word w) k h = ap (λ (o : Option (List ℕ)). o ∷ []) (lies-part text s.place w h)
    box-names s (template_word a w) k h = ap (λ (o : Option (List ℕ)). o ∷ []) (text-part p a w k.0 k.1)
    box-names s space k h = refl
    box-names s (kern z) k h = refl
    box-names s hfil k h = refl

    items-name : (f : Fills) (n : ℕ) (s : Spot) (is : List Item) → AllByRecursion (InText p) is → Lies text s.place (flat_map cell_bytes is) → map named (item_boxes l f n s is) ≡ words_in is
    unfolding item_boxes
    items-name f n s [] k h = refl
    items-name f n s (a ∷ rest) k h =
        map-both named (box_of l (shifted f n s) a) (item_boxes l f (n + fill_in a) (behind l a s) rest) (word_in a) (words_in rest)
        (box-names (shifted f n s) a k.0 (lies-first text s.place (cell_bytes a) (flat_map cell_bytes rest) h))
        (items-name f (n + fill_in a) (behind l a s) rest k.1 (lies-behind text s.place (bytes_in a) (cell_bytes a) (flat_map cell_bytes rest) (item-bytes a) h))

    module _ (c : Columns) where
      row-names : (y : ℤ) (place : ℕ) (es : List Entry) → AllByRecursion (InText p) (flat_map items_in es) → Lies text place (flat_map cell_bytes (flat_map items_in es)) → map named (row_boxes l c y place es) ≡ words_in (flat_map items_in es)
      unfolding row_boxes
      row-names y place [] k h = refl
      row-names y place (e ∷ rest) k h =
          let xs = flat_map items_in rest in
          let lies = subst (Lies text place) (flat_map-append cell_bytes e.items xs) h in
          map-both named (entry_boxes l c y place e) (row_boxes l c y (place + entry_bytes e) rest) (words_in e.items) (words_in xs)
          (items-name (fills_of l c e) 0 (start_of c y place e) e.items (all-left (InText p) e.items xs k) (lies-first text place (flat_map cell_bytes e.items) (flat_map cell_bytes xs) lies))
          (row-names y (place + entry_bytes e) rest (all-right (InText p) e.items xs k) (lies-behind text place (entry_bytes e) (flat_map cell_bytes e.items) (flat_map cell_bytes xs) (items-bytes e.items) lies))
          ∙ sym (words-entries e rest)

      line-names : (t top : ℤ) (place : ℕ) (s : Line) → AllByRecursion (InText p) (line_items s) → Lies text place (flat_map cell_bytes (line_items s)) → map named (line_boxes l c t top place s) ≡ drawn_by s
      line-names t top place (row es) k h = row-names (top +ℤ row_height l es) place es k h
      line-names t top place rule k h = refl
      line-names t top place (gap z) k h = refl

      table-names : (t top : ℤ) (place : ℕ) (ss : List Line) → AllByRecursion (InText p) (lines_items ss) → Lies text place (line_text ss) → map named (table_boxes l c t top place ss) ≡ drawn_in ss
      unfolding table_boxes
      table-names t top place [] k h = refl
      table-names t top place (s ∷ rest) k h =
          let xs = line_items s in
          let ys = lines_items rest in
          let lies = subst (Lies text place) (flat_map-append cell_bytes xs ys) h in
          map-both named (line_boxes l c t top place s) (table_boxes l c t (top +ℤ line_size l s) (place + line_bytes s) rest) (drawn_by s) (drawn_in rest)
          (line-names t top place s (all-left (InText p) xs ys k) (lies-first text place (flat_map cell_bytes xs) (line_text rest) lies))
          (table-names t (top +ℤ line_size l s) (place + line_bytes s) rest (all-right (InText p) xs ys k) (lies-behind text place (line_bytes s) (flat_map cell_bytes xs) (line_text rest) (entries-bytes (entries_in s)) lies))

pub names-words : NamesWords
names-words l c t p ss k = table-names p (line_text ss) l c t (pos 0) 0 ss k (record { before = []; behind = []; whole = sym (append-nil (line_text ss)); begins = refl })
