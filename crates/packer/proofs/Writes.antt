-- The list of lines that are in their ranges may be written. Assumes nothing.
use Rattle.std.proofs.Common.{◌≡◌, ℕ, ◌+◌, ◌*◌, ◌^◌, ◌≤◌, true, List, [], ◌∷◌, ◌++◌, length, ℤ, pos, ◌+ℤ◌, ◌≤ℤ◌, refl, ap, subst, ◌∙◌, inr, arith}
use Rattle.std.specs.List.{flat_map, list_all, AllByRecursion}
use Rattle.std.proofs.ByRecursion.{All-append, All-from_get_or}
use Rattle.std.proofs.lemmas.Int.{ints}
use Rattle.std.proofs.lemmas.Bool.{and_parts}
use Rattle.std.proofs.lemmas.List.{length-append}
use Rattle.std.proofs.lemmas.Grind.{flat_map-append}
use Rattle.boxlist.specs.Lists.{Counted, WritableBox}
use Rattle.ledger.specs.Chunks.{total}
use Rattle.measure.specs.Ranges.{Upto}
use Rattle.ledger.specs.Ledger.{Item, cell_word, template_word, space, kern, hfil, Entry, Line, row, rule, gap}
use Rattle.ledger.specs.Calls.{items_in, entries_in}
use Rattle.ledger.specs.Lawful.{low}
use Rattle.packer.specs.Looks.{Look}
use Rattle.packer.specs.Boxes.{Columns, entry_boxes, entry_bytes, row_boxes}
use Rattle.packer.specs.Lines.{row_height, rule_height, line_size, line_bytes, line_boxes, table_boxes, total_height}
use Rattle.packer.specs.Laws.{line_items, lines_items, word_in, words_in, drawn_by, drawn_in}
use Rattle.packer.specs.Writes.{ItemSized, EntrySized, EndsLow, MayBeWritten}
use Rattle.packer.proofs.Counts.{table-count, lines-bytes}
use Rattle.packer.proofs.Sizes.{height-low, depth-low, rule-low, line-high, lines-high}
use Rattle.packer.proofs.Alls.{all-left, all-right, all-passed}
use Rattle.packer.proofs.Writable.{sized-by, counted-by, entry-writable}

-- lines in their ranges, from a top and a place in the line text on
record From (l : Look) (c : Columns) (top : ℤ) (p : ℕ) (ss : List Line) : Type 0 where
  below : pos 0 ≤ℤ top
  high : (top +ℤ total_height l ss) ≤ℤ pos (2 ^ 40)
  text : p + total line_bytes ss ≤ 2 ^ 40
  gaps : list_all low ss ≡ true
  entries : AllByRecursion (EntrySized l c) (flat_map entries_in ss)
  items : AllByRecursion (ItemSized l) (lines_items ss)
  ends : AllByRecursion EndsLow (lines_items ss)

module _ (l : Look) (c : Columns) where
  row-writable : (y : ℤ) (p : ℕ) (es : List Entry) → Counted y → p + total entry_bytes es ≤ 2 ^ 40 → AllByRecursion (EntrySized l c) es → AllByRecursion (ItemSized l) (flat_map items_in es) → AllByRecursion EndsLow (flat_map items_in es) → AllByRecursion WritableBox (row_boxes l c y p es)
  unfolding row_boxes total
  row-writable y p [] down text near items ends = tt
  row-writable y p (e ∷ rest) down text near items ends =
      let xs = flat_map items_in rest in
      All-append WritableBox (entry_boxes l c y p e) (row_boxes l c y (p + entry_bytes e) rest)
      (entry-writable l c y p e near.0 down (omega arith) (all-left (ItemSized l) e.items xs items) (all-left EndsLow e.items xs ends))
      (row-writable y (p + entry_bytes e) rest down (omega arith) near.1 (all-right (ItemSized l) e.items xs items) (all-right EndsLow e.items xs ends))

  module _ (entered : (z : ℤ) → Upto 16777215 z → Upto 16777215 (l.entered z)) (t : ℤ) (width : Upto 1073741823 t) where
    line-writable : (top : ℤ) (p : ℕ) (s : Line) → pos 0 ≤ℤ top → (top +ℤ line_size l s) ≤ℤ pos (2 ^ 40) → p + line_bytes s ≤ 2 ^ 40 → AllByRecursion (EntrySized l c) (entries_in s) → AllByRecursion (ItemSized l) (line_items s) → AllByRecursion EndsLow (line_items s) → AllByRecursion WritableBox (line_boxes l c t top p s)
    line-writable top p (row es) below high text near items ends =
        let h = height-low l es items in
        let d = depth-low l es items in
        row-writable (top +ℤ row_height l es) p es (counted-by (2 ^ 40) (top +ℤ row_height l es) (omega arith) (omega (arith, ints)) (omega (arith, ints))) text near items ends
    line-writable top p rule below high text near items ends =
        let h = rule-low l entered in (
          record {
            listed = inr refl;
            across = omega (arith, ints);
            down = counted-by (2 ^ 40) (top +ℤ rule_height l) (omega arith) (omega (arith, ints)) high;
            wide = sized-by 1073741823 t (omega arith) (omega (arith, ints), width.1);
            above = counted-by 16777215 (rule_height l) (omega arith) h.0 h.1;
            below = (omega (arith, ints), omega (arith, ints));
            part = λ e. absurd (cc);
          },
          tt,
        )
    line-writable top p (gap z) below high text near items ends = tt

    table-writable : (top : ℤ) (p : ℕ) (ss : List Line) → From l c top p ss → AllByRecursion WritableBox (table_boxes l c t top p ss)
    unfolding table_boxes total_height total
    table-writable top p [] h = tt
    table-writable top p (s ∷ rest) h =
        let both = and_parts (low s) (list_all low rest) h.gaps in
        let xs = line_items s in
        let ys = lines_items rest in
        let es = flat_map entries_in rest in
        let items = all-left (ItemSized l) xs ys h.items in
        let more = all-right (ItemSized l) xs ys h.items in
        let here = line-high l entered s both.0 items in
        let others = lines-high l entered rest both.1 more in
        All-append WritableBox (line_boxes l c t top p s) (table_boxes l c t (top +ℤ line_size l s) (p + line_bytes s) rest)
        (line-writable top p s h.below (omega (arith, ints, h.high)) (omega (arith, h.text)) (all-left (EntrySized l c) (entries_in s) es h.entries) items (all-left EndsLow xs ys h.ends))
        (table-writable (top +ℤ line_size l s) (p + line_bytes s) rest (record {
          below = omega (arith, ints, h.below);
          high = omega (arith, ints, h.high);
          text = omega (arith, h.text);
          gaps = both.1;
          entries = all-right (EntrySized l c) (entries_in s) es h.entries;
          items = more;
          ends = all-right EndsLow xs ys h.ends;
        }))

-- at most as many boxes as items and lines
words-few : (is : List Item) → length (words_in is) ≤ length is
words-few [] = omega arith
words-few (a ∷ rest) = omega (arith, length-append (word_in a) (words_in rest), one a, words-few rest)
  where
    one : (a : Item) → length (word_in a) ≤ 1
    one (cell_word w) = omega arith
    one (template_word a w) = omega arith
    one space = omega arith
    one (kern z) = omega arith
    one hfil = omega arith

line-few : (s : Line) → length (drawn_by s) ≤ length (line_items s) + 1
line-few (row es) = omega (arith, words-few (flat_map items_in es))
line-few rule = omega arith
line-few (gap z) = omega arith

lines-few : (ss : List Line) → length (drawn_in ss) ≤ length (lines_items ss) + length ss
lines-few [] = omega arith
lines-few (s ∷ rest) = omega (arith, length-append (drawn_by s) (drawn_in rest), length-append (line_items s) (lines_items rest), line-few s, lines-few rest)

-- the items of the entries of lines are those of the lines
pub lines-items : (ss : List Line) → flat_map items_in (flat_map entries_in ss) ≡ lines_items ss
lines-items [] = refl
lines-items (s ∷ rest) = flat_map-append items_in (entries_in s) (flat_map entries_in rest) ∙ ap (λ (t : List Item). line_items s ++ t) (lines-items rest)

pub may-be_written : MayBeWritten
may-be_written test l c t ss d =
    let known = subst (λ (is : List Item). list_all test is ≡ true) (lines-items ss) d.known in
    let items = all-passed (ItemSized l) test d.looks.items (lines_items ss) known in
    let high = lines-high l d.looks.entered ss d.gaps items in
    let few = d.few_lines in
    let es = flat_map entries_in ss in
    record {
      wide = counted-by 1073741823 t (omega arith) d.width.0 d.width.1;
      high = counted-by (33554430 * length ss) (total_height l ss) (omega arith) high.0 high.1;
      few = omega (arith, table-count l c t (pos 0) 0 ss, lines-few ss, d.few_items, few);
      each = table-writable l c d.looks.entered t d.width (pos 0) 0 ss (record {
        below = omega (arith, ints);
        high = omega (arith, ints);
        text = omega (arith, lines-bytes ss, d.text);
        gaps = d.gaps;
        entries = All-from_get_or (EntrySized l c) es (record { first = 0; last = 0; items = [] }) d.entries;
        items = items;
        ends = d.ends;
      });
    }
