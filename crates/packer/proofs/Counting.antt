-- How many boxes a table has, whatever its columns. Assumes nothing.
use Rattle.std.proofs.Common.{◌≡◌, ℕ, ◌+◌, ◌≤◌, List, [], ◌∷◌, ◌++◌, length, take, drop, ℤ, ◌+ℤ◌, sym, refl, ap, ◌∙◌, arith}
use Rattle.std.specs.List.{flat_map}
use Rattle.std.proofs.lemmas.List.{length-append}
use Rattle.ledger.specs.Chunks.{chunks, total}
use Rattle.ledger.specs.Items.{taken, meant, decoded_items}
use Rattle.ledger.specs.Ledger.{Item, cell_word, template_word, space, kern, hfil, Entry, Line, row, rule, gap}
use Rattle.ledger.specs.Calls.{items_in, entries_in}
use Rattle.ledger.specs.declared.records.ItemRecord.{ItemRecord}
use Rattle.ledger.specs.declared.records.ItemRecord.TheVariants.{Space, CellWord, TemplateWord, Kern, Hfil}
use Rattle.ledger.proofs.Cuts.{total-append}
use Rattle.rows.specs.declared.state.LineRecord.{LineRecord}
use Rattle.rows.specs.declared.state.LineRecord.TheVariants.{Row, Rule, Gap}
use Rattle.rows.specs.Held.{rowed, line_of, decoded_lines}
use Rattle.rows.proofs.Counts.{joined-append}
use Rattle.packer.specs.Looks.{Look, fill_in}
use Rattle.packer.specs.Boxes.{Columns, Spot, Fills, box_of, behind, shifted, item_boxes, entry_bytes, row_boxes}
use Rattle.packer.specs.Lines.{row_height, line_size, line_bytes, line_boxes, table_boxes}
use Rattle.packer.specs.Counted.{boxed, ruled}

-- the boxes of an item, and those of a line besides its items'
abbrev pub worded : Item → ℕ
worded (cell_word w) = 1
worded (template_word a w) = 1
worded space = 0
worded (kern z) = 0
worded hfil = 0

abbrev pub lined : Line → ℕ
lined (row es) = 0
lined rule = 1
lined (gap z) = 0

worded-append : (xs ys : List Item) → total worded (xs ++ ys) ≡ total worded xs + total worded ys
worded-append xs ys = total-append worded (λ (a : Item) (zs : List ℕ). a) xs ys

module _ (l : Look) where
  item-count : (s : Spot) (a : Item) → length (box_of l s a) ≡ worded a
  item-count s (cell_word w) = refl
  item-count s (template_word a w) = refl
  item-count s space = refl
  item-count s (kern z) = refl
  item-count s hfil = refl

  items-count : (f : Fills) (p : ℕ) (s : Spot) (xs : List Item) → length (item_boxes l f p s xs) ≡ total worded xs
  unfolding item_boxes total
  items-count f p s [] = refl
  items-count f p s (a ∷ xs) =
      let here = item-count (shifted f p s) a in
      let rest = items-count f (p + fill_in a) (behind l a s) xs in
      omega (arith, length-append (box_of l (shifted f p s) a) (item_boxes l f (p + fill_in a) (behind l a s) xs))

  row-count : (c : Columns) (y : ℤ) (p : ℕ) (es : List Entry) → length (row_boxes l c y p es) ≡ total worded (flat_map items_in es)
  unfolding row_boxes total
  row-count c y p [] = refl
  row-count c y p (e ∷ es) =
      let here = items-count _ 0 _ e.items in
      let rest = row-count c y (p + entry_bytes e) es in
      length-append _ (row_boxes l c y (p + entry_bytes e) es) ∙ (λ i. here i + rest i) ∙ sym (worded-append e.items (flat_map items_in es))

  line-count : (c : Columns) (w top : ℤ) (p : ℕ) (s : Line) → length (line_boxes l c w top p s) ≡ total worded (flat_map items_in (entries_in s)) + lined s
  unfolding total
  line-count c w top p (row es) = let e = row-count c (top +ℤ row_height l es) p es in omega (arith, e)
  line-count c w top p rule = refl
  line-count c w top p (gap z) = refl

  pub table-count : (c : Columns) (w top : ℤ) (p : ℕ) (ss : List Line) → length (table_boxes l c w top p ss) ≡ total worded (flat_map items_in (flat_map entries_in ss)) + total lined ss
  unfolding table_boxes total
  table-count c w top p [] = refl
  table-count c w top p (s ∷ ss) =
      let here = line-count c w top p s in
      let rest = table-count c w (top +ℤ line_size l s) (p + line_bytes s) ss in
      let all = ap (total worded) (joined-append items_in (entries_in s) (flat_map entries_in ss)) ∙ worded-append (flat_map items_in (entries_in s)) (flat_map items_in (flat_map entries_in ss)) in
      omega (arith, length-append (line_boxes l c w top p s) (table_boxes l c w (top +ℤ line_size l s) (p + line_bytes s) ss), here, rest, all)

-- .. by the records
worded-is : (q : List ℕ) (i : ItemRecord) (t : List ℕ) → worded (meant q i t) ≡ boxed i
worded-is q Space t = refl
worded-is q (CellWord n) t = refl
worded-is q (TemplateWord a n) t = refl
worded-is q (Kern z) t = refl
worded-is q Hfil t = refl

pub words-are : (q : List ℕ) (is : List ItemRecord) (t : List ℕ) → total worded (decoded_items q is t) ≡ total boxed is
unfolding chunks total
words-are q [] t = refl
words-are q (i ∷ is) t = let here = worded-is q i (take (taken i) t) in let rest = words-are q is (drop (taken i) t) in (λ j. here j + rest j)

lined-is : (r : LineRecord) (es : List Entry) → lined (line_of r es) ≡ ruled r
lined-is (Row n) es = refl
lined-is Rule es = refl
lined-is (Gap z) es = refl

pub rules-are : (ls : List LineRecord) (es : List Entry) → total lined (decoded_lines ls es) ≡ total ruled ls
unfolding chunks total
rules-are [] es = refl
rules-are (r ∷ ls) es = let here = lined-is r (take (rowed r) es) in let rest = rules-are ls (drop (rowed r) es) in (λ j. here j + rest j)

-- no more than one each
pub few-boxed : (is : List ItemRecord) → total boxed is ≤ length is
unfolding total
few-boxed [] = omega arith
few-boxed (i ∷ is) = let h = few-boxed is in let o = one i in omega arith
  where
    one : (i : ItemRecord) → boxed i ≤ 1
    one Space = omega arith
    one (CellWord n) = omega arith
    one (TemplateWord a n) = omega arith
    one (Kern z) = omega arith
    one Hfil = omega arith

pub few-ruled : (ls : List LineRecord) → total ruled ls ≤ length ls
unfolding total
few-ruled [] = omega arith
few-ruled (r ∷ ls) = let h = few-ruled ls in let o = one r in omega arith
  where
    one : (r : LineRecord) → ruled r ≤ 1
    one (Row n) = omega arith
    one Rule = omega arith
    one (Gap z) = omega arith
