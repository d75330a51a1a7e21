use Rattle.std.proofs.Common.{◌≡◌, ℕ, ◌≤◌, true, List, [], ◌∷◌, length, drop, ℤ, pos, ◌+ℤ◌, ◌≤ℤ◌, int_le, w64, sym, ap, ◌∙◌, subst, arith}
use Rattle.std.specs.List.{flat_map}
use Rattle.std.proofs.lemmas.Int.{ints, to_z-of_z}
use Rattle.ledger.specs.Chunks.{total}
use Rattle.ledger.specs.Items.{taken, meant, decoded_items}
use Rattle.boxlist.specs.declared.BoxRecord.{BoxRecord}
use Rattle.ledger.specs.Ledger.{Item, Entry}
use Rattle.ledger.specs.Calls.{items_in, gap_fits}
use Rattle.ledger.specs.Lawful.{low}
use Rattle.ledger.specs.declared.records.ItemRecord.{ItemRecord}
use Rattle.ledger.proofs.Cuts.{length-chunks}
use Rattle.rows.specs.declared.state.EntryRecord.{EntryRecord}
use Rattle.rows.specs.declared.state.LineRecord.{LineRecord}
use Rattle.rows.specs.declared.state.LineRecord.TheVariants.{Row, Rule, Gap}
use Rattle.rows.specs.Held.{counted, line_of, decoded_entries}
use Rattle.packer.specs.Looks.{Look, most}
use Rattle.packer.specs.Boxes.{Columns, row_boxes}
use Rattle.packer.specs.Lines.{row_height, row_depth, rule_box, line_size, line_boxes}
use Rattle.packer.specs.Views.{look_in, items_from, HasRoom, Drawn}
use Rattle.packer.proofs.Cuts.{both}
use Rattle.packer.proofs.Numbers.{kept, kept-sum}
use Rattle.packer.proofs.Pens.{drawn-none}
use Rattle.packer.proofs.Columns.{columns-between, edges-between}
use Rattle.packer.proofs.Tables.{row-items}
use Rattle.packer.proofs.source.Source.draw_line.Goals as goal

-- the largest of a row's items
row-most : {E : Type 0} (f : Item → ℤ) (es : List (EntryRecord E)) (q t : List ℕ) (is : List ItemRecord) (h : ℤ) → total counted es ≡ length is → h ≡ most f (decoded_items q is t) → h ≡ most f (flat_map items_in (decoded_entries es (decoded_items q is t)))
row-most f es q t is h e m =
    let few : length (decoded_items q is t) ≤ total counted es = omega (arith, length-chunks taken (meant q) is t) in
    m ∙ ap (most f) (sym (row-items es (decoded_items q is t) few))

-- a gap's length is in its range
gap-within : (r : LineRecord) (z : ℤ) (es : List Entry) → r ≡ Gap z → low (line_of r es) ≡ true → (pos 0 ≤ℤ z) × (z ≤ℤ pos 16777215)
gap-within r z es is h = by z (subst (λ (x : LineRecord). low (line_of x es) ≡ true) is h)
  where
    by : (z : ℤ) → gap_fits z ≡ true → (pos 0 ≤ℤ z) × (z ≤ℤ pos 16777215)
    by z h = let b = both (int_le (pos 0) z) (int_le z (pos 16777215)) h in (grind (arith, ints, b.0), grind (arith, ints, b.1))

module _ (l : Look) (r : LineRecord) (es : List Entry) where
  row-size : (n : ℕ) (h d : ℤ) → r ≡ Row n → h ≡ row_height l es → d ≡ row_depth l es → h +ℤ d ≡ line_size l (line_of r es)
  row-size n h d is a b = (λ i. a i +ℤ b i) ∙ ap (λ (x : LineRecord). line_size l (line_of x es)) (sym is)

  module _ (c : Columns) (w top : ℤ) (p : ℕ) where
    row-drawn : (n : ℕ) → r ≡ Row n → line_boxes l c w top p (line_of r es) ≡ row_boxes l c (top +ℤ row_height l es) p es
    row-drawn n is = ap (λ (x : LineRecord). line_boxes l c w top p (line_of x es)) is

    rule-drawn : r ≡ Rule → line_boxes l c w top p (line_of r es) ≡ rule_box l w top ∷ []
    rule-drawn is = ap (λ (x : LineRecord). line_boxes l c w top p (line_of x es)) is

    gap-drawn : (z : ℤ) → r ≡ Gap z → line_boxes l c w top p (line_of r es) ≡ []
    gap-drawn z is = ap (λ (x : LineRecord). line_boxes l c w top p (line_of x es)) is

pub draw_row-requires-clause-room : goal.draw_row-requires-clause-room
draw_row-requires-clause-room g c q a =
    let l = look_in g.M.Measurer g.M.Extent.Extent c.args.self.now in
    let part = c.args.part in
    let xs = items_from c.args.self.now part.items.now part.place in
    let size = c.row_size-size in
    let h = row-most l.high part.entries.now c.args.self.now.preamble.now (drop part.place c.args.self.now.lines.now) part.items.now size.result.height c.requires.counts size.ensures.height in
    let sum = kept-sum c.args.top size.result.height c.requires.top (omega (arith, ints, size.ensures.high), omega (arith, ints, size.ensures.high)) in
    let y = sum ∙ ap (λ (z : ℤ). c.args.top +ℤ z) h in
    subst (λ (z : ℤ). HasRoom c.args.pen.now (row_boxes l q z part.place (decoded_entries part.entries.now xs))) (sym y)
    (subst (HasRoom c.args.pen.now) (row-drawn l c.args.line (decoded_entries part.entries.now xs) q c.args.width c.args.top part.place c.in-Row.field-0 c.in-Row.is) (c.requires.room q a))

pub rule_record-requires : goal.rule_record-requires
rule_record-requires g c =
    let w = c.distance-height.ensures.within in
    let a = kept c.args.top c.requires.top.0 (omega (arith, ints, c.requires.top)) in
    let b = kept c.distance-height.result w.0 (omega (arith, ints, w)) in
    ((omega (arith, ints, c.requires.top), omega (arith, ints, c.requires.top)), (omega (arith, ints, w), omega (arith, ints, w)))

pub put-requires : goal.put-requires
put-requires g c =
    let l = look_in g.M.Measurer g.M.Extent.Extent c.args.self.now in
    let part = c.args.part in
    let es = decoded_entries part.entries.now (items_from c.args.self.now part.items.now part.place) in
    let q = columns-between c.args.columns.now in
    subst (HasRoom c.args.pen.now) (rule-drawn l c.args.line es q c.args.width c.args.top part.place c.in-Rule.is) (c.requires.room q (edges-between c.args.columns.now))

pub distance-requires-clause-small : goal.distance-requires-clause-small
distance-requires-clause-small g c =
    let part = c.args.part in
    let w = gap-within c.args.line c.in-Gap.length (decoded_entries part.entries.now (items_from c.args.self.now part.items.now part.place)) c.in-Gap.is c.requires.low in
    let a = kept c.in-Gap.length w.0 (omega (arith, ints, w)) in
    (omega (arith, ints, w), omega (arith, ints, w))

pub returns-in-Row-clause-size : goal.returns-in-Row-clause-size
returns-in-Row-clause-size g c =
    let l = look_in g.M.Measurer g.M.Extent.Extent c.args.self.now in
    let part = c.args.part in
    let q = c.args.self.now.preamble.now in
    let t = drop part.place c.args.self.now.lines.now in
    let size = c.row_size-size in
    let h = row-most l.high part.entries.now q t part.items.now size.result.height c.requires.counts size.ensures.height in
    let d = row-most l.deep part.entries.now q t part.items.now size.result.depth c.requires.counts size.ensures.depth in
    let sum = kept-sum size.result.height size.result.depth (size.ensures.high.0, omega (arith, ints, size.ensures.high)) (size.ensures.deep.0, omega (arith, ints, size.ensures.deep)) in
    sum ∙ row-size l c.args.line (decoded_entries part.entries.now (items_from c.args.self.now part.items.now part.place)) c.in-Row.field-0 size.result.height size.result.depth c.in-Row.is h d

pub returns-in-Row-clause-boxes : goal.returns-in-Row-clause-boxes
returns-in-Row-clause-boxes g c q a =
    let l = look_in g.M.Measurer g.M.Extent.Extent c.args.self.now in
    let part = c.args.part in
    let xs = items_from c.args.self.now part.items.now part.place in
    let size = c.row_size-size in
    let h = row-most l.high part.entries.now c.args.self.now.preamble.now (drop part.place c.args.self.now.lines.now) part.items.now size.result.height c.requires.counts size.ensures.height in
    let sum = kept-sum c.args.top size.result.height c.requires.top (omega (arith, ints, size.ensures.high), omega (arith, ints, size.ensures.high)) in
    let y = sum ∙ ap (λ (z : ℤ). c.args.top +ℤ z) h in
    subst (Drawn c.args.pen.now c.draw_row.new.pen) (sym (row-drawn l c.args.line (decoded_entries part.entries.now xs) q c.args.width c.args.top part.place c.in-Row.field-0 c.in-Row.is))
    (subst (λ (z : ℤ). Drawn c.args.pen.now c.draw_row.new.pen (row_boxes l q z part.place (decoded_entries part.entries.now xs))) y (c.draw_row.ensures q a))

pub returns-in-Rule-clause-boxes : goal.returns-in-Rule-clause-boxes
returns-in-Rule-clause-boxes g c q a =
    let l = look_in g.M.Measurer g.M.Extent.Extent c.args.self.now in
    let part = c.args.part in
    let es = decoded_entries part.entries.now (items_from c.args.self.now part.items.now part.place) in
    let height = c.distance-height in
    let w = height.ensures.within in
    let t = kept c.args.top c.requires.top.0 (omega (arith, ints, c.requires.top)) in
    let x = to_z-of_z w64 c.args.width c.ranges.width in
    let h = kept height.result w.0 (omega (arith, ints, w)) ∙ height.ensures.is in
    let box : c.rule_record.result ≡ rule_box l c.args.width c.args.top = c.rule_record.ensures l h ∙ (λ i. rule_box l (x i) (t i)) in
    subst (Drawn c.args.pen.now c.put.new.self) (sym (rule-drawn l c.args.line es q c.args.width c.args.top part.place c.in-Rule.is))
    (subst (λ (b : BoxRecord). Drawn c.args.pen.now c.put.new.self (b ∷ [])) box c.put.ensures)

pub returns-in-Gap-clause-within : goal.returns-in-Gap-clause-within
returns-in-Gap-clause-within g c =
    let w = c.distance.ensures.within in
    let a = kept c.distance.result w.0 (omega (arith, ints, w)) in
    (omega (arith, ints, w), omega (arith, ints, w))

pub returns-in-Gap-clause-boxes : goal.returns-in-Gap-clause-boxes
returns-in-Gap-clause-boxes g c q a =
    let part = c.args.part in
    subst (Drawn c.args.pen.now c.args.pen.now) (sym (gap-drawn (look_in g.M.Measurer g.M.Extent.Extent c.args.self.now) c.args.line (decoded_entries part.entries.now (items_from c.args.self.now part.items.now part.place)) q c.args.width c.args.top part.place c.in-Gap.length c.in-Gap.is))
    (drawn-none c.args.pen.now)
