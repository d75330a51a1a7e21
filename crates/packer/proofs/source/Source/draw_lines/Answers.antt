use Rattle.std.proofs.Common.{ℤ, pos, w64, subst, arith, rules}
use Rattle.std.proofs.lemmas.Int.{ints, to_z-of_z}
use Rattle.packer.specs.Lines.{table_boxes}
use Rattle.packer.specs.Views.{look_in, Drawn}
use Rattle.packer.proofs.Going.{going-start}
use Rattle.packer.proofs.Numbers.{sum-fits, kept-onto}
use Rattle.packer.proofs.TableLeft.{lines_from, room-at, rows-here, top-here, ready-own, counts-own, low-own, room-own, next-left, whole-height, whole-drawn}
use Rattle.packer.proofs.source.Source.draw_lines.Goals as goal

pub loop-line-init : goal.loop-line-init
loop-line-init g c =
    let r = c.requires in
    record {
      ready = record { few = r.few.0; known = r.known; stored = r.stored; counts = r.counts; text = omega (arith, r.text) };
      gaps = r.low;
      rows = r.rows;
      above = (omega (arith, ints), omega (arith, ints, r.few));
      height = omega (arith, ints);
      going = λ q a. going-start _ _;
    }

pub split-requires-clause-rows : goal.split-requires-clause-rows
split-requires-clause-rows g c = rows-here c.loop-line-test.true c.loop-line.invariant

pub split-requires-clause-counts : goal.split-requires-clause-counts
split-requires-clause-counts g c = c.loop-line.invariant.ready.counts

pub split-requires-clause-text : goal.split-requires-clause-text
split-requires-clause-text g c = let t = c.loop-line.invariant.ready.text in search rules

pub draw_line-top-requires-clause-few : goal.draw_line-top-requires-clause-few
draw_line-top-requires-clause-few g c =
    let s = c.split.ensures in
    (ready-own c.loop-line-test.true c.loop-line.invariant s.entries s.items s.place).few

pub draw_line-top-requires-clause-known : goal.draw_line-top-requires-clause-known
draw_line-top-requires-clause-known g c =
    let s = c.split.ensures in
    (ready-own c.loop-line-test.true c.loop-line.invariant s.entries s.items s.place).known

pub draw_line-top-requires-clause-low : goal.draw_line-top-requires-clause-low
draw_line-top-requires-clause-low g c =
    let s = c.split.ensures in
    low-own c.loop-line-test.true c.loop-line.invariant s.entries s.items s.place

pub draw_line-top-requires-clause-stored : goal.draw_line-top-requires-clause-stored
draw_line-top-requires-clause-stored g c =
    let s = c.split.ensures in
    (ready-own c.loop-line-test.true c.loop-line.invariant s.entries s.items s.place).stored

pub draw_line-top-requires-clause-counts : goal.draw_line-top-requires-clause-counts
draw_line-top-requires-clause-counts g c =
    let s = c.split.ensures in
    counts-own c.loop-line-test.true c.loop-line.invariant s.entries s.items s.place

pub draw_line-top-requires-clause-text : goal.draw_line-top-requires-clause-text
draw_line-top-requires-clause-text g c =
    let s = c.split.ensures in
    (ready-own c.loop-line-test.true c.loop-line.invariant s.entries s.items s.place).text

pub draw_line-top-requires-clause-top : goal.draw_line-top-requires-clause-top
draw_line-top-requires-clause-top g c = top-here c.loop-line-test.true c.loop-line.invariant

pub draw_line-top-requires-clause-room : goal.draw_line-top-requires-clause-room
draw_line-top-requires-clause-room g c =
    let s = c.split.ensures in
    room-own c.loop-line-test.true c.loop-line.invariant s.entries s.items s.place
    (room-at g.M.Measurer g.M.Extent.Extent c.args.self.now c.args.columns.now c.args.lines.now c.args.entries.now c.args.items.now c.args.pen.now c.args.width c.ranges.width c.requires.room)

pub overflow_add-top : goal.overflow_add-top
overflow_add-top g c =
    let t = top-here c.loop-line-test.true c.loop-line.invariant in
    sum-fits _ c.draw_line-top.result t c.draw_line-top.ensures.within

pub loop-line-preserved : goal.loop-line-preserved
loop-line-preserved g c =
    let s = c.split.ensures in
    let d = c.draw_line-top.ensures in
    let t = top-here c.loop-line-test.true c.loop-line.invariant in
    next-left c.loop-line-test.true c.loop-line.invariant s.entries s.items s.place
    (room-at g.M.Measurer g.M.Extent.Extent c.args.self.now c.args.columns.now c.args.lines.now c.args.entries.now c.args.items.now c.args.pen.now c.args.width c.ranges.width c.requires.room)
    c.draw_line-top.result _ _ _ _ _ s.entries_behind s.items_behind s.place_behind (kept-onto _ c.draw_line-top.result t d.within) d.size d.within d.boxes

pub returns-clause-height : goal.returns-clause-height
returns-clause-height g c = whole-height c.loop-line-test.false c.loop-line.invariant

pub returns-clause-boxes : goal.returns-clause-boxes
returns-clause-boxes g c q a =
    subst (λ (w : ℤ). Drawn c.args.pen.now c.loop-line.pen (table_boxes (look_in g.M.Measurer g.M.Extent.Extent c.args.self.now) q w (pos 0) 0 (lines_from c.args.self.now c.args.lines.now c.args.entries.now c.args.items.now 0))) (to_z-of_z w64 c.args.width c.ranges.width)
    (whole-drawn c.loop-line-test.false c.loop-line.invariant q a)
