use Rattle.std.proofs.Common.{◌-◌, length}
use Rattle.ledger.specs.Naturals.{wide_of}
use Rattle.lines.proofs.Whole.{Underway, Row}
use Rattle.lines.proofs.row.read_rest.Given as goal

abbrev pub invariant-loop-next : goal.invariant-loop-next
invariant-loop-next g l =
    let X = g.M.Extent.Extent in
    let wide = wide_of g.M.Measurer X l.measurer in
    let meaning = g.M.Measurer.meaning l.measurer in
    Underway X.count X.num wide l.text meaning l.fn.rows (Row X.count X.num wide l.text meaning l.fn.rows (length l.text) l.start) l.rows l.place

abbrev pub decreases-loop-next : goal.decreases-loop-next
decreases-loop-next g l = length l.text - l.place
