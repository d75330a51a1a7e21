use Rattle.std.proofs.Common.{◌-◌, length}
use Rattle.lengths.specs.Gaps.{parts_of}
use Rattle.ledger.specs.Naturals.{wide_of}
use Rattle.templates.proofs.Whole.{Underway}
use Rattle.templates.proofs.read.read_preamble.Given as goal

abbrev pub invariant-loop-next : goal.invariant-loop-next
invariant-loop-next g l = Underway g.M.Extent.Extent.count g.M.Extent.Extent.num (wide_of g.M.Measurer g.M.Extent.Extent l.measurer)
    l.text (g.M.Measurer.meaning l.measurer) (parts_of l.initial.hand.column.gap) l.hand l.into

abbrev pub decreases-loop-next : goal.decreases-loop-next
decreases-loop-next g l = length l.text - l.hand.place
