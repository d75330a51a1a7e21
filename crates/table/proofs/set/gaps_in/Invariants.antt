use Rattle.std.proofs.Common.{◌≡◌, ◌+◌, ◌∷◌, map, take}
use Rattle.lengths.specs.Gaps.{parts_of}
use Rattle.table.specs.Views.{gap_after}
use Rattle.table.specs.Setting.{gap_on}
use Rattle.table.proofs.set.gaps_in.Given as goal

abbrev pub invariant-loop-i : goal.invariant-loop-i
invariant-loop-i g l = take (l.i + 1) l.gaps ≡ map (gap_on g.E.Extent.entered l.side) (parts_of l.preamble.start ∷ map gap_after (take l.i l.preamble.columns.now))
