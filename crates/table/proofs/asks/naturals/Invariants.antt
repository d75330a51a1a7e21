use Rattle.std.proofs.Common.{◌≡◌, ◌+◌, ◌∷◌, map, take}
use Rattle.lengths.specs.Gaps.{parts_of}
use Rattle.table.specs.Views.{gap_after, natural_in}
use Rattle.table.proofs.asks.naturals.Given as goal

abbrev pub invariant-loop-i : goal.invariant-loop-i
invariant-loop-i g l = take (l.i + 1) l.lengths ≡ map natural_in (parts_of l.preamble.start ∷ map gap_after (take l.i l.preamble.columns.now))
