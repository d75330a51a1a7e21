use Rattle.std.proofs.Common.{◌≡◌}
use Rattle.sharing.specs.Gaps.{sum_to, stretch_at}
use Rattle.sharing.specs.Views.{widths_on, gaps_on}
use Rattle.sharing.proofs.gaps.whole_in.Given as goal

abbrev pub invariant-loop-place : goal.invariant-loop-place
invariant-loop-place l = l.whole ≡ sum_to (stretch_at (widths_on l.widths) (gaps_on l.gaps) l.order) l.place
