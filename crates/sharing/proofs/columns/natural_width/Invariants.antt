use Rattle.std.proofs.Common.{◌≡◌}
use Rattle.widths.specs.Formula.{natural}
use Rattle.sharing.specs.Columns.{first_natural, naturals}
use Rattle.sharing.specs.Views.{widths_on, gaps_on}
use Rattle.sharing.proofs.columns.natural_width.Given as goal

abbrev pub invariant-loop-j : goal.invariant-loop-j
invariant-loop-j l = l.right ≡ natural (first_natural (gaps_on l.gaps)) (widths_on l.widths) (naturals (gaps_on l.gaps)) l.j
