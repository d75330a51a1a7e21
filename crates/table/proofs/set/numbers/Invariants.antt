use Rattle.std.proofs.Common.{◌≡◌, map, take}
use Rattle.widths.specs.Merging.{seen}
use Rattle.table.proofs.set.numbers.Given as goal

abbrev pub invariant-loop-i : goal.invariant-loop-i
invariant-loop-i g l = take l.i l.numbers ≡ map (seen g.E.Extent.num l.side) (take l.i l.widths)
