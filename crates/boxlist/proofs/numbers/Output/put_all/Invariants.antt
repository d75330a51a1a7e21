use Rattle.std.proofs.Common.{take}
use Rattle.boxlist.specs.Groups.{all_groups}
use Rattle.boxlist.specs.Outputs.{Added}
use Rattle.boxlist.proofs.numbers.Output.put_all.Given as goal

abbrev pub invariant-loop-n : goal.invariant-loop-n
invariant-loop-n l = Added l.initial.self l.self (all_groups (take l.n-index l.numbers))
