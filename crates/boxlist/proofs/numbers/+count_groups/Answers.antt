use Rattle.std.proofs.Common.{◌^◌, ◌<◌, arith}
use Rattle.boxlist.proofs.Steps.{length-groups_last, length-groups_more, length-groups_le}
use Rattle.boxlist.proofs.numbers.+count_groups.Goals as goal

pub returns-then-n-lt128-clause-total : goal.returns-then-n-lt128-clause-total
returns-then-n-lt128-clause-total t c = omega (arith, length-groups_last)

pub returns-else-n-lt128-clause-total : goal.returns-else-n-lt128-clause-total
returns-else-n-lt128-clause-total t c = omega (arith, length-groups_more)

pub returns-else-n-lt128-clause-within : goal.returns-else-n-lt128-clause-within
returns-else-n-lt128-clause-within t c =
    let small : c.args.n < 128 ^ 10 = omega arith in
    omega (arith, length-groups_more c.args.n, length-groups_le 9 c.args.n small)
