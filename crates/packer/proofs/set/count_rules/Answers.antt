use Rattle.std.proofs.Common.{◌+◌, ◌^◌, ◌<◌, length, arith, rules}
use Rattle.rows.specs.declared.state.LineRecord.TheVariants.{Row}
use Rattle.packer.specs.Counted.{ruled}
use Rattle.packer.proofs.Cuts.{total-next, total-end}
use Rattle.packer.proofs.Counting.{few-ruled}
use Rattle.packer.proofs.set.count_rules.Goals as goal

pub overflow_add-boxes : goal.overflow_add-boxes
overflow_add-boxes c =
    let e = total-next ruled c.args.lines.now c.loop-line.line-index (Row 0) c.loop-line-test.true in
    let few = few-ruled c.args.lines.now in
    let long : length c.args.lines.now < 2 ^ 64 = search rules in
    let fits : c.loop-line.boxes + c.count_rule-boxes.result < 2 ^ 64 = omega arith in
    search rules

pub loop-line-preserved : goal.loop-line-preserved
loop-line-preserved c = omega (arith, total-next ruled c.args.lines.now c.loop-line.line-index (Row 0) c.loop-line-test.true)

pub returns-clause-is : goal.returns-clause-is
returns-clause-is c = omega (arith, total-end ruled c.args.lines.now c.loop-line.line-index c.loop-line-test.false)

pub returns-clause-small : goal.returns-clause-small
returns-clause-small c = omega (arith, total-end ruled c.args.lines.now c.loop-line.line-index c.loop-line-test.false, few-ruled c.args.lines.now)
