use Rattle.std.proofs.Common.{◌+◌, ◌^◌, ◌<◌, length, arith, rules}
use Rattle.ledger.specs.declared.records.ItemRecord.TheVariants.{Space}
use Rattle.packer.specs.Counted.{boxed}
use Rattle.packer.proofs.Cuts.{total-next, total-end}
use Rattle.packer.proofs.Counting.{few-boxed}
use Rattle.packer.proofs.set.count_words.Goals as goal

pub overflow_add-boxes : goal.overflow_add-boxes
overflow_add-boxes c =
    let e = total-next boxed c.args.items.now c.loop-item.item-index Space c.loop-item-test.true in
    let few = few-boxed c.args.items.now in
    let long : length c.args.items.now < 2 ^ 64 = search rules in
    let fits : c.loop-item.boxes + c.count_word-boxes.result < 2 ^ 64 = omega arith in
    search rules

pub loop-item-preserved : goal.loop-item-preserved
loop-item-preserved c = omega (arith, total-next boxed c.args.items.now c.loop-item.item-index Space c.loop-item-test.true)

pub returns-clause-is : goal.returns-clause-is
returns-clause-is c = omega (arith, total-end boxed c.args.items.now c.loop-item.item-index c.loop-item-test.false)

pub returns-clause-small : goal.returns-clause-small
returns-clause-small c = omega (arith, total-end boxed c.args.items.now c.loop-item.item-index c.loop-item-test.false, few-boxed c.args.items.now)
