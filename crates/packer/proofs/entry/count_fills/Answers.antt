use Rattle.std.proofs.Common.{arith}
use Rattle.packer.specs.Walks.{filled}
use Rattle.packer.proofs.Walks.{filled-few, total-more, total-done}
use Rattle.packer.proofs.entry.count_fills.Goals as goal

pub overflow_add-fills : goal.overflow_add-fills
overflow_add-fills c = omega (arith, filled-few c.args.items.now, total-more filled c.args.items.now c.loop-item.item-index c.loop-item-test.true)

pub loop-item-preserved : goal.loop-item-preserved
loop-item-preserved c = omega (arith, total-more filled c.args.items.now c.loop-item.item-index c.loop-item-test.true)

pub returns : goal.returns
returns c = omega (arith, total-done filled c.args.items.now c.loop-item.item-index c.loop-item-test.false)
