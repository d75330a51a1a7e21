use Rattle.std.proofs.Common.{◌+◌, ◌^◌, ◌<◌, arith, rules}
use Rattle.ledger.specs.declared.records.ItemRecord.TheVariants.{Space}
use Rattle.ledger.specs.Items.{taken}
use Rattle.packer.proofs.Cuts.{total-next, total-end}
use Rattle.packer.proofs.row.total_bytes.Goals as goal

pub overflow_add-bytes : goal.overflow_add-bytes
overflow_add-bytes c =
    let fits : c.loop-item.bytes + c.bytes_taken-bytes.result < 2 ^ 64 = omega (arith, total-next taken c.args.items.now c.loop-item.item-index Space c.loop-item-test.true) in search rules

pub loop-item-preserved : goal.loop-item-preserved
loop-item-preserved c = omega (arith, total-next taken c.args.items.now c.loop-item.item-index Space c.loop-item-test.true)

pub returns : goal.returns
returns c = omega (arith, total-end taken c.args.items.now c.loop-item.item-index c.loop-item-test.false)
