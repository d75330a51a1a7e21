use Rattle.std.proofs.Common.{◌+◌, ◌^◌, ◌<◌, ap, arith, rules}
use Rattle.rows.specs.Held.{counted}
use Rattle.packer.proofs.Cuts.{total-next, total-end}
use Rattle.packer.proofs.lines.total_items.Goals as goal

pub overflow_add-items : goal.overflow_add-items
overflow_add-items g c =
    let e = total-next counted c.args.entries.now c.loop-entry.entry-index c.entry-item.result c.loop-entry-test.true in
    let at = ap counted c.entry-item.is in
    let fits : c.loop-entry.items + c.entry-item.result.count < 2 ^ 64 = omega arith in search rules

pub loop-entry-preserved : goal.loop-entry-preserved
loop-entry-preserved g c =
    let e = total-next counted c.args.entries.now c.loop-entry.entry-index c.entry-item.result c.loop-entry-test.true in
    let at = ap counted c.entry-item.is in
    omega arith

pub returns : goal.returns
returns g c = omega (arith, total-end counted c.args.entries.now c.loop-entry.entry-index c.loop-entry-test.false)
