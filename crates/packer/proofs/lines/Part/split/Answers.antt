use Rattle.std.proofs.Common.{◌+◌, ◌^◌, ◌<◌, length, ap, arith, rules}
use Rattle.ledger.specs.Chunks.{total}
use Rattle.ledger.specs.Items.{taken}
use Rattle.rows.specs.Held.{counted}
use Rattle.packer.proofs.Cuts.{total-cut}
use Rattle.packer.proofs.lines.Part.split.Goals as goal

pub total_items-requires : goal.total_items-requires
total_items-requires g c =
    let cut = total-cut counted c.args.self.entries.now c.min.result in
    let own = ap (total counted) c.split_at.ensures.front in
    let fits : length c.args.self.items.now < 2 ^ 64 = search rules in
    omega arith

pub total_bytes-requires : goal.total_bytes-requires
total_bytes-requires g c =
    let cut = total-cut taken c.args.self.items.now c.min-2.result in
    let own = ap (total taken) c.split_at-2.ensures.front in
    omega arith

pub overflow_add-rest : goal.overflow_add-rest
overflow_add-rest g c =
    let cut = total-cut taken c.args.self.items.now c.min-2.result in
    let own = ap (total taken) c.split_at-2.ensures.front in
    let fits : c.args.self.place + c.total_bytes.result < 2 ^ 64 = omega arith in
    search rules
