use Rattle.std.proofs.Common.{◌≡◌, ◌+◌, drop}
use Rattle.ledger.specs.Chunks.{total}
use Rattle.ledger.specs.Items.{taken}
use Rattle.packer.proofs.row.total_bytes.Given as goal

abbrev pub invariant-loop-item : goal.invariant-loop-item
invariant-loop-item l = l.bytes + total taken (drop l.item-index l.items) ≡ total taken l.items
