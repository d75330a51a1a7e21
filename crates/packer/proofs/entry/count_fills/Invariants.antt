use Rattle.std.proofs.Common.{◌≡◌, ◌+◌, drop}
use Rattle.ledger.specs.Chunks.{total}
use Rattle.packer.specs.Walks.{filled}
use Rattle.packer.proofs.entry.count_fills.Given as goal

abbrev pub invariant-loop-item : goal.invariant-loop-item
invariant-loop-item l = l.fills + total filled (drop l.item-index l.items) ≡ total filled l.items
