use Rattle.std.proofs.Common.{◌≡◌, ◌+◌, drop}
use Rattle.ledger.specs.Chunks.{total}
use Rattle.rows.specs.Held.{counted}
use Rattle.packer.proofs.lines.total_items.Given as goal

abbrev pub invariant-loop-entry : goal.invariant-loop-entry
invariant-loop-entry g l = l.items + total counted (drop l.entry-index l.entries) ≡ total counted l.entries
