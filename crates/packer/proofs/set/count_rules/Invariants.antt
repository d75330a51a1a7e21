use Rattle.std.proofs.Common.{◌≡◌, ◌+◌, drop}
use Rattle.ledger.specs.Chunks.{total}
use Rattle.packer.specs.Counted.{ruled}
use Rattle.packer.proofs.set.count_rules.Given as goal

abbrev pub invariant-loop-line : goal.invariant-loop-line
invariant-loop-line l = l.boxes + total ruled (drop l.line-index l.lines) ≡ total ruled l.lines
