use Rattle.std.proofs.Common.{◌≡◌, ◌+◌, drop}
use Rattle.ledger.specs.Chunks.{total}
use Rattle.packer.specs.Counted.{boxed}
use Rattle.packer.proofs.set.count_words.Given as goal

abbrev pub invariant-loop-item : goal.invariant-loop-item
invariant-loop-item l = l.boxes + total boxed (drop l.item-index l.items) ≡ total boxed l.items
