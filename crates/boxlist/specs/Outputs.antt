-- What stands in an output, and what is added to it. Assumes nothing.
use Rattle.std.specs.Prelude.{◌≡◌, ℕ, ◌+◌, ◌≤◌, List, length}
use Rattle.boxlist.specs.declared.numbers.Output.{Output}
use Rattle.boxlist.specs.Over.{over}

-- as many bytes are left
abbrev pub HasRoom : Output → List ℕ → Type 0
HasRoom o bs = o.place + length bs ≤ length o.bytes.now

-- the bytes stand from its place on, what lies before and behind them stays, and its place is behind them
pub record Added (old new : Output) (bs : List ℕ) : Type 0 where
  pub same : new.bytes.ghost_name ≡ old.bytes.ghost_name
  pub next : new.place ≡ old.place + length bs
  pub bytes : new.bytes.now ≡ over old.bytes.now old.place bs
