-- A row written over a part of another. Assumes nothing.
use Rattle.std.specs.Prelude.{ℕ, ◌+◌, List, ◌++◌, length, take, drop}

-- new over old from a place on; what lies before and behind it stays
abbrev pub over : {X : Type 0} → List X → ℕ → List X → List X
over old place new = take place old ++ (new ++ drop (place + length new) old)
