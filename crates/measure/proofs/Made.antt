-- The test of a monospaced measurer's numbers is right.
use Rattle.std.proofs.Common.{◌≡◌, ℕ, true, ◌&&◌, ℤ, arith}
use Rattle.std.proofs.lemmas.Bool.{and_parts}
use Rattle.std.proofs.lemmas.Int.{ints}
use Rattle.measure.specs.Ranges.{FromTo, MonoRanges}
use Rattle.measure.specs.Monos.{between, in_ranges}

from_to : (a b : ℕ) (z : ℤ) → between a b z ≡ true → FromTo a b z
from_to a b z e = grind (arith, ints)

pub ranges_in : (pitch height depth last : ℤ) → in_ranges (record { pitch = pitch; height = height; depth = depth; last = last }) ≡ true → MonoRanges pitch height depth last
ranges_in pitch height depth last e =
    let p = and_parts (between 0 4194304 pitch) (between 0 16777215 height && (between 0 16777215 depth && between 32 126 last)) e in
    let q = and_parts (between 0 16777215 height) (between 0 16777215 depth && between 32 126 last) p.1 in
    let r = and_parts (between 0 16777215 depth) (between 32 126 last) q.1 in
    (from_to 0 4194304 pitch p.0, from_to 0 16777215 height q.0, from_to 0 16777215 depth r.0, from_to 32 126 last r.1)
