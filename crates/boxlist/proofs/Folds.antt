-- Signed numbers as unsigned ones. Assumes nothing.
use Rattle.std.proofs.Common.{◌≡◌, ℕ, ◌/◌, ◌%◌, ℤ, pos, negsuc, ◌+ℤ◌, ◌-ℤ◌, neg_ℤ, ◌≤ℤ◌, ◌<ℤ◌, ap, ⊎_elim, arith}
use Rattle.std.proofs.lemmas.Int.{ints}
use Rattle.std.proofs.lemmas.Bool.{cases_eq}
use Rattle.boxlist.specs.Groups.{zigzag}

pub folds_up : (z : ℤ) → pos 0 ≤ℤ z → pos (zigzag z) ≡ z +ℤ z
folds_up (pos n) h = omega (arith, ints)
folds_up (negsuc n) h = absurd (omega (arith, ints))

pub folds_below : (z : ℤ) → z <ℤ pos 0 → pos (zigzag z) ≡ neg_ℤ (z +ℤ z) -ℤ pos 1
folds_below (pos n) h = absurd (omega (arith, ints))
folds_below (negsuc n) h = omega (arith, ints)

pub folds_apart : (y z : ℤ) → zigzag y ≡ zigzag z → y ≡ z
folds_apart (pos m) (pos n) e = ap pos (omega arith)
folds_apart (pos m) (negsuc n) e = absurd (omega arith)
folds_apart (negsuc m) (pos n) e = absurd (omega arith)
folds_apart (negsuc m) (negsuc n) e = ap negsuc (omega arith)

pub folds_onto : (n : ℕ) → (z : ℤ) × (zigzag z ≡ n)
folds_onto n =
    ⊎_elim
    (λ even. (pos (n / 2), omega arith))
    (λ odd. (negsuc (n / 2), omega arith))
    (cases_eq (n % 2) 0)
