-- Signed numbers that a variable keeps. Assumes nothing.
use Rattle.std.proofs.Common.{◌≡◌, ℤ, pos, negsuc, ◌+ℤ◌, ◌≤ℤ◌, to_z, of_z, w64, FitsSigned, ap, ◌∙◌, sym, subst, arith}
use Rattle.std.proofs.lemmas.Int.{ints, to_z-of_z}

fits : (z : ℤ) → pos 0 ≤ℤ z → z ≤ℤ pos 68719476736 → FitsSigned w64 z
fits (pos n) a b = record { sfits = omega (arith, ints) }
fits (negsuc n) a b = absurd (omega (arith, ints))

pub kept : (z : ℤ) → pos 0 ≤ℤ z → z ≤ℤ pos 68719476736 → to_z w64 (of_z w64 z) ≡ z
kept z a b = to_z-of_z w64 z (fits z a b)

module _ (x y : ℤ) (a : (pos 0 ≤ℤ x) × (x ≤ℤ pos 34359738368)) (b : (pos 0 ≤ℤ y) × (y ≤ℤ pos 33554430)) where
  kept-second : to_z w64 (of_z w64 y) ≡ y
  kept-second = kept y b.0 (omega (arith, ints, b))

  pub sum-fits : FitsSigned w64 (x +ℤ to_z w64 (of_z w64 y))
  sum-fits = subst (λ (z : ℤ). FitsSigned w64 (x +ℤ z)) (sym kept-second) (fits (x +ℤ y) (omega (arith, ints, a, b)) (omega (arith, ints, a, b)))

  pub kept-onto : to_z w64 (of_z w64 (x +ℤ to_z w64 (of_z w64 y))) ≡ x +ℤ y
  kept-onto = ap (λ (z : ℤ). to_z w64 (of_z w64 (x +ℤ z))) kept-second ∙ kept (x +ℤ y) (omega (arith, ints, a, b)) (omega (arith, ints, a, b))

  pub kept-sum : to_z w64 (of_z w64 (to_z w64 (of_z w64 x) +ℤ to_z w64 (of_z w64 y))) ≡ x +ℤ y
  kept-sum = ap (λ (z : ℤ). to_z w64 (of_z w64 (z +ℤ to_z w64 (of_z w64 y)))) (kept x a.0 (omega (arith, ints, a))) ∙ kept-onto
