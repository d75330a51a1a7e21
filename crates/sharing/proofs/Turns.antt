-- One turn of the loops over gaps and columns. Assumes nothing.
use Rattle.std.proofs.Common.{◌≡◌, ℕ, suc, ◌+◌, ◌*◌, ◌^◌, ◌<◌, ◌≤◌, ℤ, ◌+ℤ◌, Option, FitsSigned, w64, to_z, of_z, ap, ◌∙◌, mul-le-mul, arith}
use Rattle.std.proofs.Math.Numerals.{add-one}
use Rattle.std.proofs.lemmas.Int.{ints}
use Rattle.extent.specs.Sizes.{Within}
use Rattle.widths.specs.Merging.{step}
use Rattle.widths.specs.Formula.{moves, natural}
use Rattle.widths.proofs.Sums.{between_more}
use Rattle.sharing.specs.Rule.{portion}
use Rattle.sharing.specs.Gaps.{sum_to, growth}
use Rattle.sharing.proofs.Rules.{portion-le}
use Rattle.sharing.proofs.Sums.{sum_to-more, sum_to_mono}
use Rattle.sharing.proofs.Growing.{given-more}

-- a column and the gap behind it, added to what stands before
pub record ColumnTurn (start : ℤ) (w : ℕ → Option ℤ) (g : ℕ → ℤ) (j : ℕ) (left moved : ℤ) : Type 0 where
  pub fits : FitsSigned w64 (left +ℤ to_z w64 (of_z w64 moved))
  pub is : to_z w64 (of_z w64 (left +ℤ to_z w64 (of_z w64 moved))) ≡ natural start w g (j + 1)

pub column-turn : (start : ℤ) (w : ℕ → Option ℤ) (g : ℕ → ℤ) (j : ℕ) (left moved : ℤ) → left ≡ natural start w g j → moved ≡ step (w j) (g j)
    → Within (2 ^ 41) (natural start w g j) → Within (2 ^ 41) (natural start w g (suc j)) → ColumnTurn start w g j left moved
column-turn start w g j left moved l m near next =
    let a = between_more (moves w g) 0 j (omega arith) in
    let e = ap (λ k. natural start w g k) (add-one j) in
    record { fits = omega (arith, ints); is = omega (arith, ints) }

-- the gap at k, of which gaps 0 to n have the stretches s
pub record GapTurn (s : ℕ → ℕ) (e n k part here shared given : ℕ) : Type 0 where
  pub part-is : part + here ≡ sum_to s (k + 1)
  pub given-is : given ≡ portion e (sum_to s (k + 1)) (sum_to s (suc n))
  pub grows : given ≡ shared + growth e s (sum_to s (suc n)) k
  pub most : given ≤ e

pub gap-turn : (s : ℕ → ℕ) (e n k part here shared given whole : ℕ) → k ≤ n → part ≡ sum_to s k → here ≡ s k → whole ≡ sum_to s (suc n)
    → shared ≡ portion e (sum_to s k) (sum_to s (suc n)) → given ≡ portion e (part + here) whole → GapTurn s e n k part here shared given
gap-turn s e n k part here shared given whole le p h all was is =
    let more : part + here ≡ sum_to s (k + 1) = let a = sum_to-more s k in omega arith in
    let given-is : given ≡ portion e (sum_to s (k + 1)) (sum_to s (suc n)) = is ∙ ap (λ x. portion e x whole) more ∙ ap (portion e (sum_to s (k + 1))) all in
    let e1 = ap (λ x. portion e (sum_to s x) (sum_to s (suc n))) (add-one k) in
    let g = given-more e (sum_to s (suc n)) s k in
    let m = portion-le e (sum_to s (k + 1)) (sum_to s (suc n)) (sum_to_mono s (k + 1) (suc n) (omega arith)) in
    record { part-is = more; given-is = given-is; grows = omega arith; most = omega arith }

-- no product of a surplus and a part is too large
pub product-small : (e p : ℕ) → e ≤ 1073741823 → p ≤ 553648095 → e * p < 18446744073709551616
product-small e p he hp = let a : e * p ≤ 1073741823 * 553648095 = mul-le-mul he hp in omega arith
