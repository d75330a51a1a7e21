-- Laws of sums over gaps. Assumes nothing.
use Rattle.std.proofs.Common.{◌≡◌, ℕ, zero, suc, ◌+◌, ◌*◌, ◌<◌, ◌≤◌, ℤ, ◌≤ℤ◌, refl, ⊎_elim, subst, sym, arith}
use Rattle.std.proofs.Math.Numerals.{add-one}
use Rattle.std.proofs.lemmas.Int.{ints}
use Rattle.std.proofs.lemmas.Bool.{cases_lt}
use Rattle.widths.specs.Formula.{between}
use Rattle.widths.proofs.Sums.{between_none, between_more}
use Rattle.sharing.specs.Gaps.{sum_to}

pub sum_to-none : (f : ℕ → ℕ) → sum_to f 0 ≡ 0
unfolding sum_to
sum_to-none f = refl

pub sum_to-suc : (f : ℕ → ℕ) (n : ℕ) → sum_to f (suc n) ≡ sum_to f n + f n
unfolding sum_to
sum_to-suc f n = refl

pub sum_to-more : (f : ℕ → ℕ) (n : ℕ) → sum_to f (n + 1) ≡ sum_to f n + f n
sum_to-more f n = rw (add-one n) (sum_to-suc f n)

pub sum_to-below : (f : ℕ → ℕ) (b n : ℕ) → ((k : ℕ) → f k ≤ b) → sum_to f n ≤ n * b
sum_to-below f b zero h = let a = sum_to-none f in omega arith
sum_to-below f b (suc n) h = let a = sum_to-suc f n in let c = h n in let d = sum_to-below f b n h in omega arith

pub sum_to_mono : (f : ℕ → ℕ) (m n : ℕ) → m ≤ n → sum_to f m ≤ sum_to f n
sum_to_mono f m zero h = let e : m ≡ 0 = omega arith in rw e (omega arith)
sum_to_mono f m (suc n) h = ⊎_elim
    (λ (lt : m < suc n). let a = sum_to_mono f m n (omega arith) in let b = sum_to-suc f n in omega arith)
    (λ (ge : suc n ≤ m). let e : m ≡ suc n = omega arith in rw e (omega arith))
    (cases_lt m (suc n))

-- larger parts have larger sums
pub between-rises : (f h : ℕ → ℤ) (i j : ℕ) → i ≤ j → ((k : ℕ) → k < j → f k ≤ℤ h k) → between f i j ≤ℤ between h i j
between-rises f h i zero le up =
    let e : i ≡ 0 = omega arith in
    let a = between_none f 0 in
    let b = between_none h 0 in
    subst (λ x. between f x 0 ≤ℤ between h x 0) (sym e) (omega (arith, ints))
between-rises f h i (suc j) le up = ⊎_elim
    (λ lt.
    let a = between_more f i j (omega arith) in
    let b = between_more h i j (omega arith) in
    let c = up j (omega arith) in
    let d = between-rises f h i j (omega arith) (λ k below. up k (omega arith)) in
    omega (arith, ints))
    (λ ge.
    let e : i ≡ suc j = omega arith in
    let a = between_none f (suc j) in
    let b = between_none h (suc j) in
    subst (λ x. between f x (suc j) ≤ℤ between h x (suc j)) (sym e) (omega (arith, ints)))
    (cases_lt i (suc j))
