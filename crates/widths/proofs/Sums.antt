-- Laws of sums over columns and of larger-ofs. Assumes nothing.
use Rattle.std.proofs.Common.{◌≡◌, ℕ, zero, suc, ◌<◌, ◌≤◌, ℤ, pos, ◌+ℤ◌, ◌-ℤ◌, Some, None, Option, sym, refl, ap, ◌∙◌, subst, ⊎_elim, arith}
use Rattle.std.proofs.lemmas.Int.{ints}
use Rattle.std.proofs.lemmas.Bool.{cond-true, cond-false, le-leb, lt-leb, cases_lt}
use Rattle.widths.specs.Merging.{less, join}
use Rattle.widths.specs.Formula.{between, largest}
use Rattle.widths.proofs.Options.{less-join, join-from, Above, join-above_left, join-above_right}

pub between_none : (f : ℕ → ℤ) (i : ℕ) → between f i i ≡ pos 0
unfolding between
between_none f zero = refl
between_none f (suc i) = cond-false _ _ _ (lt-leb (suc i) i (omega arith))

pub between_more : (f : ℕ → ℤ) (i j : ℕ) → i ≤ j → between f i (suc j) ≡ between f i j +ℤ f j
unfolding between
between_more f i j h = cond-true _ _ _ (le-leb i j h)

pub between-same : (f h : ℕ → ℤ) (i j : ℕ) → ((k : ℕ) → k < j → f k ≡ h k) → between f i j ≡ between h i j
unfolding between
between-same f h i zero e = refl
between-same f h i (suc j) e = let a = e j (omega arith) in let b = between-same f h i j (λ k lt. e k (omega arith)) in cc

-- a sum from i on is what the sum from 0 gains
pub between_split : (f : ℕ → ℤ) (i j : ℕ) → i ≤ j → between f i j ≡ between f 0 j -ℤ between f 0 i
between_split f zero zero le = rw (between_none f 0) (omega (arith, ints))
between_split f (suc i) zero le = absurd (omega arith)
between_split f i (suc j) le = ⊎_elim
    (λ lt. let a = between_more f i j (omega arith) in let b = between_more f 0 j (omega arith) in let c = between_split f i j (omega arith) in omega (arith, ints))
    (λ ge. let e : i ≡ suc j = omega arith in let a = between_none f (suc j) in subst (λ x. between f x (suc j) ≡ between f 0 (suc j) -ℤ between f 0 x) (sym e) (a ∙ omega (arith, ints)))
    (cases_lt i (suc j))

pub largest-less : (f : ℕ → Option ℤ) (n : ℕ) (z : ℤ) → less (largest f n) z ≡ largest (λ i. less (f i) z) n
unfolding largest
largest-less f zero z = refl
largest-less f (suc n) z = less-join (f (suc n)) (largest f n) z ∙ ap (join (less (f (suc n)) z)) (largest-less f n z)

pub largest-same : (f h : ℕ → Option ℤ) (n : ℕ) → ((i : ℕ) → i ≤ n → f i ≡ h i) → largest f n ≡ largest h n
unfolding largest
largest-same f h zero e = e 0 (omega arith)
largest-same f h (suc n) e = let a = e (suc n) (omega arith) in let b = largest-same f h n (λ i le. e i (omega arith)) in cc

-- a larger-of is one of the numbers
pub record From (f : ℕ → Option ℤ) (n : ℕ) (z : ℤ) : Type 0 where
  pub at : ℕ
  pub below : at ≤ n
  pub is : f at ≡ Some z

pub largest-from : (f : ℕ → Option ℤ) (n : ℕ) (z : ℤ) → largest f n ≡ Some z → From f n z
unfolding largest
largest-from f zero z e = record { at = 0; below = omega arith; is = e }
largest-from f (suc n) z e = join-from (f (suc n)) (largest f n) z e
    (λ h. record { at = suc n; below = omega arith; is = h })
    (λ h. let r = largest-from f n z h in record { at = r.at; below = omega arith; is = r.is })

-- it reaches what each of them reaches
pub largest-above : (f : ℕ → Option ℤ) (n i : ℕ) (x : ℤ) → i ≤ n → Above x (f i) → Above x (largest f n)
unfolding largest
largest-above f zero i x le h = subst (λ k. Above x (f k)) (let e : i ≡ 0 = omega arith in e) h
largest-above f (suc n) i x le h = ⊎_elim
    (λ lt. join-above_right x (f (suc n)) (largest f n) (largest-above f n i x (omega arith) h))
    (λ ge. join-above_left x (f (suc n)) (largest f n) (subst (λ k. Above x (f k)) (let e : i ≡ suc n = omega arith in e) h))
    (cases_lt i (suc n))

-- and is missing where all are
pub largest-none : (f : ℕ → Option ℤ) (n : ℕ) → ((i : ℕ) → i ≤ n → f i ≡ None) → largest f n ≡ None
unfolding largest
largest-none f zero e = e 0 (omega arith)
largest-none f (suc n) e = let a = e (suc n) (omega arith) in let b = largest-none f n (λ i le. e i (omega arith)) in cc
