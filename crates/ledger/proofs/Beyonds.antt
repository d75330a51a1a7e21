use Rattle.std.proofs.Common.{◌≡◌, ℕ, zero, suc, ◌<◌, Bool, true, false, cond, List, [], ◌∷◌, ◌++◌, ℤ, pos, ◌+ℤ◌, refl, subst, ⊎_elim, arith, length, get_or, sym}
use Rattle.std.specs.Bool.{MatchBool}
use Rattle.std.specs.List.{HoldsAt, AllWithin, range_with_len}
use Rattle.std.proofs.lemmas.List.FromFn.{length-range_with_len, get_or-range_with_len}
use Rattle.std.proofs.lemmas.Int.{ints}
use Rattle.std.proofs.lemmas.Bool.{cases_lt}
use Rattle.ledger.specs.Ledger.{Item}
use Rattle.ledger.specs.Naturals.{beyond, out_z, natural}

pub beyond-nowhere : (n : ℕ) (f : ℕ → ℤ) → ((k : ℕ) → k < n → out_z (f k) ≡ false) → beyond n f ≡ false
unfolding beyond
beyond-nowhere zero f h = refl
beyond-nowhere (suc n) f h = let here = h n (omega arith) in let below = beyond-nowhere n f (λ k lt. h k (omega arith)) in rw (here, below)

pub beyond-at : (n k : ℕ) (f : ℕ → ℤ) → k < n → out_z (f k) ≡ true → beyond n f ≡ true
unfolding beyond
beyond-at zero k f lt e = absurd (omega arith)
beyond-at (suc n) k f lt e = ⊎_elim
    (λ below. let h = beyond-at n k f below e in by (out_z (f n)) (beyond n f) h)
    (λ above. let same : k ≡ n = omega arith in rw (subst (λ x. out_z (f x) ≡ true) same e))
    (cases_lt k n)
  where
    by : (a b : Bool) → b ≡ true → cond a true b ≡ true
    by true b h = refl
    by false b h = h

pub beyond-same : (n : ℕ) (f h : ℕ → ℤ) → ((k : ℕ) → k < n → f k ≡ h k) → beyond n f ≡ beyond n h
unfolding beyond
beyond-same zero f h e = refl
beyond-same (suc n) f h e = let a = e n (omega arith) in let b = beyond-same n f h (λ k lt. e k (omega arith)) in rw (a, b)

-- a search from side 0 up
module _ (n : ℕ) (f : ℕ → ℤ) where
  abbrev sides : List ℕ
  sides = range_with_len 0 n

  -- b says whether side k is out, if there is such a side
  abbrev pub Judges : Bool → ℕ → Type 0
  Judges b k = k < n → out_z (f k) ≡ b

  at-side : (P : ℕ → Type 0) (k : ℕ) → k < n → P (get_or sides k 0) → P k
  at-side P k lt p = let e : get_or sides k 0 ≡ k = omega (arith, get_or-range_with_len 0 n k 0 lt) in subst P e p

  pub beyond-search : (r : Bool) → MatchBool r ((k : ℕ) × (k < length sides) × HoldsAt (Judges true) sides k) (AllWithin (Judges false) sides 0 (length sides)) → r ≡ beyond n f
  beyond-search true h = let lt : h.0 < n = omega (arith, h.1, length-range_with_len 0 n) in sym (beyond-at n h.0 f lt (at-side (Judges true) h.0 lt (h.2 0) lt))
  beyond-search false h = sym (beyond-nowhere n f (λ k lt. at-side (Judges false) k lt (h k 0 (omega arith) (omega (arith, length-range_with_len 0 n))) lt))

-- not beyond on any side
pub beyond-not : (n k : ℕ) (f : ℕ → ℤ) → k < n → beyond n f ≡ false → out_z (f k) ≡ false
unfolding beyond
beyond-not zero k f lt e = absurd (omega arith)
beyond-not (suc n) k f lt e = ⊎_elim
    (λ below. beyond-not n k f below (second (out_z (f n)) (beyond n f) e))
    (λ above. let same : n ≡ k = omega arith in subst (λ x. out_z (f x) ≡ false) same (first (out_z (f n)) (beyond n f) e))
    (cases_lt k n)
  where
    first : (a b : Bool) → cond a true b ≡ false → a ≡ false
    first true b h = h
    first false b h = refl

    second : (a b : Bool) → cond a true b ≡ false → b ≡ false
    second true b h = cc
    second false b h = h

pub natural-append : (wide : Item → ℕ → ℤ) (xs ys : List Item) (k : ℕ) → natural wide (xs ++ ys) k ≡ natural wide xs k +ℤ natural wide ys k
unfolding natural
natural-append wide [] ys k = omega (arith, ints)
natural-append wide (x ∷ xs) ys k = let h = natural-append wide xs ys k in omega (arith, ints)

pub natural-one : (wide : Item → ℕ → ℤ) (x : Item) (k : ℕ) → natural wide (x ∷ []) k ≡ wide x k
unfolding natural
natural-one wide x k = omega (arith, ints)

pub natural-none : (wide : Item → ℕ → ℤ) (k : ℕ) → natural wide [] k ≡ pos 0
unfolding natural
natural-none wide k = refl
