-- The first byte that fails a test.
use Rattle.std.specs.Prelude.{◌≡◌, ℕ, ◌<◌, ◌≤◌, Bool, true, not, List, [], ◌∷◌, length, Some, None, nat_lt, position, refl}
use Rattle.std.proofs.Common.{arith, inl, inr, subst}
use Rattle.std.proofs.Math.Bool.{not-not}
use Rattle.std.specs.List.{prefix_len, AllByRecursion}
use Rattle.std.proofs.lemmas.List.Sums.{prefix_len_passes, prefix_len_stops}
use Rattle.std.proofs.lemmas.Bool.{cases_Bool, le-ltb, ltb-true, ltb-false, cond-false}
use Rattle.measure.specs.Words.{first_not, FirstNot}

module _ (test : ℕ → Bool) where
  -- it stands where the test's opposite first holds
  pub first-position : (w : List ℕ) → position (λ b. not (test b)) w ≡ first_not test w
  first-position w = λ i. first_not (λ b. not-not (test b) i) w

  -- where none fails all pass
  leading_all : (w : List ℕ) → length w ≤ prefix_len test w → AllByRecursion (λ b. test b ≡ true) w
  leading_all [] h = tt
  leading_all (b ∷ bs) h =
      elim (cases_Bool (test b)) [ inl y ↦ (y, leading_all bs (omega (arith, rw y at h))) | inr n ↦ absurd (omega (arith, rw n at h)) ]

  all-leading : (w : List ℕ) → AllByRecursion (λ b. test b ≡ true) w → prefix_len test w ≡ length w
  all-leading [] h = refl
  all-leading (b ∷ bs) h = rw h.0 (omega (arith, all-leading bs h.1))

  pub first-is : (w : List ℕ) (p : ℕ) → first_not test w ≡ Some p → FirstNot test w p
  first-is w p e =
      elim (cases_Bool (nat_lt (prefix_len test w) (length w))) [
        | inl y ↦
            let q : prefix_len test w ≡ p = let s : Some (prefix_len test w) ≡ Some p = rw y at e in cc in
            let h : prefix_len test w < length w = ltb-true _ _ y in
            subst (FirstNot test w) q (h, prefix_len_stops test w 0 h, λ k l. prefix_len_passes test w k 0 l)
        | inr n ↦ let s : None ≡ Some p = rw n at e in cc
      ]

  pub none-all : (w : List ℕ) → first_not test w ≡ None → AllByRecursion (λ b. test b ≡ true) w
  none-all w e =
      elim (cases_Bool (nat_lt (prefix_len test w) (length w))) [
        | inl y ↦ let s : Some (prefix_len test w) ≡ None = rw y at e in absurd (cc)
        | inr n ↦ leading_all w (ltb-false _ _ n)
      ]

  pub all_none : (w : List ℕ) → AllByRecursion (λ b. test b ≡ true) w → first_not test w ≡ None
  all_none w h = cond-false _ (Some (prefix_len test w)) None (le-ltb _ _ (omega (arith, all-leading w h)))
