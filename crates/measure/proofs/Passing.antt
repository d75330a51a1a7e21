-- Going over bytes one by one, up to the first that fails a test.
use Rattle.std.specs.Prelude.{◌≡◌, ℕ, zero, suc, ◌+◌, ◌<◌, ◌≤◌, Bool, true, false, ltb, List, [], ◌∷◌, length, drop, Some, None, slice_index}
use Rattle.std.proofs.Common.{arith, inl, inr, sym, ap, ◌∙◌}
use Rattle.std.specs.List.{prefix_len}
use Rattle.std.proofs.lemmas.List.Sums.{prefix_len-drop_yes, prefix_len-drop_no, prefix_len-drop_all}
use Rattle.std.proofs.lemmas.Bool.{cases_Bool, lt-ltb, le-ltb, cond-true, cond-false}
use Rattle.measure.specs.Words.{first_not}

-- a loop that has passed i bytes
abbrev pub Passed : (ℕ → Bool) → List ℕ → ℕ → Type 0
Passed test w i = prefix_len test w ≡ i + prefix_len test (drop i w)

module _ (test : ℕ → Bool) (w : List ℕ) (i : ℕ) (passed : Passed test w i) where
  pub passed_more : i < length w → test (slice_index w i) ≡ true → Passed test w (i + 1)
  passed_more h y = omega (arith, prefix_len-drop_yes test w i 0 h y)

  pub first-here : i < length w → test (slice_index w i) ≡ false → Some i ≡ first_not test w
  first-here h n =
      let e : prefix_len test w ≡ i = omega (arith, prefix_len-drop_no test w i 0 h n) in
      let t : ltb (prefix_len test w) (length w) ≡ true = lt-ltb _ _ (omega arith) in
      ap Some (sym e) ∙ sym (cond-true _ (Some (prefix_len test w)) None t)

  pub first-none : length w ≤ i → None ≡ first_not test w
  first-none h =
      let t : ltb (prefix_len test w) (length w) ≡ false = le-ltb _ _ (omega (arith, prefix_len-drop_all test w i h)) in
      sym (cond-false _ (Some (prefix_len test w)) None t)

module _ (test : ℕ → Bool) where
  -- all before the first that fails pass
  leading_passes : (w : List ℕ) (k : ℕ) → k < prefix_len test w → test (slice_index w k) ≡ true
  leading_passes [] k h = absurd (omega arith)
  leading_passes (b ∷ bs) zero h =
      elim (cases_Bool (test b)) [ inl y ↦ y | inr n ↦ absurd (omega (arith, rw n at h)) ]
  leading_passes (b ∷ bs) (suc k) h =
      elim (cases_Bool (test b)) [ inl y ↦ leading_passes bs k (omega (arith, rw y at h)) | inr n ↦ absurd (omega (arith, rw n at h)) ]

  leading_stops : (w : List ℕ) (k : ℕ) → prefix_len test w ≡ k → k < length w → test (slice_index w k) ≡ false
  leading_stops [] k e h = absurd (omega arith)
  leading_stops (b ∷ bs) zero e h =
      elim (cases_Bool (test b)) [ inl y ↦ absurd (omega (arith, rw y at e)) | inr n ↦ n ]
  leading_stops (b ∷ bs) (suc k) e h =
      elim (cases_Bool (test b)) [ inl y ↦ leading_stops bs k (omega (arith, rw y at e)) (omega arith) | inr n ↦ absurd (omega (arith, rw n at e)) ]
