-- Which bytes are a word, and what any bytes measure.
use Rattle.std.proofs.Common.{◌≡◌, ℕ, ◌<◌, ◌≤◌, true, false, leb, ◌⊎◌, List, length, Some, None, Ok, Err, MatchResult, Decides, Option, Result, sym, refl, ap, ◌∙◌, subst, inl, inr, arith}
use Rattle.std.proofs.lemmas.Bool.{cases_Bool, leb-true, leb-false, le-leb, and_from, and_parts, and_cases, and_right, cond-true, cond-false}
use Rattle.std.proofs.ByRecursion.{Decides-by_and}
use Rattle.faults.specs.declared.Cause.TheVariants as cause
use Rattle.faults.specs.declared.Fault.{Fault}
use Rattle.faults.specs.Faults.{fault_at}
use Rattle.measure.specs.Words.{word_byte, WordBytes, IsWord, word_bytes, word_long, is_word, first_not, bad_byte_or, unfit, Unfit}
use Rattle.measure.specs.Asked.{characterless, unless_unfit, measured_by, Measured}
use Rattle.measure.specs.Firsts.{first-is, none-all, all_none}

bytes-decided : (w : List ℕ) → Decides (word_bytes w) (WordBytes w)
bytes-decided = Decides-by_and word_byte (λ b. word_byte b ≡ true) word_bytes (λ b. (λ e. e, λ e. e)) refl (λ _ _. refl)

-- the test decides
pub word-decided : (w : List ℕ) → Decides (is_word w) (IsWord w)
word-decided w = (
  λ e.
      let p = and_parts (word_bytes w) (word_long (length w)) e in
      let q = and_parts (leb 1 (length w)) (leb (length w) 255) p.1 in
      (leb-true _ _ q.0, leb-true _ _ q.1, (bytes-decided w).0 p.0),
  λ h. and_from _ _ ((bytes-decided w).1 h.2) (and_from _ _ (le-leb _ _ h.0) (le-leb _ _ h.1)),
)

-- what the search and the test of the length find
unfit-at : (w : List ℕ) (o : Option ℕ) → first_not word_byte w ≡ o → is_word w ≡ false → unfit w ≡ Some (bad_byte_or o (fault_at cause.WordLength 0))
unfit-at w o e n =
    cond-false (is_word w) None (Some (bad_byte_or (first_not word_byte w) (fault_at cause.WordLength 0))) n
    ∙ ap (λ q. Some (bad_byte_or q (fault_at cause.WordLength 0))) e

pub unfit-byte : (w : List ℕ) (p : ℕ) → first_not word_byte w ≡ Some p → unfit w ≡ Some (fault_at cause.BadByte p)
unfit-byte w p e =
    elim (cases_Bool (is_word w)) [
      | inl y ↦ let q : first_not word_byte w ≡ None = all_none word_byte w ((word-decided w).0 y).2 in cc
      | inr n ↦ unfit-at w (Some p) e n
    ]

pub unfit-length : (w : List ℕ) → first_not word_byte w ≡ None → word_long (length w) ≡ false → unfit w ≡ Some (fault_at cause.WordLength 0)
unfit-length w e n = unfit-at w None e (and_right (word_bytes w) (word_long (length w)) n)

pub fits_word : (w : List ℕ) → first_not word_byte w ≡ None → word_long (length w) ≡ true → unfit w ≡ None
fits_word w e y =
    cond-true (is_word w) None _ (and_from (word_bytes w) (word_long (length w)) ((bytes-decided w).1 (none-all word_byte w e)) y)

pub word_fits : (w : List ℕ) → unfit w ≡ None → IsWord w
word_fits w e =
    elim (cases_Bool (is_word w)) [
      | inl y ↦ (word-decided w).0 y
      | inr n ↦ let q = unfit-at w (first_not word_byte w) refl n in absurd (cc)
    ]

too_long : (n : ℕ) → word_long n ≡ false → (n ≡ 0) ⊎ (255 < n)
too_long n e =
    elim (and_cases (leb 1 n) (leb n 255) e) [ inl a ↦ inl (omega (arith, leb-false 1 n a)) | inr b ↦ inr (leb-false n 255 b) ]

unfit-why : (w : List ℕ) (f : Fault) (o : Option ℕ) → first_not word_byte w ≡ o → unfit w ≡ Some f → Unfit w f
unfit-why w f (Some p) d e = let q = unfit-byte w p d in inl (p, first-is word_byte w p d, cc)
unfit-why w f None d e =
    elim (cases_Bool (word_long (length w))) [
      | inl y ↦ let q = fits_word w d y in absurd (cc)
      | inr n ↦ let q = unfit-length w d n in inr (none-all word_byte w d, too_long (length w) n, cc)
    ]

-- the definition has the law
measured-at : {X : Type 0} (meaning : List ℕ → Result X ℕ) (w : List ℕ) (o : Option Fault) (m : Result X ℕ) → unfit w ≡ o → meaning w ≡ m → Measured meaning w (unless_unfit o (characterless m))
measured-at meaning w (Some f) m e d = inl (unfit-why w f (first_not word_byte w) refl e)
measured-at meaning w None (Ok x) e d = (word_fits w e, d)
measured-at meaning w None (Err p) e d = inr (p, word_fits w e, d, refl)

pub measured-law : {X : Type 0} (meaning : List ℕ → Result X ℕ) (w : List ℕ) (r : Result X Fault) → r ≡ measured_by meaning w → Measured meaning w r
unfolding measured_by
measured-law meaning w r e = subst (Measured meaning w) (sym e) (measured-at meaning w (unfit w) (meaning w) refl refl)

-- every refusal's place is one of the bytes, or 0
pub measured-place : {X : Type 0} (meaning : List ℕ → Result X ℕ) (w : List ℕ) (f : Fault) → ((p : ℕ) → IsWord w → meaning w ≡ Err p → p < length w) → Measured meaning w (Err f) → f.place ≤ length w
measured-place meaning w f h (inl (inl (p, q, e))) = omega (arith, ap (λ x. x.place) e, q.0)
measured-place meaning w f h (inl (inr (b, n, e))) = omega (arith, ap (λ x. x.place) e)
measured-place meaning w f h (inr (p, q, d, e)) = omega (arith, ap (λ x. x.place) e, h p q d)

-- an answer's metrics and a refusal's place are within their bounds
pub measured_within : {X : Type 0} (P : X → Type 0) (meaning : List ℕ → Result X ℕ) (w : List ℕ) (r : Result X Fault) → ((x : X) → IsWord w → meaning w ≡ Ok x → P x) → ((p : ℕ) → IsWord w → meaning w ≡ Err p → p < length w) → Measured meaning w r → MatchResult r P (λ f. f.place ≤ length w)
measured_within P meaning w (Ok x) h g m = h x m.0 m.1
measured_within P meaning w (Err f) h g m = measured-place meaning w f g m

-- what the check of the bytes says
refused : {X : Type 0} (o : Option Fault) (f : Fault) (r : Result X Fault) → ◌≡◌ {A = Result (Unit {0}) Fault} (Err f) (unless_unfit o (Ok tt)) → ◌≡◌ {A = Result X Fault} (Err f) (unless_unfit o r)
refused (Some g) f r e = let s : f ≡ g = cc in ap Err s
refused None f r e = cc

passed : (o : Option Fault) → ◌≡◌ {A = Result (Unit {0}) Fault} (Ok tt) (unless_unfit o (Ok tt)) → o ≡ None
passed (Some g) e = cc
passed None e = refl

pub word_passed : (w : List ℕ) → ◌≡◌ {A = Result (Unit {0}) Fault} (Ok tt) (unless_unfit (unfit w) (Ok tt)) → IsWord w
word_passed w e = word_fits w (passed (unfit w) e)

module _ {X : Type 0} (meaning : List ℕ → Result X ℕ) (w : List ℕ) where
  pub measured-meant : IsWord w → measured_by meaning w ≡ characterless (meaning w)
  unfolding measured_by
  measured-meant h =
      ap (λ o. unless_unfit o (characterless (meaning w))) (cond-true (is_word w) None _ ((word-decided w).1 h))

  pub measured-refused : (f : Fault) → ◌≡◌ {A = Result (Unit {0}) Fault} (Err f) (unless_unfit (unfit w) (Ok tt)) → ◌≡◌ {A = Result X Fault} (Err f) (measured_by meaning w)
  unfolding measured_by
  measured-refused f e = refused (unfit w) f (characterless (meaning w)) e

  pub measured-word : IsWord w → (r : Result X Fault) → r ≡ characterless (meaning w) → r ≡ measured_by meaning w
  measured-word h r e = e ∙ sym (measured-meant h)
