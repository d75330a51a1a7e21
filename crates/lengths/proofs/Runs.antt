-- Runs of digits and what they spell. Assumes nothing.
use Rattle.std.proofs.Common.{◌≡◌, ℕ, zero, suc, ◌+◌, ◌-◌, ◌*◌, ◌<◌, ◌≤◌, leb, ◌^◌, List, [], ◌∷◌, ◌++◌, refl, map, length, get_or, take, sym, ap, ◌∙◌, subst, ⊎_elim, one-add, arith}
use native.Mathlib.Nat.{pow-le-pow_right}
use lib.ListN.{length-map}
use Rattle.std.specs.List.{prefix_len, fold}
use Rattle.std.specs.Int.Digits.{AllBelowBase, number_from_digits, number_from_digits_after}
use Rattle.std.proofs.lemmas.Int.Digits.{number_push, number_lt}
use Rattle.std.proofs.lemmas.List.{map-append}
use Rattle.std.proofs.lemmas.Bool.{cases_Bool, cond-true, cond-false, and_parts, leb-true}
use Rattle.lengths.specs.Fractions.{Digits, numeral}
use Rattle.lengths.specs.Amounts.{digit_byte}

pub digit_at : (ds : List ℕ) (i e : ℕ) → i < length ds → Digits ds → (48 ≤ get_or ds i e) × (get_or ds i e ≤ 57)
digit_at [] i e h d = absurd (omega arith)
digit_at (x ∷ ds) zero e h d = (d.0, d.1)
digit_at (x ∷ ds) (suc i) e h d = digit_at ds i e (omega arith) d.2

pub take-digits : (ds : List ℕ) (k : ℕ) → Digits ds → Digits (take k ds)
take-digits ds zero d = tt
take-digits [] (suc k) d = tt
take-digits (x ∷ ds) (suc k) d = (d.0, d.1, take-digits ds k d.2)

-- the longest front of digits is made of digits
pub run-digits : (s : List ℕ) → Digits (take (prefix_len digit_byte s) s)
run-digits [] = tt
run-digits (b ∷ s) =
    ⊎_elim
    (λ yes.
    let both = and_parts (leb 48 b) (leb b 57) yes in
    let e : prefix_len digit_byte (b ∷ s) ≡ suc (prefix_len digit_byte s) = cond-true (digit_byte b) _ _ yes ∙ one-add _ in
    subst (λ (n : ℕ). Digits (take n (b ∷ s))) (sym e) (leb-true 48 b both.0, leb-true b 57 both.1, run-digits s))
    (λ no'. subst (λ (n : ℕ). Digits (take n (b ∷ s))) (sym (cond-false (digit_byte b) (1 + prefix_len digit_byte s) 0 no')) tt)
    (cases_Bool (digit_byte b))

-- the digits' number, step by step
pub folded : (ds : List ℕ) (n : ℕ) → fold (λ m d. m * 10 + (d - 48)) n ds ≡ number_from_digits_after 10 n (map (λ d. d - 48) ds)
folded [] n = refl
folded (d ∷ ds) n = folded ds (n * 10 + (d - 48))

pub numeral-push : (ds : List ℕ) (d : ℕ) → numeral (ds ++ (d ∷ [])) ≡ numeral ds * 10 + (d - 48)
numeral-push ds d = ap (number_from_digits 10) (map-append (λ x. x - 48) ds (d ∷ [])) ∙ number_push 10 (map (λ x. x - 48) ds) (d - 48)

below-ten : (ds : List ℕ) → Digits ds → AllBelowBase 10 (map (λ d. d - 48) ds)
below-ten [] h = tt
below-ten (d ∷ ds) h = (omega (arith, h.1), below-ten ds h.2)

pub numeral-few : (ds : List ℕ) → Digits ds → length ds ≤ 8 → numeral ds < 100000000
numeral-few ds h few =
    let values = map (λ d. d - 48) ds in
    let long : length values ≡ length ds = simp length-map in
    let grows : 10 ^ length values ≤ 10 ^ 8 = (let some : 0 < 10 = omega arith in let most : length values ≤ 8 = omega arith in pow-le-pow_right some most) in
    omega (arith, number_lt 10 values (below-ten ds h))
