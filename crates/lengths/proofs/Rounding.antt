-- Rounding down from the last digit on loses nothing: the steps give the exact quotient. Assumes nothing.
use Rattle.std.proofs.Common.{◌≡◌, ℕ, ◌+◌, ◌-◌, ◌*◌, ◌/◌, ◌^◌, ◌<◌, ◌≤◌, List, [], ◌∷◌, map, length, sym, refl, ap, ◌∙◌, mul-le-mul_right, pow-suc, div-mul-le_self, arith}
use native.Mathlib.Nat.{one-le-pow, add-mul-div_right, div-div-eq-div-mul, lt-div-mul-add}
use Rattle.std.specs.Int.Digits.{number_from_digits_after}
use Rattle.lengths.specs.Fractions.{scaled, rounded, numeral, Nearest}

abbrev digit : ℕ → ℕ
digit d = d - 48

pub ten_pos : (k : ℕ) → 0 < 10 ^ k
ten_pos k = one-le-pow k 10 (omega arith)

moved : (n d p w : ℕ) → (n * 10 + d) * p + w ≡ n * (p * 10) + ((0 * 10 + d) * p + w)
moved n d p w = omega arith

-- a number read after n is n moved up, and the number
after : (ds : List ℕ) (n : ℕ) → number_from_digits_after 10 n (map digit ds) ≡ n * 10 ^ length ds + numeral ds
after [] n = omega arith
after (d ∷ ds) n =
    after ds (n * 10 + digit d)
    ∙ moved n (digit d) (10 ^ length ds) (numeral ds)
    ∙ ap (λ (m : ℕ). n * m + ((0 * 10 + digit d) * 10 ^ length ds + numeral ds)) (sym (pow-suc 10 (length ds)))
    ∙ ap (λ (m : ℕ). n * 10 ^ length (d ∷ ds) + m) (sym (after ds (0 * 10 + digit d)))

pub exact : (ds : List ℕ) → scaled ds ≡ numeral ds * 131072 / 10 ^ length ds
exact [] = refl
exact (d ∷ ds) =
    let p = ten_pos (length ds) in
    let head : numeral (d ∷ ds) ≡ (0 * 10 + digit d) * 10 ^ length ds + numeral ds = after ds (0 * 10 + digit d) in
    let sum : numeral ds * 131072 + (digit d * 131072) * 10 ^ length ds ≡ numeral (d ∷ ds) * 131072 = omega arith in
    ap (λ (n : ℕ). (n + digit d * 131072) / 10) (exact ds)
    ∙ ap (λ (n : ℕ). n / 10) (sym (add-mul-div_right (numeral ds * 131072) (digit d * 131072) p))
    ∙ div-div-eq-div-mul (numeral ds * 131072 + (digit d * 131072) * 10 ^ length ds) (10 ^ length ds) 10
    ∙ ap (λ (n : ℕ). n / (10 ^ length ds * 10)) sum
    ∙ ap (λ (n : ℕ). numeral (d ∷ ds) * 131072 / n) (sym (pow-suc 10 (length ds)))

half : (w p q r : ℕ) → q * p ≤ w * 131072 → w * 131072 < q * p + p → r ≡ (q + 1) / 2 → (2 * r * p ≤ 2 * 65536 * w + p) × (2 * 65536 * w + p < 2 * (r + 1) * p)
half w p q r low high e =
    let under : 2 * r * p ≤ (q + 1) * p = mul-le-mul_right p (omega arith) in
    let over : (q + 2) * p ≤ 2 * (r + 1) * p = mul-le-mul_right p (omega arith) in
    (omega arith, omega arith)

pub nearest : (ds : List ℕ) → Nearest ds (rounded ds)
nearest ds =
    half (numeral ds) (10 ^ length ds) (numeral ds * 131072 / 10 ^ length ds) (rounded ds)
    (div-mul-le_self (numeral ds * 131072) (10 ^ length ds))
    (lt-div-mul-add (ten_pos (length ds)))
    (ap (λ (q : ℕ). (q + 1) / 2) (exact ds))
