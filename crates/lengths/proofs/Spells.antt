-- Steps of reading an amount, over plain lists. Assumes nothing.
use Rattle.std.proofs.Common.{◌≡◌, ℕ, ◌+◌, ◌*◌, ◌≤◌, false, ◌||◌, eqb, ltb, List, take, drop, Some, None, sym, ap, ◌∙◌}
use Rattle.std.specs.List.{prefix_len}
use Rattle.std.proofs.lemmas.Bool.{cond-false, or_from, ne_eqb, le-ltb}
use Rattle.lengths.specs.Fractions.{numeral, rounded}
use Rattle.lengths.specs.Amounts.{Amount, digit_byte, behind_point, fraction_of, with_fraction, behind_digits, amount_of}

few : (n top : ℕ) → (n ≡ 0 → ⊥) → n ≤ top → (eqb n 0 || ltb top n) ≡ false
few n top some within = or_from _ _ (ne_eqb n 0 some) (le-ltb top n within)

pub part-is : (s : List ℕ) (n r : ℕ) → n ≡ prefix_len digit_byte s → (n ≡ 0 → ⊥) → n ≤ 17 → r ≡ rounded (take n s) → Some (record { value = r; len = n + 1 }) ≡ behind_point s (prefix_len digit_byte s)
part-is s n r run some within e =
    ap (λ (m : ℕ). Some (record { value = m; len = n + 1 })) e
    ∙ sym (cond-false (eqb n 0 || ltb 17 n) None (Some (record { value = rounded (take n s); len = n + 1 })) (few n 17 some within))
    ∙ ap (behind_point s) run

pub amount-is : (s : List ℕ) (n w : ℕ) (f : Amount) → n ≡ prefix_len digit_byte s → (n ≡ 0 → ⊥) → n ≤ 8 → w ≡ numeral (take n s) → Some f ≡ fraction_of (drop n s) → Some (record { value = w * 65536 + f.value; len = n + f.len }) ≡ amount_of s
amount-is s n w f run some within value part =
    ap (λ (m : ℕ). Some (record { value = m * 65536 + f.value; len = n + f.len })) value
    ∙ ap (with_fraction (numeral (take n s)) n) part
    ∙ sym (cond-false (eqb n 0 || ltb 8 n) None (with_fraction (numeral (take n s)) n (fraction_of (drop n s))) (few n 8 some within))
    ∙ ap (behind_digits s) run
