-- A length behind a minus. Assumes nothing.
use Rattle.std.proofs.Common.{◌≡◌, ℕ, ◌+◌, ◌-◌, ◌<◌, eqb, List, [], ◌∷◌, length, get_or, take, drop, ℤ, neg_ℤ, Some, sym, ap, ◌∙◌, arith}
use Rattle.std.proofs.lemmas.List.{take_rest}
use Rattle.std.proofs.lemmas.Bool.{cond-true, eq-eqb}
use Rattle.lengths.specs.declared.length.Length.{Length}
use Rattle.lengths.specs.Lengths.{points_of, turned, length_of}

pub minus_is : (s : List ℕ) → 0 < length s → get_or s 0 0 ≡ 45 → turned (points_of (take (length s - 1) (drop 1 s))) ≡ length_of s
minus_is [] some first = absurd (omega arith)
minus_is (b ∷ s) some first =
    ap (λ (t : List ℕ). turned (points_of t)) (take_rest (b ∷ s) 1) ∙ sym (cond-true (eqb b 45) (turned (points_of s)) (points_of (b ∷ s)) (eq-eqb b 45 first))

pub turned-is : (s : List ℕ) (l : Length) (z : ℤ) → 0 < length s → get_or s 0 0 ≡ 45 → z ≡ neg_ℤ l.sp → Some l ≡ points_of (take (length s - 1) (drop 1 s)) → Some (record { sp = z; end = 1 + l.end }) ≡ length_of s
turned-is s l z some first value e = ap (λ (x : ℤ). Some (record { sp = x; end = 1 + l.end })) value ∙ ap turned e ∙ minus_is s some first
