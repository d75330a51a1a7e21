use Rattle.std.proofs.Common.{◌≡◌, ℕ, ◌+◌, ◌-◌, ◌*◌, ◌/◌, ◌<◌, ◌≤◌, List, [], ◌∷◌, length, get_or, take, drop, sym, ap, ◌∙◌, arith, rules}
use Rattle.std.proofs.lemmas.List.{take_rest, nil_from_length}
use Rattle.lengths.specs.Fractions.{Digits, scaled}
use Rattle.lengths.proofs.fraction.+scale.Goals as goal

first-digit : (xs : List ℕ) → 0 < length xs → Digits xs → get_or xs 0 0 ≤ 57
first-digit [] some h = absurd (omega arith)
first-digit (x ∷ xs) some h = h.1

step : (xs : List ℕ) (n : ℕ) → 0 < length xs → n ≡ scaled (take (length xs - 1) (drop 1 xs)) → (n + (get_or xs 0 0 - 48) * 131072) / 10 ≡ scaled xs
step [] n some e = absurd (omega arith)
step (x ∷ xs) n some e = ap (λ (m : ℕ). (m + (x - 48) * 131072) / 10) (e ∙ ap scaled (take_rest (x ∷ xs) 1))

pub returns-in-empty : goal.returns-in-empty
returns-in-empty t c = record { is = sym (ap scaled (nil_from_length c.args.digits.bytes.now (search rules))); small = omega arith }

pub returns-in-len1-up : goal.returns-in-len1-up
returns-in-len1-up t c =
    let some : 0 < length c.args.digits.bytes.now = search rules in
    let top = first-digit c.args.digits.bytes.now some c.args.digits.digits in
    record {
      is = rw c.from.ensures (step c.args.digits.bytes.now c.scale.result some c.scale.ensures.is);
      small = omega (arith, c.scale.ensures.small, c.from.ensures);
    }
