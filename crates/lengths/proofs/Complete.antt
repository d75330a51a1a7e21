-- What is spelled is read: from an amount with its unit to the definition's value. Assumes nothing.
use Rattle.std.proofs.Common.{◌≡◌, ℕ, ◌+◌, ◌*◌, ◌^◌, ◌<◌, ◌≤◌, true, false, cond, eqb, leb, ◌⊎◌, List, [], ◌∷◌, ◌++◌, length, take, drop, Some, None, sym, refl, ap, ◌∙◌, ⊎_elim, append_assoc, mul-le-mul_right, add-one, one-add, arith, length-append}
use Rattle.std.specs.List.{prefix_len}
use Rattle.std.proofs.lemmas.List.{take_at, drop_at, drop-drop}
use Rattle.std.proofs.lemmas.Bool.{cases_Bool, and_from, and_cases, and_left, cond-true, cond-false, le-leb, both_ways}
use Rattle.lengths.specs.declared.order.Order.{Order}
use Rattle.lengths.specs.declared.order.Order.TheVariants.{Points, Fil, Fill, Filll}
use Rattle.lengths.specs.Fractions.{Digits, Nearest, numeral, rounded}
use Rattle.lengths.specs.Orders.{unit_text}
use Rattle.lengths.specs.Amounts.{Amount, digit_byte, fraction_of, amount_of}
use Rattle.lengths.specs.Dimens.{largest, swallowed, begins_with, measured, measure_of, dimen_of}
use Rattle.lengths.specs.Spelling.{pointed, Longest, SpellsMeasure}
use Rattle.lengths.proofs.Rounding.{nearest}
use Rattle.lengths.proofs.Fronts.{front-begins}
use Rattle.lengths.proofs.Spells.{part-is, amount-is}
use Rattle.lengths.proofs.Units.{dimen-sized}

-- a digit passes the test
digit-passes : (b : ℕ) → 48 ≤ b → b ≤ 57 → digit_byte b ≡ true
digit-passes b low high = and_from (leb 48 b) (leb b 57) (le-leb 48 b low) (le-leb b 57 high)

-- digits with no digit behind them are the longest run
pub run_is : (ds t : List ℕ) → Digits ds → prefix_len digit_byte t ≡ 0 → prefix_len digit_byte (ds ++ t) ≡ length ds
run_is [] t d stop = stop
run_is (b ∷ ds) t d stop =
    cond-true (digit_byte b) (1 + prefix_len digit_byte (ds ++ t)) 0 (digit-passes b d.0 d.1)
    ∙ ap (λ (n : ℕ). 1 + n) (run_is ds t d.2 stop)
    ∙ one-add (length ds)

-- no unit begins with a digit or a point
unit-stops : (o : Order) (rest : List ℕ) → prefix_len digit_byte (unit_text o ++ rest) ≡ 0
unit-stops Points rest = refl
unit-stops Fil rest = refl
unit-stops Fill rest = refl
unit-stops Filll rest = refl

unit-bare : (o : Order) (rest : List ℕ) → fraction_of (unit_text o ++ rest) ≡ Some (record { value = 0; len = 0 })
unit-bare Points rest = refl
unit-bare Fil rest = refl
unit-bare Fill rest = refl
unit-bare Filll rest = refl

point_stops : (fs : List ℕ) (o : Order) (rest : List ℕ) → prefix_len digit_byte (pointed fs ++ (unit_text o ++ rest)) ≡ 0
point_stops [] o rest = unit-stops o rest
point_stops (f ∷ fs) o rest = refl

-- only one number is the nearest
between : (p a r q : ℕ) → 2 * r * p ≤ a → a < 2 * (q + 1) * p → r ≤ q
between p a r q low high =
    ⊎_elim (λ h. h) (λ h. absurd (let up : 2 * (q + 1) * p ≤ 2 * r * p = mul-le-mul_right p (omega arith) in omega arith)) (cases r q)
  where
    cases : (m n : ℕ) → (m ≤ n) ⊎ (n < m)
    cases m n = grind arith

pub nearest-one : (ds : List ℕ) (r q : ℕ) → Nearest ds r → Nearest ds q → r ≡ q
nearest-one ds r q h k =
    let p = 10 ^ length ds in
    let a = 2 * 65536 * numeral ds + p in
    let under = between p a r q h.0 k.1 in
    let over = between p a q r k.0 h.1 in
    omega arith

fraction-read : (fs : List ℕ) (part : ℕ) (t : List ℕ) → prefix_len digit_byte t ≡ 0 → fraction_of t ≡ Some (record { value = 0; len = 0 }) → Digits fs → length fs ≤ 17 → Nearest fs part → fraction_of (pointed fs ++ t) ≡ Some (record { value = part; len = length (pointed fs) })
fraction-read [] part t stop bare ds short near =
    bare ∙ ap (λ (n : ℕ). Some (record { value = n; len = 0 })) (nearest-one [] 0 part (nearest []) near)
fraction-read (f ∷ fs) part t stop bare ds short near =
    let run = run_is (f ∷ fs) t ds stop in
    let n = length (f ∷ fs) in
    let front : take n (f ∷ fs ++ t) ≡ f ∷ fs = take_at (f ∷ fs) t n refl in
    let value : part ≡ rounded (take n (f ∷ fs ++ t)) = nearest-one (f ∷ fs) part (rounded (f ∷ fs)) near (nearest (f ∷ fs)) ∙ sym (ap rounded front) in
    sym (part-is (f ∷ fs ++ t) n part (sym run) (λ z. absurd (omega arith)) short value)
    ∙ ap (λ (k : ℕ). Some (record { value = part; len = k })) (add-one n)

module _ (whole fraction : List ℕ) (part : ℕ) (o : Order) (rest : List ℕ) (wholes : Digits whole) (some : 1 ≤ length whole) (few : length whole ≤ 8) (fractions : Digits fraction) (short : length fraction ≤ 17) (near : Nearest fraction part) where
  pub amount-read : amount_of (whole ++ (pointed fraction ++ (unit_text o ++ rest))) ≡ Some (record { value = numeral whole * 65536 + part; len = length whole + length (pointed fraction) })
  amount-read =
      let t = pointed fraction ++ (unit_text o ++ rest) in
      let n = length whole in
      let f : Amount = record { value = part; len = length (pointed fraction) } in
      let front : take n (whole ++ t) ≡ whole = take_at whole t n refl in
      let back : drop n (whole ++ t) ≡ t = drop_at whole t n refl in
      sym (amount-is (whole ++ t) n (numeral whole) f
      (sym (run_is whole t wholes (point_stops fraction o rest)))
      (λ z. absurd (omega arith))
      few
      (sym (ap numeral front))
      (sym (ap fraction_of back ∙ fraction-read fraction part (unit_text o ++ rest) (unit-stops o rest) (unit-bare o rest) fractions short near)))

-- a word of one more byte fits only where that byte stands
fits-l : (rest : List ℕ) → begins_with (108 ∷ []) rest ≡ true → rest ≡ 108 ∷ drop 1 rest
fits-l rest h = front-begins (108 ∷ []) rest h

-- where no `l` stands there are not two
not_two : (rest : List ℕ) → begins_with (108 ∷ []) rest ≡ false → begins_with (108 ∷ 108 ∷ []) rest ≡ false
not_two [] h = refl
not_two (b ∷ rest) h =
    ⊎_elim (λ e. and_left (eqb b 108) (begins_with (108 ∷ []) rest) e) (λ e. absurd (both_ways true e refl)) (and_cases (eqb b 108) true h)

pub unit-read : (o : Order) (rest : List ℕ) → Longest o rest → measure_of (unit_text o ++ rest) ≡ measured o
unit-read Points rest longest = refl
unit-read Filll rest longest = refl
unit-read Fill rest longest =
    ⊎_elim
    (λ yes'. absurd (let long = longest Filll (drop 1 rest) (ap (λ (t : List ℕ). unit_text Fill ++ t) (fits-l rest yes')) in omega arith))
    (λ none. cond-false (begins_with (108 ∷ []) rest) (measured Filll) (measured Fill) none)
    (cases_Bool (begins_with (108 ∷ []) rest))
unit-read Fil rest longest =
    ⊎_elim
    (λ yes'. absurd (let long = longest Fill (drop 1 rest) (ap (λ (t : List ℕ). unit_text Fil ++ t) (fits-l rest yes')) in omega arith))
    (λ none.
    cond-false (begins_with (108 ∷ 108 ∷ []) rest) (measured Filll) _ (not_two rest none)
    ∙ cond-false (begins_with (108 ∷ []) rest) (measured Fill) (measured Fil) none)
    (cases_Bool (begins_with (108 ∷ []) rest))

-- what is spelled is read, or refused for its size
pub dimen-read : (s : List ℕ) (size : ℕ) (o : Order) (n : ℕ) → SpellsMeasure s size o n → dimen_of s ≡ cond (leb size largest) (Some (record { size = size; order = o; end = n })) None
dimen-read s size o n h =
    let a : Amount = record { value = size; len = length h.bytes } in
    let t = unit_text o ++ h.rest in
    let q = h.amount in
    let count : length h.bytes ≡ length q.whole + length (pointed q.fraction) = ap length q.spelled ∙ length-append q.whole (pointed q.fraction) in
    let text : s ≡ q.whole ++ (pointed q.fraction ++ t) = h.spelled ∙ ap (λ (x : List ℕ). x ++ t) q.spelled ∙ append_assoc q.whole (pointed q.fraction) t in
    let there : Some a ≡ amount_of s =
    ap (λ (k : ℕ). Some (record { value = k; len = length h.bytes })) q.value
    ∙ ap (λ (k : ℕ). Some (record { value = numeral q.whole * 65536 + q.part; len = k })) count
    ∙ sym (amount-read q.whole q.fraction q.part o h.rest q.wholes q.some q.few q.fractions q.short q.nearest)
    ∙ ap amount_of (sym text) in
    let behind : drop (length h.bytes) s ≡ t = ap (drop (length h.bytes)) h.spelled ∙ drop_at h.bytes t (length h.bytes) refl in
    let unit : measured o ≡ measure_of (drop (length h.bytes) s) = sym (ap measure_of behind ∙ unit-read o h.rest h.longest) in
    let used = length h.bytes + length (unit_text o) in
    let over : drop used s ≡ h.rest =
    sym (drop-drop (length (unit_text o)) (length h.bytes) s) ∙ ap (drop (length (unit_text o))) behind ∙ drop_at (unit_text o) h.rest (length (unit_text o)) refl in
    sym (dimen-sized s a there (record { value = o; len = length (unit_text o) }) unit)
    ∙ ap (λ (k : ℕ). cond (leb size largest) (Some (record { size = size; order = o; end = k })) None) (ap (λ (x : List ℕ). used + swallowed x) over ∙ sym h.len)
