-- What is read is spelled: from the definition's value back to an amount with its unit. Assumes nothing.
use Rattle.std.proofs.Common.{◌≡◌, ℕ, ◌+◌, ◌-◌, ◌*◌, ◌<◌, ◌≤◌, true, false, cond, ◌||◌, eqb, ltb, leb, ◌⊎◌, List, [], ◌∷◌, ◌++◌, length, get_or, take, drop, is_some, Some, None, Option, sym, refl, ap, ◌∙◌, subst, ⊎_elim, add-one, arith, length-drop, take-append-drop, length-take, take-add}
use Rattle.std.specs.List.{prefix_len}
use Rattle.std.proofs.lemmas.List.{length-take-le, drop-drop}
use Rattle.std.proofs.lemmas.List.Sums.{prefix_len-le-length}
use Rattle.std.proofs.lemmas.Bool.{cases_Bool, cond-true, cond-false, or_parts, eqb-true, eqb-false, ltb-false, leb-true, both_ways}
use Rattle.lengths.specs.declared.dimen.Dimen.{Dimen}
use Rattle.lengths.specs.declared.order.Order.{Order}
use Rattle.lengths.specs.declared.order.Order.TheVariants.{Points, Fil, Fill, Filll}
use Rattle.lengths.specs.Fractions.{Digits, Nearest, numeral, rounded}
use Rattle.lengths.specs.Orders.{unit_text}
use Rattle.lengths.specs.Amounts.{Amount, digit_byte, behind_point, fraction_of, with_fraction, amount_of}
use Rattle.lengths.specs.Dimens.{Measure, largest, swallowed, begins_with, measured, measure_of, with_measure, with_unit, dimen_of}
use Rattle.lengths.specs.Spelling.{pointed, SpellsAmount, Longest, SpellsMeasure}
use Rattle.lengths.proofs.Rounding.{nearest}
use Rattle.lengths.proofs.Runs.{run-digits}
use Rattle.lengths.proofs.Fronts.{front-begins, begins-front}

pub some_is : {X : Type 0} (x y : X) → Some x ≡ Some y → x ≡ y
some_is x y e = cc

pub none-some : {X : Type 0} (x : X) → None ≡ Some x → ⊥
none-some x e = both_ways false refl (ap is_some e)

-- what a fraction was read from
record Part (t : List ℕ) (f : Amount) : Type 0 where
  pub digits : List ℕ
  pub each : Digits digits
  pub short : length digits ≤ 17
  pub front : take f.len t ≡ pointed digits
  pub count : f.len ≡ length (pointed digits)
  pub value : f.value ≡ rounded digits

no_part : (t : List ℕ) (f : Amount) → Some (record { value = 0; len = 0 }) ≡ Some f → Part t f
no_part t f e =
    let zero' : Amount = record { value = 0; len = 0 } in
    subst (Part t) (some_is zero' f e) (record { digits = []; each = tt; short = omega arith; front = refl; count = refl; value = refl })

cases-lt_zero : (n : ℕ) → (n ≡ 0) ⊎ (0 < n)
cases-lt_zero n = grind arith

pointed-some : (fs : List ℕ) → 0 < length fs → pointed fs ≡ 46 ∷ fs
pointed-some [] h = absurd (omega arith)
pointed-some (f ∷ fs) h = refl

point_part : (b : ℕ) (bs : List ℕ) (f : Amount) → b ≡ 46 → behind_point bs (prefix_len digit_byte bs) ≡ Some f → Part (b ∷ bs) f
point_part b bs f point e =
    let k = prefix_len digit_byte bs in
    let inside = prefix_len-le-length digit_byte bs in
    let a : Amount = record { value = rounded (take k bs); len = k + 1 } in
    ⊎_elim
    (λ bad. absurd (none-some f (sym (cond-true (eqb k 0 || ltb 17 k) None (Some a) bad) ∙ e)))
    (λ good.
    let tests = or_parts (eqb k 0) (ltb 17 k) good in
    let few : k ≤ 17 = ltb-false 17 k tests.1 in
    let count : length (take k bs) ≡ k = length-take-le k bs inside in
    let some : 0 < length (take k bs) = ⊎_elim (λ z. absurd (eqb-false k 0 tests.0 (omega arith))) (λ h. h) (cases-lt_zero (length (take k bs))) in
    let shape = pointed-some (take k bs) some in
    subst (Part (b ∷ bs)) (some_is a f (sym (cond-false (eqb k 0 || ltb 17 k) None (Some a) good) ∙ e))
    (record {
      digits = take k bs;
      each = run-digits bs;
      short = omega arith;
      front = ap (λ (n : ℕ). take n (b ∷ bs)) (add-one k) ∙ ap (λ (x : ℕ). x ∷ take k bs) point ∙ sym shape;
      count = omega (arith, ap length shape);
      value = refl;
    }))
    (cases_Bool (eqb k 0 || ltb 17 k))

fraction-part : (t : List ℕ) (f : Amount) → fraction_of t ≡ Some f → Part t f
fraction-part [] f e = no_part [] f e
fraction-part (b ∷ bs) f e =
    let whole = behind_point bs (prefix_len digit_byte bs) in
    let none : Option Amount = Some (record { value = 0; len = 0 }) in
    ⊎_elim
    (λ yes'. point_part b bs f (eqb-true b 46 yes') (sym (cond-true (eqb b 46) whole none yes') ∙ e))
    (λ no'. no_part (b ∷ bs) f (sym (cond-false (eqb b 46) whole none no') ∙ e))
    (cases_Bool (eqb b 46))

-- the bytes of an amount that was read
module _ (s : List ℕ) where
  whole_part : (a : Amount) (r : Option Amount) → (prefix_len digit_byte s ≡ 0 → ⊥) → prefix_len digit_byte s ≤ 8 → fraction_of (drop (prefix_len digit_byte s) s) ≡ r → with_fraction (numeral (take (prefix_len digit_byte s) s)) (prefix_len digit_byte s) r ≡ Some a → SpellsAmount (take a.len s) a.value × (a.len ≤ length s)
  whole_part a None some few e h = absurd (none-some a h)
  whole_part a (Some f) some few e h =
      let n = prefix_len digit_byte s in
      let p = fraction-part (drop n s) f e in
      let inside = prefix_len-le-length digit_byte s in
      let long : length (take n s) ≡ n = length-take-le n s inside in
      let got : Amount = record { value = numeral (take n s) * 65536 + f.value; len = n + f.len } in
      let front : take (n + f.len) s ≡ take n s ++ pointed p.digits = take-add n f.len s ∙ ap (λ (t : List ℕ). take n s ++ t) p.front in
      let room : f.len ≤ length s - n = omega (arith, p.count, ap length p.front, length-take f.len (drop n s), length-drop n s) in
      let first : SpellsAmount (take (n + f.len) s) (numeral (take n s) * 65536 + f.value) = record {
        whole = take n s;
        fraction = p.digits;
        part = f.value;
        spelled = front;
        wholes = run-digits s;
        some = ⊎_elim (λ z. absurd (some z)) (λ z. omega arith) (cases-lt_zero n);
        few = omega arith;
        fractions = p.each;
        short = p.short;
        nearest = subst (Nearest p.digits) (sym p.value) (nearest p.digits);
        value = refl;
      } in
      subst (λ (x : Amount). SpellsAmount (take x.len s) x.value × (x.len ≤ length s)) (some_is got a h) (first, omega arith)

  amount-spelled : (a : Amount) → amount_of s ≡ Some a → SpellsAmount (take a.len s) a.value × (a.len ≤ length s)
  amount-spelled a e =
      let n = prefix_len digit_byte s in
      let read = with_fraction (numeral (take n s)) n (fraction_of (drop n s)) in
      ⊎_elim
      (λ bad. absurd (none-some a (sym (cond-true (eqb n 0 || ltb 8 n) None read bad) ∙ e)))
      (λ good.
      let tests = or_parts (eqb n 0) (ltb 8 n) good in
      whole_part a (fraction_of (drop n s)) (eqb-false n 0 tests.0) (ltb-false 8 n tests.1) refl
      (sym (cond-false (eqb n 0 || ltb 8 n) None read good) ∙ e))
      (cases_Bool (eqb n 0 || ltb 8 n))

-- what a unit was read from
record Named (t : List ℕ) (m : Measure) : Type 0 where
  pub front : t ≡ unit_text m.value ++ drop m.len t
  pub count : m.len ≡ length (unit_text m.value)
  pub longest : Longest m.value (drop m.len t)

-- a unit that does not stand at the start is not there
shut : (t : List ℕ) (p : Order) (tail : List ℕ) → begins_with (unit_text p) t ≡ false → t ≡ unit_text p ++ tail → ⊥
shut t p tail none e = both_ways (begins_with (unit_text p) t) none (ap (begins_with (unit_text p)) e ∙ begins-front (unit_text p) tail)

module _ (t : List ℕ) (m : Measure) where
  named : (o : Order) → begins_with (unit_text o) t ≡ true → ((rest : List ℕ) → t ≡ unit_text o ++ rest → Longest o rest) → measured o ≡ Some m → Named t m
  named o fits longest e =
      let rest = drop (length (unit_text o)) t in
      let front = front-begins (unit_text o) t fits in
      let got : Measure = record { value = o; len = length (unit_text o) } in
      subst (Named t) (some_is got m e) (record { front = front; count = refl; longest = longest rest front })

  points_longest : (rest : List ℕ) → Longest Points rest
  points_longest rest Points tail e = omega arith
  points_longest rest Fil tail e = absurd (omega (arith, ap (λ (x : List ℕ). get_or x 0 0) e))
  points_longest rest Fill tail e = absurd (omega (arith, ap (λ (x : List ℕ). get_or x 0 0) e))
  points_longest rest Filll tail e = absurd (omega (arith, ap (λ (x : List ℕ). get_or x 0 0) e))

  filll-longest : (rest : List ℕ) → Longest Filll rest
  filll-longest rest Points tail e = omega arith
  filll-longest rest Fil tail e = omega arith
  filll-longest rest Fill tail e = omega arith
  filll-longest rest Filll tail e = omega arith

  fill-longest : begins_with (unit_text Filll) t ≡ false → (rest : List ℕ) → t ≡ unit_text Fill ++ rest → Longest Fill rest
  fill-longest none rest front Points tail e = omega arith
  fill-longest none rest front Fil tail e = omega arith
  fill-longest none rest front Fill tail e = omega arith
  fill-longest none rest front Filll tail e = absurd (shut t Filll tail none (front ∙ e))

  fil_longest : begins_with (unit_text Filll) t ≡ false → begins_with (unit_text Fill) t ≡ false → (rest : List ℕ) → t ≡ unit_text Fil ++ rest → Longest Fil rest
  fil_longest none one rest front Points tail e = omega arith
  fil_longest none one rest front Fil tail e = omega arith
  fil_longest none one rest front Fill tail e = absurd (shut t Fill tail one (front ∙ e))
  fil_longest none one rest front Filll tail e = absurd (shut t Filll tail none (front ∙ e))

  -- the units in the order in which they are tried
  try : {A : Type 0} (o : Order) (x y : Option A) (z : Option A) (P : Type 0) → cond (begins_with (unit_text o) t) x y ≡ z → (begins_with (unit_text o) t ≡ true → x ≡ z → P) → (begins_with (unit_text o) t ≡ false → y ≡ z → P) → P
  try o x y z P e first then =
      ⊎_elim
      (λ h. first h (sym (cond-true (begins_with (unit_text o) t) x y h) ∙ e))
      (λ h. then h (sym (cond-false (begins_with (unit_text o) t) x y h) ∙ e))
      (cases_Bool (begins_with (unit_text o) t))

  unit-spelled : measure_of t ≡ Some m → Named t m
  unit-spelled e =
      try Points _ _ (Some m) (Named t m) e (λ h. named Points h (λ rest _. points_longest rest))
      (λ _ e₁. try Filll _ _ (Some m) (Named t m) e₁ (λ h. named Filll h (λ rest _. filll-longest rest))
      (λ none e₂. try Fill _ _ (Some m) (Named t m) e₂ (λ h. named Fill h (fill-longest none))
      (λ one e₃. try Fil _ _ (Some m) (Named t m) e₃ (λ h. named Fil h (fil_longest none one))
      (λ _ e₄. absurd (none-some m e₄)))))

module _ (s : List ℕ) (d : Dimen) where
  measure-spelled : (a : Amount) (r : Option Measure) → amount_of s ≡ Some a → measure_of (drop a.len s) ≡ r → with_measure s a r ≡ Some d → SpellsMeasure s d.size d.order d.end × (d.size ≤ largest)
  measure-spelled a None e u h = absurd (none-some d h)
  measure-spelled a (Some m) e u h =
      let used = a.len + m.len in
      let got : Dimen = record { size = a.value; order = m.value; end = used + swallowed (drop used s) } in
      let unit = unit-spelled (drop a.len s) m u in
      let amount = amount-spelled s a e in
      let rest = drop m.len (drop a.len s) in
      let over : drop used s ≡ rest = sym (drop-drop m.len a.len s) in
      let count : length (take a.len s) ≡ a.len = length-take-le a.len s amount.1 in
      let spelled : SpellsMeasure s a.value m.value (used + swallowed (drop used s)) = record {
        bytes = take a.len s;
        rest = rest;
        spelled = sym (take-append-drop a.len s) ∙ ap (λ (t : List ℕ). take a.len s ++ t) unit.front;
        amount = amount.0;
        longest = unit.longest;
        len = ap (λ (t : List ℕ). used + swallowed t) over ∙ omega (arith, count, unit.count);
      } in
      ⊎_elim
      (λ good. subst (λ (x : Dimen). SpellsMeasure s x.size x.order x.end × (x.size ≤ largest))
      (some_is got d (sym (cond-true (leb a.value largest) (Some got) None good) ∙ h))
      (spelled, leb-true a.value largest good))
      (λ bad. absurd (none-some d (sym (cond-false (leb a.value largest) (Some got) None bad) ∙ h)))
      (cases_Bool (leb a.value largest))

  amount-first : (r : Option Amount) → amount_of s ≡ r → with_unit s r ≡ Some d → SpellsMeasure s d.size d.order d.end × (d.size ≤ largest)
  amount-first None e h = absurd (none-some d h)
  amount-first (Some a) e h = measure-spelled a (measure_of (drop a.len s)) e refl h

  -- what is read is spelled, and not too large
  pub dimen-spelled : dimen_of s ≡ Some d → SpellsMeasure s d.size d.order d.end × (d.size ≤ largest)
  dimen-spelled h = amount-first (amount_of s) refl h
