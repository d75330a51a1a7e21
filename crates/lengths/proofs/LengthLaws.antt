-- Lengths: what is spelled is answered, and nothing else. Assumes nothing.
use Rattle.std.proofs.Common.{◌≡◌, ℕ, ◌+◌, ◌<◌, ◌≤◌, Bool, true, false, cond, eqb, leb, List, [], ◌∷◌, ◌++◌, length, get_or, drop, ℤ, pos, neg_ℤ, Some, None, Ok, Err, Option, Result, sym, refl, ap, ◌∙◌, subst, inl, inr, ⊎_elim, arith, length-drop, get_or-drop}
use Rattle.std.proofs.lemmas.Bool.{cases_Bool, cond-true, cond-false, eqb-true, ne_eqb, le-leb, lt-leb}
use Rattle.faults.specs.declared.Fault.{Fault}
use Rattle.faults.specs.declared.Cause.TheVariants.{BadLength}
use Rattle.faults.specs.Faults.{fault_at}
use Rattle.lengths.specs.declared.order.Order.{Order}
use Rattle.lengths.specs.declared.order.Order.TheVariants.{Points, Fil, Fill, Filll}
use Rattle.lengths.specs.declared.dimen.Dimen.{Dimen}
use Rattle.lengths.specs.declared.length.Length.{Length}
use Rattle.lengths.specs.Fractions.{Digits}
use Rattle.lengths.specs.Orders.{unit_text}
use Rattle.lengths.specs.Dimens.{largest, dimen_of}
use Rattle.lengths.specs.Lengths.{in_points, by_order, points_of, turned, length_of, missing_at, placed, length_at}
use Rattle.lengths.specs.Spelling.{pointed, SpellsMeasure, SpellsLength, signed}
use Rattle.lengths.specs.Laws.{Begins, Missed, ReadsLength}
use Rattle.lengths.proofs.Complete.{dimen-read}
use Rattle.lengths.proofs.Sound.{some_is, none-some, dimen-spelled}
use Rattle.lengths.proofs.Refusals.{missing-begun, missed}

-- an amount begins with a digit
pub measures-first : (s : List ℕ) (size : ℕ) (o : Order) (n : ℕ) → SpellsMeasure s size o n → (0 < length s) × (48 ≤ get_or s 0 0) × (get_or s 0 0 ≤ 57)
measures-first s size o n h =
    let q = h.amount in
    let text : s ≡ (q.whole ++ pointed q.fraction) ++ (unit_text o ++ h.rest) = h.spelled ∙ ap (λ (x : List ℕ). x ++ (unit_text o ++ h.rest)) q.spelled in
    subst (λ (x : List ℕ). (0 < length x) × (48 ≤ get_or x 0 0) × (get_or x 0 0 ≤ 57)) (sym text) (first q.whole (pointed q.fraction) (unit_text o ++ h.rest) q.wholes q.some)
  where
    first : (w p t : List ℕ) → Digits w → 1 ≤ length w → (0 < length ((w ++ p) ++ t)) × (48 ≤ get_or ((w ++ p) ++ t) 0 0) × (get_or ((w ++ p) ++ t) 0 0 ≤ 57)
    first [] p t d some = absurd (omega arith)
    first (b ∷ w) p t d some = (omega arith, d.0, d.1)

-- a minus or an amount without one
pub bare-length : (s : List ℕ) → 48 ≤ get_or s 0 0 → length_of s ≡ points_of s
bare-length [] h = absurd (omega arith)
bare-length (b ∷ s) h = cond-false (eqb b 45) (turned (points_of s)) (points_of (b ∷ s)) (ne_eqb b 45 (λ e. absurd (omega arith)))

points_read : (s : List ℕ) (size n : ℕ) → SpellsMeasure s size Points n → points_of s ≡ cond (leb size largest) (Some (record { sp = pos size; end = n })) None
points_read s size n h =
    ap in_points (dimen-read s size Points n h)
    ∙ ⊎_elim
    (λ e. ap in_points (cond-true (leb size largest) (Some (record { size = size; order = Points; end = n })) None e) ∙ sym (cond-true (leb size largest) (Some (record { sp = pos size; end = n })) None e))
    (λ e. ap in_points (cond-false (leb size largest) (Some (record { size = size; order = Points; end = n })) None e) ∙ sym (cond-false (leb size largest) (Some (record { sp = pos size; end = n })) None e))
    (cases_Bool (leb size largest))

turn_cond : (b : Bool) (l : Length) → turned (cond b (Some l) None) ≡ cond b (Some (record { sp = neg_ℤ l.sp; end = 1 + l.end })) None
turn_cond true l = refl
turn_cond false l = refl

pub length-read : (s : List ℕ) (minus : Bool) (size n : ℕ) → SpellsLength s minus size n → length_of s ≡ cond (leb size largest) (Some (record { sp = signed minus size; end = n })) None
length-read s true size n h =
    ap length_of h.spelled
    ∙ ap turned (points_read h.tail size h.used h.amount)
    ∙ turn_cond (leb size largest) (record { sp = pos size; end = h.used })
    ∙ ap (λ (k : ℕ). cond (leb size largest) (Some (record { sp = neg_ℤ (pos size); end = k })) None) (sym h.len)
length-read s false size n h =
    ap length_of h.spelled
    ∙ bare-length h.tail (measures-first h.tail size Points h.used h.amount).1
    ∙ points_read h.tail size h.used h.amount
    ∙ ap (λ (k : ℕ). cond (leb size largest) (Some (record { sp = pos size; end = k })) None) (omega (arith, h.len))

-- a length without a sign that was read
module _ (s : List ℕ) (l : Length) where
  by-order : (d : Dimen) (o : Order) → dimen_of s ≡ Some d → d.order ≡ o → by_order o d.size d.end ≡ Some l → (size : ℕ) × SpellsMeasure s size Points l.end × (size ≤ largest) × (l.sp ≡ pos size)
  by-order d Fil e k h = absurd (none-some l h)
  by-order d Fill e k h = absurd (none-some l h)
  by-order d Filll e k h = absurd (none-some l h)
  by-order d Points e k h =
      let spelled = dimen-spelled s d e in
      let got : Length = record { sp = pos d.size; end = d.end } in
      subst (λ (x : Length). (size : ℕ) × SpellsMeasure s size Points x.end × (size ≤ largest) × (x.sp ≡ pos size)) (some_is got l h)
      (d.size, subst (λ (o : Order). SpellsMeasure s d.size o d.end) k spelled.0, spelled.1, refl)

  by-dimen : (r : Option Dimen) → dimen_of s ≡ r → in_points r ≡ Some l → (size : ℕ) × SpellsMeasure s size Points l.end × (size ≤ largest) × (l.sp ≡ pos size)
  by-dimen None e h = absurd (none-some l h)
  by-dimen (Some d) e h = by-order d d.order e refl h

  points_spelled : points_of s ≡ Some l → (size : ℕ) × SpellsMeasure s size Points l.end × (size ≤ largest) × (l.sp ≡ pos size)
  points_spelled h = by-dimen (dimen_of s) refl h

-- what is spelled where a length was read
abbrev pub Spelled : List ℕ → Length → Type 0
Spelled s l = (minus : Bool) × (size : ℕ) × (n : ℕ) × SpellsLength s minus size n × (size ≤ largest) × (l ≡ record { sp = signed minus size; end = n })

same_length : (l : Length) (z : ℤ) (n : ℕ) → l.sp ≡ z → l.end ≡ n → l ≡ record { sp = z; end = n }
same_length l z n e k = ap (λ (x : ℤ). record { sp = x; end = l.end }) e ∙ ap (λ (m : ℕ). record { sp = z; end = m }) k

turned-spelled : (bs : List ℕ) (l : Length) (r : Option Length) → points_of bs ≡ r → turned r ≡ Some l → Spelled (45 ∷ bs) l
turned-spelled bs l None e h = absurd (none-some l h)
turned-spelled bs l (Some p) e h =
    let q = points_spelled bs p e in
    let got : Length = record { sp = neg_ℤ p.sp; end = 1 + p.end } in
    subst (Spelled (45 ∷ bs)) (some_is got l h)
    (true, q.0, 1 + p.end, record { tail = bs; spelled = refl; used = p.end; amount = q.1; len = refl }, q.2, same_length got (neg_ℤ (pos q.0)) (1 + p.end) (ap neg_ℤ q.3) refl)

pub length-spelled : (s : List ℕ) (l : Length) → length_of s ≡ Some l → Spelled s l
length-spelled [] l h = absurd (none-some l h)
length-spelled (b ∷ bs) l h =
    ⊎_elim
    (λ yes'. subst (λ (c : ℕ). Spelled (c ∷ bs) l) (sym (eqb-true b 45 yes')) (turned-spelled bs l (points_of bs) refl (sym (cond-true (eqb b 45) (turned (points_of bs)) (points_of (b ∷ bs)) yes') ∙ h)))
    (λ no'.
    let q = points_spelled (b ∷ bs) l (sym (cond-false (eqb b 45) (turned (points_of bs)) (points_of (b ∷ bs)) no') ∙ h) in
    (false, q.0, l.end, record { tail = b ∷ bs; spelled = refl; used = l.end; amount = q.1; len = omega arith }, q.2, same_length l (pos q.0) l.end q.3 refl))
    (cases_Bool (eqb b 45))

-- a length begins with a digit or a minus
lengths-first : (s : List ℕ) (minus : Bool) (size n : ℕ) → SpellsLength s minus size n → (0 < length s) × Begins (get_or s 0 0)
lengths-first s true size n h = subst (λ (x : List ℕ). (0 < length x) × Begins (get_or x 0 0)) (sym h.spelled) (omega arith, inl refl)
lengths-first s false size n h =
    let m = measures-first h.tail size Points h.used h.amount in
    subst (λ (x : List ℕ). (0 < length x) × Begins (get_or x 0 0)) (sym h.spelled) (m.0, inr (m.1, m.2))

pub err_is : {X : Type 0} (f g : Fault) → ◌≡◌ {A = Result X Fault} (Err f) (Err g) → f ≡ g
err_is f g e = cc

pub ok_is : {X : Type 0} (x y : X) → ◌≡◌ {A = Result X Fault} (Ok x) (Ok y) → x ≡ y
ok_is x y e = cc

pub ok_err : {X : Type 0} (x : X) (f : Fault) → ◌≡◌ {A = Result X Fault} (Ok x) (Err f) → ⊥
ok_err x f e = cc

-- at a place within the text, the first byte of what is left is the byte there
pub begins-there : (text : List ℕ) (place : ℕ) → (0 < length (drop place text)) × Begins (get_or (drop place text) 0 0) → (place < length text) × Begins (get_or text place 0)
begins-there text place h =
    let e : get_or (drop place text) 0 0 ≡ get_or text place 0 = get_or-drop place text 0 0 ∙ ap (λ (k : ℕ). get_or text k 0) (omega arith) in
    (omega (arith, h.0, length-drop place text), subst Begins e h.1)

module _ (text : List ℕ) (place : ℕ) where
  good : (minus : Bool) (size n : ℕ) → SpellsLength (drop place text) minus size n → size ≤ largest → length_at text place ≡ Ok (record { sp = signed minus size; end = place + n })
  unfolding length_at
  good minus size n h small =
      ap (placed text place) (length-read (drop place text) minus size n h ∙ cond-true (leb size largest) (Some (record { sp = signed minus size; end = n })) None (le-leb size largest small))

  large : (minus : Bool) (size n : ℕ) → SpellsLength (drop place text) minus size n → largest < size → length_at text place ≡ Err (fault_at BadLength place)
  unfolding length_at
  large minus size n h big =
      let first = begins-there text place (lengths-first (drop place text) minus size n h) in
      ap (placed text place) (length-read (drop place text) minus size n h ∙ cond-false (leb size largest) (Some (record { sp = signed minus size; end = n })) None (lt-leb size largest big))
      ∙ ap Err (missing-begun text place first.0 first.1)

  Only : Length → Type 0
  Only l = (minus : Bool) × (size : ℕ) × (n : ℕ) × SpellsLength (drop place text) minus size n × (size ≤ largest) × (l ≡ record { sp = signed minus size; end = place + n })

  only-by : (l : Length) (r : Option Length) → length_of (drop place text) ≡ r → placed text place r ≡ Ok l → Only l
  unfolding Only
  only-by l None e h = absurd (ok_err l (missing_at text place) (sym h))
  only-by l (Some m) e h =
      let got : Length = record { sp = m.sp; end = place + m.end } in
      let q = length-spelled (drop place text) m e in
      (q.0, q.1, q.2, q.3, q.4, sym (ok_is got l h) ∙ ap (λ (x : Length). record { sp = x.sp; end = place + x.end }) q.5)

  refused-by : (f : Fault) (r : Option Length) → placed text place r ≡ Err f → Missed text place f
  refused-by f None h = subst (Missed text place) (err_is (missing_at text place) f h) (missed text place)
  refused-by f (Some m) h = absurd (ok_err (record { sp = m.sp; end = place + m.end }) f h)

  pub reads-length : (r : Result Length Fault) → r ≡ length_at text place → ReadsLength text place r
  unfolding length_at Only
  reads-length r e =
      record {
        good = λ minus size n h small. e ∙ good minus size n h small;
        large = λ minus size n h big. e ∙ large minus size n h big;
        only = λ l h. only-by l (length_of (drop place text)) refl (sym e ∙ h);
        refused = λ f h. refused-by f (length_of (drop place text)) (sym e ∙ h);
      }
