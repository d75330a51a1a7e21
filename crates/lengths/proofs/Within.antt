-- What is read lies within the text, and its numbers within their ranges: laws of the definitions. Assumes nothing.
use Rattle.std.proofs.Common.{◌≡◌, ℕ, ◌+◌, ◌<◌, ◌≤◌, Bool, true, false, List, [], ◌∷◌, ◌++◌, length, drop, pos, Some, None, Ok, Err, codes, Option, Result, sym, refl, ap, ◌∙◌, subst, ⊎_elim, arith, length-append, length-drop}
use Rattle.std.proofs.lemmas.Int.{ints}
use Rattle.std.proofs.lemmas.Bool.{cases_Bool, cond-true, cond-false}
use Rattle.faults.specs.declared.Fault.{Fault}
use Rattle.reader.specs.Classes.{space_byte}
use Rattle.reader.specs.Tokens.{spaces_end}
use Rattle.lengths.specs.declared.order.Order.{Order}
use Rattle.lengths.specs.declared.order.Order.TheVariants.{Points, Fil, Fill, Filll}
use Rattle.lengths.specs.declared.dimen.Dimen.{Dimen}
use Rattle.lengths.specs.declared.length.Length.{Length}
use Rattle.lengths.specs.Orders.{unit_text}
use Rattle.lengths.specs.Dimens.{largest, swallowed, begins_with, dimen_of}
use Rattle.lengths.specs.Lengths.{missing_at, length_at}
use Rattle.lengths.specs.Ranges.{NaturalRange}
use Rattle.lengths.specs.Gaps.{parts, InRange}
use Rattle.lengths.specs.Glues.{GlueParts, stretch_placed, stretch_at, stretched, behind_length, glue_at}
use Rattle.lengths.specs.Spelling.{SpellsMeasure, SpellsLength, sign, signed}
use Rattle.lengths.proofs.Sound.{dimen-spelled}
use Rattle.lengths.proofs.LengthLaws.{ok_is, ok_err, reads-length}
use Rattle.lengths.proofs.Glueing.{spaces-on}

swallowed-inside : (s : List ℕ) → swallowed s ≤ length s
swallowed-inside [] = omega arith
swallowed-inside (b ∷ s) =
    ⊎_elim
    (λ h. omega (arith, cond-true {A = ℕ} (space_byte b) 1 0 h))
    (λ h. omega (arith, cond-false {A = ℕ} (space_byte b) 1 0 h))
    (cases_Bool (space_byte b))

unit-long : (o : Order) → 2 ≤ length (unit_text o)
unit-long Points = omega arith
unit-long Fil = omega arith
unit-long Fill = omega arith
unit-long Filll = omega arith

measures-inside : (s : List ℕ) (size : ℕ) (o : Order) (n : ℕ) → SpellsMeasure s size o n → (1 ≤ n) × (n ≤ length s)
measures-inside s size o n h =
    let long = unit-long o in
    let space = swallowed-inside h.rest in
    let all = ap length h.spelled in
    let parted = length-append h.bytes (unit_text o ++ h.rest) in
    let unit = length-append (unit_text o) h.rest in
    (omega (arith, h.len), omega (arith, h.len))

signed-within : (minus : Bool) (size : ℕ) → size ≤ largest → NaturalRange (signed minus size)
signed-within true size h = (omega (arith, ints), omega (arith, ints))
signed-within false size h = (omega (arith, ints), omega (arith, ints))

sign-inside : (s : List ℕ) (minus : Bool) (size n : ℕ) → SpellsLength s minus size n → (1 ≤ n) × (n ≤ length s)
sign-inside s minus size n h =
    let body = measures-inside h.tail size Points h.used h.amount in
    let all = ap length h.spelled in
    let parted = length-append (sign minus) h.tail in
    (omega (arith, h.len, body.0), omega (arith, h.len, body.1))

pub length-within : (text : List ℕ) (place : ℕ) (l : Length) → length_at text place ≡ Ok l → NaturalRange l.sp × (place < l.end) × (l.end ≤ length text)
length-within text place l e =
    let q = (reads-length text place (length_at text place) refl).only l e in
    let n = q.2 in
    let inside = sign-inside (drop place text) q.0 q.1 n q.3 in
    let range = signed-within q.0 q.1 q.4 in
    let sp = ap (λ (x : Length). x.sp) q.5 in
    let end = ap (λ (x : Length). x.end) q.5 in
    let left = length-drop place text in
    (subst NaturalRange (sym sp) range, omega (arith, end, inside.0), omega (arith, end, left, inside.0, inside.1))

stretch-by : (text : List ℕ) (at : ℕ) (s : Dimen) (r : Option Dimen) → dimen_of (drop at text) ≡ r → stretch_placed text at r ≡ Ok s → (s.size ≤ 16777215) × (at < s.end) × (s.end ≤ length text)
stretch-by text at s None e h = absurd (ok_err s (missing_at text at) (sym h))
stretch-by text at s (Some d) e h =
    let q = dimen-spelled (drop at text) d e in
    let inside = measures-inside (drop at text) d.size d.order d.end q.0 in
    let got : Dimen = record { size = d.size; order = d.order; end = at + d.end } in
    let left = length-drop at text in
    subst (λ (x : Dimen). (x.size ≤ 16777215) × (at < x.end) × (x.end ≤ length text)) (ok_is got s h)
    (q.1, omega (arith, inside.0), omega (arith, left, inside.0, inside.1))

stretch-within : (text : List ℕ) (at : ℕ) (s : Dimen) → stretch_at text at ≡ Ok s → (s.size ≤ 16777215) × (at < s.end) × (s.end ≤ length text)
unfolding stretch_at
stretch-within text at s e = stretch-by text at s (dimen_of (drop at text)) refl e

-- glue lies behind its place and within the text, and its parts are those of a gap
abbrev pub GlueWithin : List ℕ → ℕ → GlueParts → Type 0
GlueWithin text place g = InRange g.gap.natural g.gap.stretch × (place < g.end) × (g.end ≤ length text)

module _ (text : List ℕ) (place : ℕ) (g : GlueParts) where
  plus-by : (l : Length) (at : ℕ) (r : Result Dimen Fault) → length_at text place ≡ Ok l → l.end ≤ at → stretch_at text at ≡ r → stretched l.sp r ≡ Ok g → GlueWithin text place g
  plus-by l at (Err f) there on e h = absurd (ok_err g f (sym h))
  plus-by l at (Ok s) there on e h =
      let first = length-within text place l there in
      let then = stretch-within text at s e in
      let got : GlueParts = record { gap = parts l.sp (pos s.size) s.order; end = s.end } in
      subst (GlueWithin text place) (ok_is got g h) ((first.0, (omega (arith, ints), omega (arith, ints, then.0))), omega (arith, first.1, then.1), then.2)

  length-by : (r : Result Length Fault) → length_at text place ≡ r → behind_length text r ≡ Ok g → GlueWithin text place g
  length-by (Err f) e h = absurd (ok_err g f (sym h))
  length-by (Ok l) e h =
      let at = spaces_end text (l.end + 4) in
      let on = spaces-on text (l.end + 4) in
      let first = length-within text place l e in
      let got : GlueParts = record { gap = parts l.sp (pos 0) Points; end = l.end } in
      let test = begins_with (codes "plus") (drop l.end text) in
      ⊎_elim
      (λ t. plus-by l at (stretch_at text at) e (omega arith) refl (sym (cond-true test (stretched l.sp (stretch_at text at)) (Ok got) t) ∙ h))
      (λ t. subst (GlueWithin text place) (ok_is got g (sym (cond-false test (stretched l.sp (stretch_at text at)) (Ok got) t) ∙ h))
      ((first.0, (omega (arith, ints), omega (arith, ints))), first.1, first.2))
      (cases_Bool test)

  pub glue-within : glue_at text place ≡ Ok g → GlueWithin text place g
  unfolding glue_at
  glue-within e = length-by (length_at text place) refl e
