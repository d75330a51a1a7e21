-- Glue: what is spelled is answered, and nothing else. Assumes nothing.
use Rattle.std.proofs.Common.{◌≡◌, ℕ, ◌+◌, ◌<◌, ◌≤◌, true, false, leb, List, ◌++◌, drop, pos, Some, None, Ok, Err, codes, Option, Result, sym, refl, ap, ◌∙◌, inr, ⊎_elim}
use Rattle.std.proofs.lemmas.Bool.{cases_Bool, cond-true, cond-false, le-leb, lt-leb}
use Rattle.faults.specs.declared.Fault.{Fault}
use Rattle.faults.specs.declared.Cause.TheVariants.{BadLength}
use Rattle.faults.specs.Faults.{fault_at}
use Rattle.reader.specs.Tokens.{blank_byte, spaces_end}
use Rattle.reader.proofs.Runs.{longest-one, spaces-longest}
use Rattle.lengths.specs.declared.order.Order.{Order}
use Rattle.lengths.specs.declared.order.Order.TheVariants.{Points}
use Rattle.lengths.specs.declared.dimen.Dimen.{Dimen}
use Rattle.lengths.specs.declared.length.Length.{Length}
use Rattle.lengths.specs.Dimens.{largest, begins_with, dimen_of}
use Rattle.lengths.specs.Lengths.{missing_at, length_at}
use Rattle.lengths.specs.Gaps.{parts}
use Rattle.lengths.specs.Glues.{GlueParts, stretch_placed, stretch_at, stretched, glue_at}
use Rattle.lengths.specs.Spelling.{SpellsMeasure}
use Rattle.lengths.specs.Laws.{Plus, ReadsGlue}
use Rattle.lengths.proofs.Fronts.{begins-front, front-begins}
use Rattle.lengths.proofs.Complete.{dimen-read}
use Rattle.lengths.proofs.Sound.{dimen-spelled}
use Rattle.lengths.proofs.Refusals.{missing-begun, missed}
use Rattle.lengths.proofs.LengthLaws.{measures-first, begins-there}
use Rattle.lengths.proofs.Glueing.{glue-refused, glue-plain, glue-plus}

module _ (text : List ℕ) (at : ℕ) where
  pub stretch-good : (size : ℕ) (o : Order) (n : ℕ) → SpellsMeasure (drop at text) size o n → size ≤ largest → stretch_at text at ≡ Ok (record { size = size; order = o; end = at + n })
  unfolding stretch_at
  stretch-good size o n h small =
      ap (stretch_placed text at) (dimen-read (drop at text) size o n h ∙ cond-true (leb size largest) (Some (record { size = size; order = o; end = n })) None (le-leb size largest small))

  pub stretch-large : (size : ℕ) (o : Order) (n : ℕ) → SpellsMeasure (drop at text) size o n → largest < size → stretch_at text at ≡ Err (fault_at BadLength at)
  unfolding stretch_at
  stretch-large size o n h big =
      let m = measures-first (drop at text) size o n h in
      let first = begins-there text at (m.0, inr (m.1, m.2)) in
      ap (stretch_placed text at) (dimen-read (drop at text) size o n h ∙ cond-false (leb size largest) (Some (record { size = size; order = o; end = n })) None (lt-leb size largest big))
      ∙ ap Err (missing-begun text at first.0 first.1)

  no_dimen : (r : Option Dimen) → dimen_of (drop at text) ≡ r → ((size : ℕ) (o : Order) (n : ℕ) → SpellsMeasure (drop at text) size o n → ⊥) → r ≡ None
  no_dimen None e none = refl
  no_dimen (Some d) e none = absurd (none d.size d.order d.end (dimen-spelled (drop at text) d e).0)

  pub stretch-missing : ((size : ℕ) (o : Order) (n : ℕ) → SpellsMeasure (drop at text) size o n → ⊥) → stretch_at text at ≡ Err (missing_at text at)
  unfolding stretch_at
  stretch-missing none = ap (stretch_placed text at) (no_dimen (dimen_of (drop at text)) refl none)

-- a text begins with `plus`, or it does not
begins-plus : (s tail : List ℕ) → s ≡ codes "plus" ++ tail → true ≡ begins_with (codes "plus") s
begins-plus s tail e = sym (ap (begins_with (codes "plus")) e ∙ begins-front (codes "plus") tail)

begins-else : (s : List ℕ) → ((tail : List ℕ) → s ≡ codes "plus" ++ tail → ⊥) → false ≡ begins_with (codes "plus") s
begins-else s none =
    ⊎_elim
    (λ t. absurd (none (drop 4 s) (front-begins (codes "plus") s t)))
    (λ f. sym f)
    (cases_Bool (begins_with (codes "plus") s))

-- the place behind the spaces is the reader's
at-stretch : (text : List ℕ) (place : ℕ) (l : Length) (at : ℕ) → length_at text place ≡ Ok l → Plus text l at → glue_at text place ≡ stretched l.sp (stretch_at text at)
at-stretch text place l at h p =
    sym (glue-plus text place l (sym h) (begins-plus (drop l.end text) p.tail p.word))
    ∙ ap (λ (n : ℕ). stretched l.sp (stretch_at text n)) (longest-one blank_byte text (l.end + 4) (spaces_end text (l.end + 4)) at (spaces-longest text (l.end + 4)) p.spaces)

pub reads-glue : (text : List ℕ) (place : ℕ) (r : Result GlueParts Fault) → r ≡ glue_at text place → ReadsGlue text place r
reads-glue text place r e =
    record {
      short = λ f h. e ∙ sym (glue-refused text place f (sym h));
      plain = λ l h none. e ∙ sym (glue-plain text place l (sym h) (parts l.sp (pos 0) Points) refl (begins-else (drop l.end text) none));
      stretched = λ l at h p size o n m small. e ∙ at-stretch text place l at h p ∙ ap (stretched l.sp) (stretch-good text at size o n m small);
      large = λ l at h p size o n m big. e ∙ at-stretch text place l at h p ∙ ap (stretched l.sp) (stretch-large text at size o n m big);
      missing = λ l at h p none. (missing_at text at, e ∙ at-stretch text place l at h p ∙ ap (stretched l.sp) (stretch-missing text at none), missed text at);
    }
