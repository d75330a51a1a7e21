-- Glue at a place of a text, case by case. Assumes nothing.
use Rattle.std.proofs.Common.{◌≡◌, ℕ, ◌+◌, ◌≤◌, true, false, List, drop, pos, Ok, Err, codes, sym, ap, ◌∙◌}
use Rattle.std.proofs.lemmas.Bool.{cond-true, cond-false}
use Rattle.faults.specs.declared.Fault.{Fault}
use Rattle.reader.specs.Tokens.{spaces_end}
use Rattle.reader.proofs.Runs.{spaces-longest}
use Rattle.lengths.specs.declared.order.Order.TheVariants.{Points}
use Rattle.lengths.specs.declared.length.Length.{Length}
use Rattle.lengths.specs.declared.dimen.Dimen.{Dimen}
use Rattle.lengths.specs.Dimens.{begins_with}
use Rattle.lengths.specs.Lengths.{length_at}
use Rattle.lengths.specs.Gaps.{Parts, parts}
use Rattle.lengths.specs.Glues.{stretch_at, stretched, behind_length, glue_at}

pub spaces-on : (text : List ℕ) (place : ℕ) → place ≤ spaces_end text place
spaces-on text place = (spaces-longest text place).onto

module _ (text : List ℕ) (place : ℕ) where
  pub glue-refused : (f : Fault) → Err f ≡ length_at text place → Err f ≡ glue_at text place
  unfolding glue_at
  glue-refused f e = ap (behind_length text) e

  module _ (l : Length) (there : Ok l ≡ length_at text place) where
    pub glue-plain : (g : Parts) → g ≡ parts l.sp (pos 0) Points → false ≡ begins_with (codes "plus") (drop l.end text) → Ok (record { gap = g; end = l.end }) ≡ glue_at text place
    unfolding glue_at
    glue-plain g e bare =
        ap (λ (x : Parts). Ok (record { gap = x; end = l.end })) e
        ∙ sym (cond-false (begins_with (codes "plus") (drop l.end text)) (stretched l.sp (stretch_at text (spaces_end text (l.end + 4)))) (Ok (record { gap = parts l.sp (pos 0) Points; end = l.end })) (sym bare))
        ∙ ap (behind_length text) there

    pub glue-plus : true ≡ begins_with (codes "plus") (drop l.end text) → stretched l.sp (stretch_at text (spaces_end text (l.end + 4))) ≡ glue_at text place
    unfolding glue_at
    glue-plus plus =
        sym (cond-true (begins_with (codes "plus") (drop l.end text)) (stretched l.sp (stretch_at text (spaces_end text (l.end + 4)))) (Ok (record { gap = parts l.sp (pos 0) Points; end = l.end })) (sym plus))
        ∙ ap (behind_length text) there

    module _ (at : ℕ) (behind : at ≡ spaces_end text (l.end + 4)) (plus : true ≡ begins_with (codes "plus") (drop l.end text)) where
      at-stretch : stretched l.sp (stretch_at text at) ≡ glue_at text place
      at-stretch = ap (λ (n : ℕ). stretched l.sp (stretch_at text n)) behind ∙ glue-plus plus

      pub glue-short : (f : Fault) → Err f ≡ stretch_at text at → Err f ≡ glue_at text place
      glue-short f e = ap (stretched l.sp) e ∙ at-stretch

      pub glue-stretched : (s : Dimen) (g : Parts) → g ≡ parts l.sp (pos s.size) s.order → Ok s ≡ stretch_at text at → Ok (record { gap = g; end = s.end }) ≡ glue_at text place
      glue-stretched s g e there' = ap (λ (x : Parts). Ok (record { gap = x; end = s.end })) e ∙ ap (stretched l.sp) there' ∙ at-stretch
