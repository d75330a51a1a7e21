-- Lengths at a place of a text, and what is found with a weaker property. Assumes nothing.
use Rattle.std.proofs.Common.{◌≡◌, ℕ, ◌+◌, ◌-◌, List, length, take, drop, ℤ, IfSome, Some, None, Ok, Err, Option, ap, ◌∙◌, length-drop}
use Rattle.std.proofs.lemmas.List.{take_rest}
use Rattle.lengths.specs.declared.length.Length.{Length}
use Rattle.lengths.specs.Lengths.{length_of, missing_at, placed, length_at}

pub length_rest : (text : List ℕ) (place : ℕ) → length (take (length text - place) (drop place text)) ≡ length text - place
length_rest text place = ap length (take_rest text place) ∙ length-drop place text

module _ (text : List ℕ) (place : ℕ) where
  pub length_at-is : (l : Length) (z : ℤ) → z ≡ l.sp → Some l ≡ length_of (take (length text - place) (drop place text)) → Ok (record { sp = z; end = place + l.end }) ≡ length_at text place
  unfolding length_at
  length_at-is l z value e =
      ap (λ (x : ℤ). Ok (record { sp = x; end = place + l.end })) value
      ∙ ap (placed text place) (e ∙ ap length_of (take_rest text place))

  pub length_none : None ≡ length_of (take (length text - place) (drop place text)) → Err (missing_at text place) ≡ length_at text place
  unfolding length_at
  length_none e = ap (placed text place) (e ∙ ap length_of (take_rest text place))

pub found_weaker : {X : Type 0} (o : Option X) (P Q : X → Type 0) → ((x : X) → P x → Q x) → IfSome o P → IfSome o Q
found_weaker None P Q f h = tt
found_weaker (Some x) P Q f h = f x h
