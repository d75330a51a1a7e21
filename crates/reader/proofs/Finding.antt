-- One step of the search through some control words. Assumes nothing.
use Rattle.std.proofs.Common.{◌≡◌, ℕ, ◌+◌, ◌<◌, ◌≤◌, true, false, List, length, get_or, drop, Some, None, ◌∙◌}
use Rattle.std.specs.Str.{bytes_eq}
use Rattle.std.proofs.lemmas.List.{at_drop_more, at_drop_all}
use Rattle.std.proofs.lemmas.Bool.{cond-true, cond-false}
use Rattle.reader.specs.declared.tokens.Control.{Control}
use Rattle.reader.specs.Tokens.{letters_of, first_spelled}

module _ (l : List ℕ) (cs : List Control) (i : ℕ) (d : Control) (lt : i < length cs) where
  pub found_here : bytes_eq l (letters_of (get_or cs i d)) ≡ true → first_spelled l (drop i cs) ≡ Some (get_or cs i d)
  unfolding first_spelled
  found_here t = at_drop_more (first_spelled l) cs i d lt ∙ cond-true _ _ _ t

  pub found_later : bytes_eq l (letters_of (get_or cs i d)) ≡ false → first_spelled l (drop i cs) ≡ first_spelled l (drop (i + 1) cs)
  unfolding first_spelled
  found_later t = at_drop_more (first_spelled l) cs i d lt ∙ cond-false _ _ _ t

pub found_none : (l : List ℕ) (cs : List Control) (i : ℕ) → length cs ≤ i → first_spelled l (drop i cs) ≡ None
unfolding first_spelled
found_none l cs i le = at_drop_all (first_spelled l) cs i le
