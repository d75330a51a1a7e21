-- A step of reading an amount with its unit, over plain lists. Assumes nothing.
use Rattle.std.proofs.Common.{◌≡◌, ℕ, ◌+◌, List, drop, Some, ap, ◌∙◌}
use Rattle.lengths.specs.Amounts.{Amount, amount_of}
use Rattle.lengths.specs.Dimens.{Measure, measure_of, sized, with_measure, with_unit, dimen_of}

module _ (s : List ℕ) (a : Amount) (amount : Some a ≡ amount_of s) where
  pub dimen-sized : (m : Measure) → Some m ≡ measure_of (drop a.len s) → sized s a.value m.value (a.len + m.len) ≡ dimen_of s
  dimen-sized m unit = ap (with_measure s a) unit ∙ ap (with_unit s) amount
