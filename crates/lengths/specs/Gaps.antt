-- A gap by its parts. Assumes nothing.
use Rattle.std.specs.Prelude.{◌≡◌, Bool, cond, ◌&&◌, ℤ, pos, negsuc, Some, None, Option, int_le}
use Rattle.lengths.specs.declared.order.Order.{Order}
use Rattle.lengths.specs.declared.gap.Gap.{Gap}
use Rattle.lengths.specs.Orders.{order_number, order_from}
use Rattle.lengths.specs.Ranges.{NaturalRange, SizeRange}

pub record Parts : Type 0 where
  pub natural : ℤ
  pub stretch : ℤ
  pub order : Order

abbrev pub parts : ℤ → ℤ → Order → Parts
parts n s o = record { natural = n; stretch = s; order = o }

abbrev pub parts_of : Gap → Parts
parts_of g = parts g.natural g.stretch g.order

-- within ±16,777,215
abbrev pub natural_fits : ℤ → Bool
natural_fits z = int_le (negsuc 16777214) z && int_le z (pos 16777215)

-- from 0 to 16,777,215
abbrev pub stretch_fits : ℤ → Bool
stretch_fits z = int_le (pos 0) z && int_le z (pos 16777215)

abbrev pub of_order : ℤ → ℤ → Option Order → Option Parts
of_order natural stretch None = None
of_order natural stretch (Some o) = cond (natural_fits natural && stretch_fits stretch) (Some (parts natural stretch o)) None

-- the parts of a gap that is made of three numbers
abbrev pub gap_of : ℤ → ℤ → ℤ → Option Parts
gap_of natural stretch order = of_order natural stretch (order_from order)

-- a natural length within ±16,777,215, and a stretch from 0 to 16,777,215
abbrev pub InRange : ℤ → ℤ → Type 0
InRange natural stretch = NaturalRange natural × SizeRange stretch

-- the answer to three numbers: a gap of these parts, if they are in their ranges
pub record MakesGap (natural stretch number : ℤ) (r : Option Parts) : Type 0 where
  pub good : (o : Order) → number ≡ order_number o → InRange natural stretch → r ≡ Some (parts natural stretch o)
  pub only : (p : Parts) → r ≡ Some p → InRange natural stretch × (p.natural ≡ natural) × (p.stretch ≡ stretch) × (number ≡ order_number p.order)
