-- The orders of stretch: their numbers and units. Assumes nothing.
use Rattle.std.specs.Prelude.{◌≡◌, ℕ, zero, suc, List, ℤ, pos, negsuc, Some, None, codes, Option}
use Rattle.lengths.specs.declared.order.Order.{Order}
use Rattle.lengths.specs.declared.order.Order.TheVariants.{Points, Fil, Fill, Filll}

abbrev pub order_number : Order → ℤ
order_number Points = pos 0
order_number Fil = pos 1
order_number Fill = pos 2
order_number Filll = pos 3

-- the order of a number
abbrev pub order_from : ℤ → Option Order
order_from (pos zero) = Some Points
order_from (pos (suc zero)) = Some Fil
order_from (pos (suc (suc zero))) = Some Fill
order_from (pos (suc (suc (suc zero)))) = Some Filll
order_from (pos (suc (suc (suc (suc n))))) = None
order_from (negsuc n) = None

-- the unit that an order is spelled by
abbrev pub unit_text : Order → List ℕ
unit_text Points = codes "pt"
unit_text Fil = codes "fil"
unit_text Fill = codes "fill"
unit_text Filll = codes "filll"

-- the answer to a number: its order, if it is one's number
pub record OrderOf (z : ℤ) (r : Option Order) : Type 0 where
  pub good : (o : Order) → z ≡ order_number o → r ≡ Some o
  pub only : (o : Order) → r ≡ Some o → z ≡ order_number o
