-- An amount with its unit as it is read from the first byte on. Assumes nothing.
use Rattle.std.specs.Prelude.{ℕ, ◌+◌, Bool, true, false, cond, ◌&&◌, List, [], ◌∷◌, length, drop, Some, None, Option, ◌==◌, nat_le}
use Rattle.reader.specs.Classes.{space_byte}
use Rattle.lengths.specs.declared.spelled.Spelled.{Spelled}
use Rattle.lengths.specs.declared.dimen.Dimen.{Dimen}
use Rattle.lengths.specs.declared.order.Order.{Order}
use Rattle.lengths.specs.declared.order.Order.TheVariants.{Points, Fil, Fill, Filll}
use Rattle.lengths.specs.Orders.{unit_text}
use Rattle.lengths.specs.Amounts.{Amount, amount_of}

-- a unit, and how many bytes spell it
abbrev pub Measure : Type 0
Measure = Spelled Order

-- the largest size of a length and of a stretch
abbrev pub largest : ℕ
largest = 16777215

-- s begins with the bytes of a word
abbrev pub begins_with : List ℕ → List ℕ → Bool
begins_with [] s = true
begins_with (c ∷ cs) [] = false
begins_with (c ∷ cs) (b ∷ bs) = b == c && begins_with cs bs

-- how many space bytes are swallowed: one at most
abbrev pub swallowed : List ℕ → ℕ
swallowed [] = 0
swallowed (b ∷ bs) = cond (space_byte b) 1 0

abbrev pub measured : Order → Option Measure
measured o = Some (record { value = o; len = length (unit_text o) })

-- the longest unit that fits
abbrev pub measure_of : List ℕ → Option Measure
measure_of s =
    cond (begins_with (unit_text Points) s) (measured Points)
    (cond (begins_with (unit_text Filll) s) (measured Filll)
    (cond (begins_with (unit_text Fill) s) (measured Fill)
    (cond (begins_with (unit_text Fil) s) (measured Fil) None)))

-- an amount and its unit, n bytes in all, where the amount is not too large
abbrev pub sized : List ℕ → ℕ → Order → ℕ → Option Dimen
sized s size o n = cond (nat_le size largest) (Some (record { size = size; order = o; end = n + swallowed (drop n s) })) None

abbrev pub with_measure : List ℕ → Amount → Option Measure → Option Dimen
with_measure s a None = None
with_measure s a (Some m) = sized s a.value m.value (a.len + m.len)

abbrev pub with_unit : List ℕ → Option Amount → Option Dimen
with_unit s None = None
with_unit s (Some a) = with_measure s a (measure_of (drop a.len s))

abbrev pub dimen_of : List ℕ → Option Dimen
dimen_of s = with_unit s (amount_of s)
