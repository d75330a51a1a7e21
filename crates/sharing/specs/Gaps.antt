-- Gaps on one side, and how they grow. Gap 0 stands before the columns, gap j behind column j, counted from 1. Assumes nothing.
use Rattle.std.specs.Prelude.{ℕ, zero, suc, ◌+◌, ◌-◌, cond, ℤ, pos, negsuc, ◌+ℤ◌, Some, None, Option, ◌==◌, nat_lt}
use Rattle.lengths.specs.declared.order.Order.{Order}
use Rattle.lengths.specs.declared.order.Order.TheVariants.{Points, Fil, Fill, Filll}
use Rattle.lengths.specs.Gaps.{Parts, parts}
use Rattle.sharing.specs.Rule.{portion}

-- no gap
abbrev pub no_gap : Parts
no_gap = parts (pos 0) (pos 0) Points

-- a gap behind a column; behind a void one there is none
abbrev pub kept : Option ℤ → Parts → Parts
kept (Some z) p = p
kept None p = no_gap

-- the gap at a place, as it counts between columns of widths w
abbrev pub gap_at : (ℕ → Option ℤ) → (ℕ → Parts) → ℕ → Parts
gap_at w g zero = g 0
gap_at w g (suc j) = kept (w j) (g (suc j))

abbrev pub natural_at : (ℕ → Option ℤ) → (ℕ → Parts) → ℕ → ℤ
natural_at w g k = (gap_at w g k).natural

-- a whole number from zero up as it is, one below zero as zero
abbrev pub upward : ℤ → ℕ
upward (pos n) = n
upward (negsuc n) = 0

abbrev pub rank : Order → ℕ
rank Points = 0
rank Fil = 1
rank Fill = 2
rank Filll = 3

-- what a gap stretches in an order
abbrev pub stretch_in : Order → Parts → ℕ
stretch_in o p = cond (rank p.order == rank o) (upward p.stretch) 0

abbrev pub stretch_at : (ℕ → Option ℤ) → (ℕ → Parts) → Order → ℕ → ℕ
stretch_at w g o k = stretch_in o (gap_at w g k)

-- f 0 + .. + f (n - 1)
unfoldable pub sum_to : (ℕ → ℕ) → ℕ → ℕ
sum_to f zero = 0
sum_to f (suc n) = sum_to f n + f n

-- the whole stretch of an order, of the gaps 0 to n
abbrev pub whole_in : (ℕ → Option ℤ) → (ℕ → Parts) → ℕ → Order → ℕ
whole_in w g n o = sum_to (stretch_at w g o) (suc n)

-- the highest order with any stretch
abbrev pub highest : (Order → ℕ) → Order
highest t = cond (nat_lt 0 (t Filll)) Filll (cond (nat_lt 0 (t Fill)) Fill (cond (nat_lt 0 (t Fil)) Fil Points))

abbrev pub sharing_order : (ℕ → Option ℤ) → (ℕ → Parts) → ℕ → Order
sharing_order w g n = highest (whole_in w g n)

-- the stretches that share
abbrev pub sharers : (ℕ → Option ℤ) → (ℕ → Parts) → ℕ → ℕ → ℕ
sharers w g n = stretch_at w g (sharing_order w g n)

abbrev pub all_sharers : (ℕ → Option ℤ) → (ℕ → Parts) → ℕ → ℕ
all_sharers w g n = sum_to (sharers w g n) (suc n)

-- what gap k gains of e where stretches s share it, s in all: gaps 0 to k together gain the portion of theirs
abbrev pub growth : ℕ → (ℕ → ℕ) → ℕ → ℕ → ℕ
growth e s all k = portion e (sum_to s (suc k)) all - portion e (sum_to s k) all

-- the gap at a place as it is set
abbrev pub set_gap : (ℕ → Option ℤ) → (ℕ → Parts) → ℕ → ℕ → ℕ → ℤ
set_gap w g n e k = natural_at w g k +ℤ pos (growth e (sharers w g n) (all_sharers w g n) k)
