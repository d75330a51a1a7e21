-- Columns as they are set: to which width, and where they stand. Assumes nothing.
use Rattle.std.specs.Prelude.{ℕ, suc, Bool, cond, ◌&&◌, ◌||◌, ℤ, pos, ◌+ℤ◌, ◌-ℤ◌, Some, None, Option, int_le, nat_lt}
use Rattle.lengths.specs.Gaps.{Parts}
use Rattle.widths.specs.Merging.{size}
use Rattle.widths.specs.Formula.{natural}
use Rattle.sharing.specs.declared.Aim.{Aim}
use Rattle.sharing.specs.declared.Aim.TheVariants.{Natural, To}
use Rattle.sharing.specs.declared.Edges.{Edges}
use Rattle.sharing.specs.Gaps.{upward, all_sharers, set_gap}

-- natural lengths of the gap before the columns and of those behind them
abbrev pub first_natural : (ℕ → Parts) → ℤ
first_natural g = (g 0).natural

abbrev pub naturals : (ℕ → Parts) → ℕ → ℤ
naturals g j = (g (suc j)).natural

-- the natural width of n columns with all gaps
abbrev pub natural_width : (ℕ → Option ℤ) → (ℕ → Parts) → ℕ → ℤ
natural_width w g n = natural (first_natural g) w (naturals g) n

abbrev pub aimed : Aim → ℤ → ℤ
aimed Natural n = n
aimed (To t) n = t

-- a natural width n can be set to t, with so much stretch
abbrev pub attainable : ℤ → ℤ → ℕ → Bool
attainable n t s = int_le (pos 0) n && (int_le n t && (int_le t (pos 1073741823) && (int_le t n || nat_lt 0 s)))

-- the width that n columns are set to, if it can be had
abbrev pub width_set : (ℕ → Option ℤ) → (ℕ → Parts) → ℕ → Aim → Option ℤ
width_set w g n a = cond (attainable (natural_width w g n) (aimed a (natural_width w g n)) (all_sharers w g n)) (Some (aimed a (natural_width w g n))) None

abbrev pub surplus : (ℕ → Option ℤ) → (ℕ → Parts) → ℕ → Aim → ℕ
surplus w g n a = upward (aimed a (natural_width w g n) -ℤ natural_width w g n)

-- the gaps as they are set, and the columns between them
abbrev pub first_set : (ℕ → Option ℤ) → (ℕ → Parts) → ℕ → Aim → ℤ
first_set w g n a = set_gap w g n (surplus w g n a) 0

abbrev pub gaps_set : (ℕ → Option ℤ) → (ℕ → Parts) → ℕ → Aim → ℕ → ℤ
gaps_set w g n a j = set_gap w g n (surplus w g n a) (suc j)

-- the left edge of a column stands behind all columns and gaps before it
abbrev pub left_of : (ℕ → Option ℤ) → ℤ → (ℕ → ℤ) → ℕ → ℤ
left_of w first g j = natural first w g j

abbrev pub edges_of : (ℕ → Option ℤ) → ℤ → (ℕ → ℤ) → ℕ → Edges
edges_of w first g j = record { left = left_of w first g j; right = left_of w first g j +ℤ size (w j) }

-- the edges of the columns as they are set
abbrev pub edges_set : (ℕ → Option ℤ) → (ℕ → Parts) → ℕ → Aim → ℕ → Edges
edges_set w g n a j = edges_of w (first_set w g n a) (gaps_set w g n a) j
