-- Lent numbers as widths and gaps of columns. Assumes nothing.
use Rattle.std.specs.Prelude.{◌≡◌, ℕ, suc, ◌+◌, ◌^◌, ◌<◌, ◌≤◌, List, length, ℤ, pos, ◌≤ℤ◌, None, Option, slice_index_or}
use Rattle.extent.specs.Sizes.{Within}
use Rattle.lengths.specs.declared.order.Order.TheVariants.{Points}
use Rattle.lengths.specs.Gaps.{Parts, parts}
use Rattle.widths.specs.Merging.{size}
use Rattle.widths.specs.Formula.{natural}
use Rattle.widths.specs.Settling.{Sized}
use Rattle.sharing.specs.declared.Aim.{Aim}
use Rattle.sharing.specs.declared.SideGap.{SideGap}
use Rattle.sharing.specs.Columns.{first_natural, naturals, edges_set}

abbrev pub widths_on : List (Option ℤ) → ℕ → Option ℤ
widths_on ws j = slice_index_or ws j None

abbrev pub parts_on : SideGap → Parts
parts_on g = parts g.natural g.stretch g.order

abbrev pub gaps_on : List SideGap → ℕ → Parts
gaps_on gs k = parts_on (slice_index_or gs k (record { natural = pos 0; stretch = pos 0; order = Points }))

-- widths of at most 32 columns and the gaps around them, in the sizes of a table
pub record Tame (ws : List (Option ℤ)) (gs : List SideGap) : Type 0 where
  pub few : length ws ≤ 32
  pub paired : length gs ≡ length ws + 1
  pub stretches : (k : ℕ) → Within 16777215 (gaps_on gs k).stretch
  pub sized : Sized (first_natural (gaps_on gs)) (naturals (gaps_on gs)) (length ws) (widths_on ws)

-- lent gaps that are set
abbrev pub first_on : List ℤ → ℤ
first_on ss = slice_index_or ss 0 (pos 0)

abbrev pub behind_on : List ℤ → ℕ → ℤ
behind_on ss j = slice_index_or ss (suc j) (pos 0)

-- widths of columns and the gaps that are set around them, with sums that a caller can add to
pub record Spread (ws : List (Option ℤ)) (ss : List ℤ) : Type 0 where
  pub paired : length ws < length ss
  pub gaps : (j : ℕ) → j < length ws → Within (2 ^ 41) (behind_on ss j)
  pub widths : (j : ℕ) → j < length ws → Within (2 ^ 41) (size (widths_on ws j))
  pub lefts : (j : ℕ) → j ≤ length ws → Within (2 ^ 41) (natural (first_on ss) (widths_on ws) (behind_on ss) j)

-- n columns that are set to the width t: it is from zero up, and no edge is far
pub record NearSet (w : ℕ → Option ℤ) (g : ℕ → Parts) (n : ℕ) (a : Aim) (t : ℤ) : Type 0 where
  pub least : pos 0 ≤ℤ t
  pub most : t ≤ℤ pos 1073741823
  pub lefts : (j : ℕ) → j < n → Within (2 ^ 41) (edges_set w g n a j).left
  pub rights : (j : ℕ) → j < n → Within (2 ^ 41) (edges_set w g n a j).right
