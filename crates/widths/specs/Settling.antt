-- Settled widths, on one side. Assumes nothing.
use Rattle.std.specs.Prelude.{◌≡◌, ℕ, ◌<◌, ◌≤◌, List, ℤ, ◌≤ℤ◌, Some, None, Option}
use Rattle.std.specs.List.{AllByRecursion}
use Rattle.extent.specs.Sizes.{Within, Near}
use Rattle.widths.specs.declared.Entry.{Entry}
use Rattle.widths.specs.Merging.{width, size}
use Rattle.widths.specs.Formula.{formula, edge, natural}
use Rattle.widths.specs.Entries.{widest, Proper, Holds, NoneEnds}

-- entries and gaps of the sizes that a table keeps to; start is the starting gap
pub record Tame (es : List (Entry ℤ)) (start : ℤ) (g : ℕ → ℤ) : Type 0 where
  pub entries : AllByRecursion (λ e. Within 1073741823 e.width) es
  pub starting : Within 16777215 start
  pub gaps : (j : ℕ) → Within 16777215 (g j)

-- another width for each column that is not void
abbrev pub instead : Option ℤ → ℤ → Option ℤ
instead (Some w) z = Some z
instead None z = None

-- gaps, widths, right edges and sums of n columns that lie in the range in which extents are exact
pub record Sized (start : ℤ) (g : ℕ → ℤ) (n : ℕ) (w : ℕ → Option ℤ) : Type 0 where
  pub gaps : (j : ℕ) → Near (g j)
  pub widths : (j : ℕ) → j < n → Near (size (w j))
  pub edges : (j : ℕ) → j < n → Near (edge start w g j)
  pub sums : (j : ℕ) → j ≤ n → Near (natural start w g j)

-- w are the widths of n columns that the entries ask for between the gaps
pub record Settled (es : List (Entry ℤ)) (start : ℤ) (g : ℕ → ℤ) (n : ℕ) (w : ℕ → Option ℤ) : Type 0 where
  -- what The Program merges rightward
  pub merged : (j : ℕ) → j < n → w j ≡ width (widest es) g j
  -- The TeXbook's maximum formula
  pub largest : (j : ℕ) → j < n → w j ≡ formula (widest es) g w j
  -- the formula has no other solution
  pub only : (v : ℕ → Option ℤ) → ((j : ℕ) → j < n → v j ≡ formula (widest es) g v j) → (j : ℕ) → j < n → v j ≡ w j
  -- a column is void exactly if no entry ends in it
  pub void : (j : ℕ) → j < n → (w j ≡ None → NoneEnds j es) × (NoneEnds j es → w j ≡ None)
  -- every entry has room
  pub holds : Holds w g es
  -- every other choice of widths with room has each right edge at ours or farther right
  pub least : (v : ℕ → ℤ) → Holds (λ k. instead (w k) (v k)) g es → (j : ℕ) → j < n → edge start w g j ≤ℤ edge start (λ k. instead (w k) (v k)) g j
  -- no number leaves the range in which extents are exact
  pub sized : Sized start g n w

-- merging settles: whatever has the merged widths is settled
abbrev pub MergingSettles : Type 0
MergingSettles = (es : List (Entry ℤ)) (start : ℤ) (g : ℕ → ℤ) (n : ℕ) (w : ℕ → Option ℤ) → n ≤ 32 → Proper n es → Tame es start g
    → ((j : ℕ) → j < n → w j ≡ width (widest es) g j) → Settled es start g n w
