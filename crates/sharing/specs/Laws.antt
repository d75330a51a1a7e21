-- What it is for gaps to be set by the rule. Assumes nothing.
use Rattle.std.specs.Prelude.{◌≡◌, ℕ, suc, ◌<◌, ◌≤◌, ◌⊎◌, List, ℤ, pos, ◌+ℤ◌, ◌≤ℤ◌, Some, Option}
use Rattle.lengths.specs.declared.order.Order.{Order}
use Rattle.lengths.specs.Gaps.{Parts}
use Rattle.widths.specs.declared.Entry.{Entry}
use Rattle.widths.specs.Formula.{between, natural}
use Rattle.widths.specs.Entries.{Proper, Holds}
use Rattle.sharing.specs.declared.Aim.{Aim}
use Rattle.sharing.specs.Rule.{portion}
use Rattle.sharing.specs.Gaps.{natural_at, rank, sum_to, whole_in, sharing_order, sharers, set_gap}
use Rattle.sharing.specs.Columns.{naturals, natural_width, aimed, width_set, surplus, first_set, gaps_set}

-- the order that shares has stretch if any has, and none above it does
pub record Highest (t : Order → ℕ) (o : Order) : Type 0 where
  pub any : (p : Order) → 0 < t p → 0 < t o
  pub above : (p : Order) → 0 < t p → rank p ≤ rank o

-- gaps 0 to n, set for a surplus e by stretches s
pub record Shares (e n : ℕ) (old set : ℕ → ℤ) (s : ℕ → ℕ) : Type 0 where
  -- no gap shrinks
  pub grows : (k : ℕ) → k ≤ n → old k ≤ℤ set k
  -- only a gap with such stretch grows
  pub only : (k : ℕ) → k ≤ n → s k ≡ 0 → set k ≡ old k
  -- gaps 0 to k together grow by the portion of their stretch
  pub together : (k : ℕ) → k ≤ n → between set 0 (suc k) ≡ between old 0 (suc k) +ℤ pos (portion e (sum_to s (suc k)) (sum_to s (suc n)))
  -- and all of them by the whole surplus
  pub all : (0 < sum_to s (suc n)) ⊎ (e ≡ 0) → between set 0 (suc n) ≡ between old 0 (suc n) +ℤ pos e

-- n columns w, between gaps as they are set to the width t
pub record Meets (w : ℕ → Option ℤ) (g : ℕ → Parts) (n : ℕ) (t first : ℤ) (set : ℕ → ℤ) : Type 0 where
  -- columns and set gaps add up to it
  pub whole : natural first w set n ≡ t
  -- what has room between the natural gaps has it between these
  pub holds : (es : List (Entry ℤ)) → Proper n es → Holds w (naturals g) es → Holds w set es

-- n columns w that are set to a width t: it is the one that is aimed at, from the natural width on, and what is over is shared
pub record SetTo (w : ℕ → Option ℤ) (g : ℕ → Parts) (n : ℕ) (a : Aim) (t : ℤ) : Type 0 where
  pub aimed_at : t ≡ aimed a (natural_width w g n)
  pub wide : pos 0 ≤ℤ natural_width w g n
  pub over : t ≡ natural_width w g n +ℤ pos (surplus w g n a)
  pub most : t ≤ℤ pos 1073741823
  pub order : Highest (whole_in w g n) (sharing_order w g n)
  pub shares : Shares (surplus w g n a) n (natural_at w g) (set_gap w g n (surplus w g n a)) (sharers w g n)
  -- all of what is over is shared
  pub spent : (0 < sum_to (sharers w g n) (suc n)) ⊎ (surplus w g n a ≡ 0)
  pub meets : Meets w g n t (first_set w g n a) (gaps_set w g n a)

-- whatever width can be had is met so
abbrev pub SettingMeets : Type 0
SettingMeets = (w : ℕ → Option ℤ) (g : ℕ → Parts) (n : ℕ) (a : Aim) (t : ℤ) → width_set w g n a ≡ Some t → SetTo w g n a t
