-- How far columns reach that are set. Assumes nothing.
use Rattle.std.proofs.Common.{◌≡◌, ℕ, suc, ◌^◌, ◌<◌, ◌≤◌, List, ℤ, pos, ◌+ℤ◌, ◌≤ℤ◌, Some, Option, arith}
use Rattle.std.specs.List.{AllByRecursion}
use Rattle.std.proofs.lemmas.Int.{ints}
use Rattle.extent.specs.Sizes.{Within}
use Rattle.lengths.specs.Gaps.{Parts}
use Rattle.widths.specs.declared.Entry.{Entry}
use Rattle.widths.specs.Formula.{moves, natural, reach}
use Rattle.widths.specs.Settling.{Settled}
use Rattle.widths.proofs.Sums.{between_split}
use Rattle.sharing.specs.declared.Aim.{Aim}
use Rattle.sharing.specs.Rule.{portion}
use Rattle.sharing.specs.Gaps.{sum_to, sharers, all_sharers}
use Rattle.sharing.specs.Columns.{first_natural, naturals, width_set, surplus, left_of, first_set, gaps_set}
use Rattle.sharing.proofs.Rules.{portion-le}
use Rattle.sharing.proofs.Sums.{sum_to_mono}
use Rattle.sharing.proofs.Voids.{natural-set}
use Rattle.sharing.proofs.Aims.{surplus-small}
use Rattle.sharing.proofs.Reaches.{left-small, right-small}

module _ (es : List (Entry ℤ)) (w : ℕ → Option ℤ) (g : ℕ → Parts) (n : ℕ) (settled : Settled es (first_natural g) (naturals g) n w) (entries : AllByRecursion (λ e. Within 1073741823 e.width) es) (start : Within 16777215 (first_natural g)) (gaps : (j : ℕ) → Within 16777215 (naturals g j)) (few : n ≤ 32) (a : Aim) (t : ℤ) (can : width_set w g n a ≡ Some t) where
  -- a left edge moves by at most the largest width
  pub moved : (j : ℕ) → j ≤ n → (x : ℕ) × (x ≤ 1073741823) × (left_of w (first_set w g n a) (gaps_set w g n a) j ≡ natural (first_natural g) w (naturals g) j +ℤ pos x)
  moved j le =
      let e = surplus w g n a in
      let small = surplus-small w g n a t can in
      let part = sum_to_mono (sharers w g n) (suc j) (suc n) (omega arith) in
      let p = portion-le e (sum_to (sharers w g n) (suc j)) (all_sharers w g n) part in
      (portion e (sum_to (sharers w g n) (suc j)) (all_sharers w g n), omega arith, natural-set w g n e j)

  -- a column that is set begins near, ..
  pub set-left : (j : ℕ) → j ≤ n → Within (2 ^ 36) (left_of w (first_set w g n a) (gaps_set w g n a) j)
  set-left j le =
      let b = left-small es (first_natural g) (naturals g) n w settled entries gaps j le in
      let m = moved j le in
      let small = m.1 in
      let is = m.2 in
      (omega (arith, ints), omega (arith, ints))

  -- .. and columns i to j with the set gaps between them are not far apart
  pub set-reach : (i j : ℕ) → i ≤ j → j < n → reach w (gaps_set w g n a) i j ≤ℤ pos (2 ^ 37)
  set-reach i j le lt =
      let left = set-left i (omega arith) in
      let b = right-small es (first_natural g) (naturals g) n w settled entries gaps j lt in
      let m = moved j (omega arith) in
      let small = m.1 in
      let is = m.2 in
      let split = between_split (moves w (gaps_set w g n a)) i j le in
      omega (arith, ints)
