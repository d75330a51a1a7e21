-- Where columns stand between gaps that are set. Assumes nothing.
use Rattle.std.proofs.Common.{◌≡◌, ℕ, suc, ◌^◌, ◌<◌, ◌≤◌, List, length, ℤ, ◌+ℤ◌, Some, Option, ap, arith}
use Rattle.std.proofs.lemmas.Int.{ints}
use Rattle.extent.specs.Sizes.{Within}
use Rattle.lengths.specs.Gaps.{Parts}
use Rattle.widths.specs.Merging.{size, step}
use Rattle.widths.specs.Formula.{moves, natural}
use Rattle.widths.specs.Settling.{Sized}
use Rattle.widths.proofs.Sums.{between-same}
use Rattle.sharing.specs.declared.Aim.{Aim}
use Rattle.sharing.specs.declared.Edges.{Edges}
use Rattle.sharing.specs.Rule.{portion}
use Rattle.sharing.specs.Gaps.{sum_to, sharers, all_sharers}
use Rattle.sharing.specs.Columns.{first_natural, naturals, width_set, surplus, first_set, gaps_set, edges_of, edges_set}
use Rattle.sharing.specs.Views.{widths_on, first_on, behind_on, Spread, NearSet}
use Rattle.sharing.proofs.Rules.{portion-le}
use Rattle.sharing.proofs.Sums.{sum_to_mono}
use Rattle.sharing.proofs.Voids.{natural-set}
use Rattle.sharing.proofs.Sizes.{gap-near}
use Rattle.sharing.proofs.Aims.{aimed-at, aim-attains, surplus-small}

edge_pair : ℤ → ℤ → Edges
edge_pair l r = record { left = l; right = r }

module _ (w : ℕ → Option ℤ) (g : ℕ → Parts) (n : ℕ) (a : Aim) (t : ℤ) (sized : Sized (first_natural g) (naturals g) n w) (is : width_set w g n a ≡ Some t) where
  portion-small : (k : ℕ) → k ≤ suc n → portion (surplus w g n a) (sum_to (sharers w g n) k) (all_sharers w g n) ≤ 1073741823
  portion-small k le =
      let b = portion-le (surplus w g n a) (sum_to (sharers w g n) k) (all_sharers w g n) (sum_to_mono (sharers w g n) k (suc n) le) in
      let d = surplus-small w g n a t is in
      omega arith

  left-near : (j : ℕ) → j ≤ n → Within (2 ^ 41) (natural (first_set w g n a) w (gaps_set w g n a) j)
  left-near j le =
      let b = natural-set w g n (surplus w g n a) j in
      let d = portion-small (suc j) (omega arith) in
      let e = sized.sums j le in
      (omega (arith, ints), omega (arith, ints))

  right-near : (j : ℕ) → j < n → Within (2 ^ 41) (edges_set w g n a j).right
  right-near j lt =
      let b = natural-set w g n (surplus w g n a) j in
      let d = portion-small (suc j) (omega arith) in
      let e = sized.edges j lt in
      (omega (arith, ints), omega (arith, ints))

  pub set-near : NearSet w g n a t
  set-near =
      let b = aimed-at w g n a t is in
      let f = aim-attains w g n a t is in
      let l = f.least in
      let u = f.up in
      let m = f.most in
      record {
        least = omega (arith, ints);
        most = omega (arith, ints);
        lefts = λ j lt. left-near j (omega arith);
        rights = right-near;
      }

  -- the same between gaps that are these up to the last column
  module _ (first : ℤ) (behind : ℕ → ℤ) (first-is : first ≡ first_set w g n a) (behind-is : (j : ℕ) → j < n → behind j ≡ gaps_set w g n a j) where
    left-is : (j : ℕ) → j ≤ n → natural first w behind j ≡ natural (first_set w g n a) w (gaps_set w g n a) j
    left-is j le =
        let rest = between-same (moves w behind) (moves w (gaps_set w g n a)) 0 j (λ k lt. ap (step (w k)) (behind-is k (omega arith))) in
        omega (arith, ints)

    behind-near : (j : ℕ) → j < n → Within (2 ^ 41) (behind j)
    behind-near j lt =
        let b = behind-is j lt in
        let d = portion-small (suc (suc j)) (omega arith) in
        let e = gap-near w g n sized (suc j) in
        (omega (arith, ints), omega (arith, ints))

    pub edges-are : (j : ℕ) → j < n → edges_of w first behind j ≡ edges_set w g n a j
    unfolding edge_pair
    edges-are j lt = ap (λ (x : ℤ). edge_pair x (x +ℤ size (w j))) (left-is j (omega arith))

-- lent gaps that are set so are spread
pub set-spread : (ws : List (Option ℤ)) (ss : List ℤ) (g : ℕ → Parts) (a : Aim) (t : ℤ) → Sized (first_natural g) (naturals g) (length ws) (widths_on ws) → width_set (widths_on ws) g (length ws) a ≡ Some t
    → length ws < length ss → first_on ss ≡ first_set (widths_on ws) g (length ws) a → ((j : ℕ) → j < length ws → behind_on ss j ≡ gaps_set (widths_on ws) g (length ws) a j) → Spread ws ss
set-spread ws ss g a t sized is long first behind = record {
  paired = long;
  gaps = behind-near (widths_on ws) g (length ws) a t sized is (first_on ss) (behind_on ss) first behind;
  widths = λ j lt. let b = sized.widths j lt in (omega (arith, ints), omega (arith, ints));
  lefts = λ j le.
      let b = left-is (widths_on ws) g (length ws) a t sized is (first_on ss) (behind_on ss) first behind j le in
      let d = left-near (widths_on ws) g (length ws) a t sized is j le in
      (omega (arith, ints), omega (arith, ints));
}
