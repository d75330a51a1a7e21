-- Sizes of lent gaps and of the sums over them. Assumes nothing.
use Rattle.std.proofs.Common.{ℕ, zero, suc, ◌≤◌, List, ℤ, pos, negsuc, Some, None, Option, arith}
use Rattle.std.proofs.lemmas.Int.{ints}
use Rattle.std.specs.Prelude.{◌==◌}
use Rattle.std.proofs.lemmas.Bool.{cond_both}
use Rattle.extent.specs.Sizes.{Within, Near}
use Rattle.lengths.specs.declared.order.Order.{Order}
use Rattle.lengths.specs.Gaps.{Parts}
use Rattle.widths.specs.Formula.{moves}
use Rattle.widths.specs.Settling.{Sized}
use Rattle.widths.proofs.Sums.{between_none}
use Rattle.sharing.specs.declared.SideGap.{SideGap}
use Rattle.sharing.specs.Gaps.{no_gap, kept, rank, upward, stretch_in, natural_at, stretch_at}
use Rattle.sharing.specs.Columns.{first_natural, naturals}
use Rattle.sharing.specs.Views.{widths_on, gaps_on, Tame}

upward-small : (b : ℕ) (z : ℤ) → Within b z → upward z ≤ b
upward-small b (pos n) h = omega (arith, ints)
upward-small b (negsuc n) h = omega arith

in-small : (o : Order) (p : Parts) → Within 16777215 p.stretch → stretch_in o p ≤ 16777215
in-small o p h = cond_both (rank p.order == rank o) (upward p.stretch) 0 (λ x. x ≤ 16777215) (λ own. upward-small 16777215 p.stretch h) (λ other. omega arith)

kept-small : (o : Order) (w : Option ℤ) (p : Parts) → Within 16777215 p.stretch → stretch_in o (kept w p) ≤ 16777215
kept-small o (Some z) p h = in-small o p h
kept-small o None p h = in-small o no_gap (omega (arith, ints), omega (arith, ints))

kept-near : (w : Option ℤ) (p : Parts) → Near p.natural → Near (kept w p).natural
kept-near (Some z) p h = h
kept-near None p h = (omega (arith, ints), omega (arith, ints))

-- every gap is near
pub gap-near : (w : ℕ → Option ℤ) (g : ℕ → Parts) (n : ℕ) → Sized (first_natural g) (naturals g) n w → (k : ℕ) → Near (natural_at w g k)
gap-near w g n sized zero = let a = between_none (moves w (naturals g)) 0 in let b = sized.sums 0 (omega arith) in (omega (arith, ints), omega (arith, ints))
gap-near w g n sized (suc j) = kept-near (w j) (g (suc j)) (sized.gaps j)

-- no gap stretches far
pub stretch-small : (ws : List (Option ℤ)) (gs : List SideGap) → Tame ws gs → (o : Order) (k : ℕ) → stretch_at (widths_on ws) (gaps_on gs) o k ≤ 16777215
stretch-small ws gs tame o zero = in-small o (gaps_on gs 0) (tame.stretches 0)
stretch-small ws gs tame o (suc j) = kept-small o (widths_on ws j) (gaps_on gs (suc j)) (tame.stretches (suc j))
