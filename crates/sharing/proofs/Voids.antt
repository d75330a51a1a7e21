-- Gaps that are set, between columns of which some are void. Assumes nothing.
use Rattle.std.proofs.Common.{◌≡◌, ℕ, zero, suc, ◌≤◌, List, [], ◌∷◌, ℤ, pos, ◌+ℤ◌, ◌≤ℤ◌, Some, None, Option, refl, ap, ◌∙◌, arith}
use Rattle.std.proofs.lemmas.Int.{ints}
use Rattle.std.specs.Prelude.{◌==◌}
use Rattle.std.proofs.lemmas.Bool.{cond_both}
use Rattle.lengths.specs.declared.order.Order.{Order}
use Rattle.lengths.specs.declared.order.Order.TheVariants.{Points}
use Rattle.lengths.specs.Gaps.{Parts}
use Rattle.widths.specs.declared.Entry.{Entry}
use Rattle.widths.specs.Merging.{step}
use Rattle.widths.specs.Formula.{between, moves, natural}
use Rattle.widths.specs.Entries.{Proper, Holds}
use Rattle.widths.proofs.Sums.{between_none, between_more}
use Rattle.sharing.specs.Rule.{portion}
use Rattle.sharing.specs.Gaps.{no_gap, kept, rank, stretch_in, sum_to, sharing_order, sharers, all_sharers, growth, set_gap}
use Rattle.sharing.specs.Columns.{first_natural, naturals}
use Rattle.sharing.proofs.Sums.{between-rises}
use Rattle.sharing.proofs.Growing.{given-none, given-more, growth-none}

-- where there is no gap, nothing stretches
no-gap-still : (o : Order) → stretch_in o no_gap ≡ 0
no-gap-still o = cond_both (rank Points == rank o) 0 0 (λ x. x ≡ 0) (λ own. refl) (λ other. refl)

-- a gap behind a void column does not stretch
void-still : (o : Order) (w : Option ℤ) (p : Parts) → w ≡ None → stretch_in o (kept w p) ≡ 0
void-still o w p void = ap (λ v. stretch_in o (kept v p)) void ∙ no-gap-still o

-- a gap that grows moves what follows it by as much
step-grown : (w : Option ℤ) (p : Parts) (x : ℕ) → (w ≡ None → x ≡ 0) → step w ((kept w p).natural +ℤ pos x) ≡ step w p.natural +ℤ pos x
step-grown (Some z) p x void = omega (arith, ints)
step-grown None p x void = let a = void refl in omega (arith, ints)

module _ (w : ℕ → Option ℤ) (g : ℕ → Parts) (n e : ℕ) where
  set-moves : (j : ℕ) → moves w (λ k. set_gap w g n e (suc k)) j ≡ moves w (naturals g) j +ℤ pos (growth e (sharers w g n) (all_sharers w g n) (suc j))
  set-moves j = step-grown (w j) (g (suc j)) (growth e (sharers w g n) (all_sharers w g n) (suc j))
      (λ void. growth-none e (all_sharers w g n) (sharers w g n) (suc j) (void-still (sharing_order w g n) (w j) (g (suc j)) void))

  -- what stands before column j moves by the portion of all gaps up to it
  pub natural-set : (j : ℕ) → natural (set_gap w g n e 0) w (λ k. set_gap w g n e (suc k)) j ≡ natural (first_natural g) w (naturals g) j +ℤ pos (portion e (sum_to (sharers w g n) (suc j)) (all_sharers w g n))
  natural-set zero =
      let a = between_none (moves w (λ k. set_gap w g n e (suc k))) 0 in
      let b = between_none (moves w (naturals g)) 0 in
      let c = given-none e (all_sharers w g n) (sharers w g n) in
      let d = given-more e (all_sharers w g n) (sharers w g n) 0 in
      omega (arith, ints)
  natural-set (suc j) =
      let a = between_more (moves w (λ k. set_gap w g n e (suc k))) 0 j (omega arith) in
      let b = between_more (moves w (naturals g)) 0 j (omega arith) in
      let c = natural-set j in
      let d = given-more e (all_sharers w g n) (sharers w g n) (suc j) in
      let m = set-moves j in
      omega (arith, ints)

  set-reaches : (i j : ℕ) → i ≤ j → between (moves w (naturals g)) i j ≤ℤ between (moves w (λ k. set_gap w g n e (suc k))) i j
  set-reaches i j le = between-rises (moves w (naturals g)) (moves w (λ k. set_gap w g n e (suc k))) i j le (λ k below. let a = set-moves k in omega (arith, ints))

  -- what has room between the natural gaps has it between the set ones
  pub room-kept : (m : ℕ) (es : List (Entry ℤ)) → Proper m es → Holds w (naturals g) es → Holds w (λ k. set_gap w g n e (suc k)) es
  room-kept m [] proper holds = tt
  room-kept m (x ∷ es) proper holds = (
    let a = set-reaches x.first x.last proper.0.0 in let b = holds.0 in omega (arith, ints),
    room-kept m es proper.1 holds.1,
  )
