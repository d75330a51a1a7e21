-- The merge meets the maximum formula, which has one solution. Assumes nothing.
use Rattle.std.proofs.Common.{◌≡◌, ℕ, zero, suc, ◌+◌, ◌<◌, min, ℤ, Option, sym, ap, ◌∙◌, add-one, arith}
use Rattle.widths.specs.Merging.{less, join, step, row, width}
use Rattle.widths.specs.Formula.{between, largest, moves, formula}
use Rattle.widths.proofs.Options.{less-less, less_zero}
use Rattle.widths.proofs.Sums.{between_none, between_more, between-same, largest-less, largest-same}

pub row-start : (W : ℕ → ℕ → Option ℤ) (g : ℕ → ℤ) (i : ℕ) → row W g (min 0 i) i ≡ W 0 i
unfolding row
row-start W g i = let e : min 0 i ≡ 0 = omega arith in rw e

pub row-turn : (W : ℕ → ℕ → Option ℤ) (g : ℕ → ℤ) (q j : ℕ) → row W g (q + 1) j ≡ join (W (q + 1) j) (less (row W g q j) (step (row W g q q) (g q)))
unfolding row
row-turn W g q j = rw (add-one q)

module _ (W : ℕ → ℕ → Option ℤ) (g : ℕ → ℤ) where
  -- the cell of row q for column j, by the formula
  pub row_is : (q j : ℕ) → row W g q j ≡ largest (λ i. less (W i j) (between (moves (width W g) g) i q)) q
  unfolding row largest
  row_is zero j = sym (ap (less (W 0 j)) (between_none (moves (width W g) g) 0) ∙ less_zero (W 0 j))
  row_is (suc q) j =
      let mv : ℕ → ℤ = moves (width W g) g in
      let first : W (suc q) j ≡ less (W (suc q) j) (between mv (suc q) (suc q)) = sym (ap (less (W (suc q) j)) (between_none mv (suc q)) ∙ less_zero (W (suc q) j)) in
      let rest : less (row W g q j) (mv q) ≡ largest (λ i. less (W i j) (between mv i (suc q))) q =
      ap (λ r. less r (mv q)) (row_is q j)
      ∙ largest-less (λ i. less (W i j) (between mv i q)) q (mv q)
      ∙ largest-same (λ i. less (less (W i j) (between mv i q)) (mv q)) (λ i. less (W i j) (between mv i (suc q))) q
      (λ i le. less-less (W i j) (between mv i q) (mv q) ∙ ap (less (W i j)) (sym (between_more mv i q le))) in
      cc

  pub merged-is_formula : (j : ℕ) → width W g j ≡ formula W g (width W g) j
  merged-is_formula j = row_is j j

  -- the formula for column j asks only for the widths before it
  pub formula-same : (v w : ℕ → Option ℤ) (j : ℕ) → ((k : ℕ) → k < j → v k ≡ w k) → formula W g v j ≡ formula W g w j
  formula-same v w j e =
      largest-same (λ i. less (W i j) (between (moves v g) i j)) (λ i. less (W i j) (between (moves w g) i j)) j
      (λ i le. ap (less (W i j)) (between-same (moves v g) (moves w g) i j (λ k lt. ap (λ x. step x (g k)) (e k lt))))

  -- widths that are the merged ones meet the formula
  pub meets : (w : ℕ → Option ℤ) (n : ℕ) → ((j : ℕ) → j < n → w j ≡ width W g j) → (j : ℕ) → j < n → w j ≡ formula W g w j
  meets w n e j lt = e j lt ∙ merged-is_formula j ∙ formula-same (width W g) w j (λ k below. sym (e k (omega arith)))

  one_below : (w : ℕ → Option ℤ) (n : ℕ) → ((j : ℕ) → j < n → w j ≡ formula W g w j) → (m j : ℕ) → j < m → j < n → w j ≡ width W g j
  one_below w n fits zero j lt le = absurd (omega arith)
  one_below w n fits (suc m) j lt le =
      fits j le ∙ formula-same w (width W g) j (λ k below. one_below w n fits m k (omega arith) (omega arith)) ∙ sym (merged-is_formula j)

  -- and whatever meets it is the merged ones
  pub only-merged : (w : ℕ → Option ℤ) (n : ℕ) → ((j : ℕ) → j < n → w j ≡ formula W g w j) → (j : ℕ) → j < n → w j ≡ width W g j
  only-merged w n fits j lt = one_below w n fits (suc j) j (omega arith) lt
