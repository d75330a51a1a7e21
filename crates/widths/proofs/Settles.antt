-- Merging settles. Assumes nothing.
use Rattle.std.proofs.Common.{◌≡◌, ℕ, ◌<◌, ◌≤◌, ℤ, ◌+ℤ◌, Option, sym, ap, ◌∙◌, subst, arith}
use Rattle.std.proofs.lemmas.Int.{ints}
use Rattle.extent.specs.Sizes.{Within, Near}
use Rattle.widths.specs.Merging.{size, step, width}
use Rattle.widths.specs.Formula.{between, moves, reach}
use Rattle.widths.specs.Entries.{widest}
use Rattle.widths.specs.Settling.{MergingSettles}
use Rattle.widths.proofs.Sums.{between-same}
use Rattle.widths.proofs.Merges.{meets, only-merged}
use Rattle.widths.proofs.Sizes.{WithinIf, row_near, right_near, left_near}
use Rattle.widths.proofs.Spans.{widest-within}
use Rattle.widths.proofs.Least.{entries-held, void-ends, ends-void, edges-least}

wider : (z : ℤ) → Within 16777215 z → Near z
wider z h = (omega (arith, ints), omega (arith, ints))

pub merging_settles : MergingSettles
merging_settles es start g n w few proper tame same =
    let W : ℕ → ℕ → Option ℤ = widest es in
    let small : (i j : ℕ) → WithinIf 1073741823 (W i j) = λ i j. widest-within 1073741823 es i j tame.entries in
    let fits : (j : ℕ) → j < n → w j ≡ _ = meets W g w n same in
    let sum_same : (j : ℕ) → j ≤ n → between (moves (width W g) g) 0 j ≡ between (moves w g) 0 j =
    λ j le. between-same (moves (width W g) g) (moves w g) 0 j (λ k lt. ap (λ x. step x (g k)) (sym (same k (omega arith)))) in
    record {
      merged = same;
      largest = fits;
      only = λ v solves j lt. only-merged W g v n solves j lt ∙ sym (same j lt);
      void = λ j lt. (void-ends es g w n fits proper j, ends-void es g w n fits j lt);
      holds = entries-held es g w n fits proper;
      least = λ v holds j lt. let e = edges-least es g w n fits v holds j lt in omega (arith, ints);
      sized = record {
        gaps = λ j. wider (g j) (tame.gaps j);
        widths = λ j lt. subst (λ o. Near (size o)) (sym (same j lt)) (row_near W g small tame.gaps j j (omega arith));
        edges = λ j lt. let e : reach (width W g) g 0 j ≡ reach w g 0 j = let a = sum_same j (omega arith) in let b = same j lt in cc in
            subst (λ z. Near (start +ℤ z)) e (right_near W g small tame.gaps start j tame.starting (omega arith));
        sums = λ j le. subst (λ z. Near (start +ℤ z)) (sum_same j le) (left_near W g small tame.gaps start j tame.starting (omega arith));
      };
    }
