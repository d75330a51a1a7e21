use Rattle.std.proofs.Common.{◌≡◌, suc, ◌+◌, w64, to_z, of_z, ap, ◌∙◌, arith}
use Rattle.std.proofs.Math.Numerals.{add-one}
use Rattle.std.proofs.lemmas.Int.{ints}
use Rattle.widths.specs.Merging.{step}
use Rattle.widths.specs.Formula.{moves}
use Rattle.widths.proofs.Sums.{between_none}
use Rattle.sharing.specs.Columns.{first_natural, naturals}
use Rattle.sharing.specs.Views.{widths_on, gaps_on}
use Rattle.sharing.proofs.Turns.{ColumnTurn, column-turn}
use Rattle.sharing.proofs.columns.natural_width.Goals as goal

pub loop-j-init : goal.loop-j-init
loop-j-init c = let a = between_none (moves (widths_on c.args.widths.now) (naturals (gaps_on c.args.gaps.now))) 0 in let b = c.requires.sized.sums 0 (omega arith) in omega (arith, ints)

pub step-right-requires-clause-gap : goal.step-right-requires-clause-gap
step-right-requires-clause-gap c =
    let near = c.requires.sized.gaps c.loop-j.j in
    let e = ap (λ k. (gaps_on c.args.gaps.now k).natural) (add-one c.loop-j.j) in
    (omega (arith, ints), omega (arith, ints))

turn : (c : goal.After-step-right) → ColumnTurn (first_natural (gaps_on c.args.gaps.now)) (widths_on c.args.widths.now) (naturals (gaps_on c.args.gaps.now)) c.loop-j.j (to_z w64 c.loop-j.right-bits) c.step-right.result
turn c =
    let j = c.loop-j.j in
    let g = gaps_on c.args.gaps.now in
    let near = c.requires.sized.gaps j in
    let e = ap (λ k. (g k).natural) (add-one j) in
    let gap : to_z w64 (of_z w64 (g (j + 1)).natural) ≡ naturals g j = omega (arith, ints) in
    let a = c.requires.sized.sums j (omega arith) in
    let b = c.requires.sized.sums (suc j) (omega arith) in
    column-turn (first_natural g) (widths_on c.args.widths.now) (naturals g) j (to_z w64 c.loop-j.right-bits) c.step-right.result c.loop-j.invariant
    (c.step-right.ensures ∙ ap (step (widths_on c.args.widths.now j)) gap)
    (omega (arith, ints), omega (arith, ints)) (omega (arith, ints), omega (arith, ints))

pub overflow_add-right : goal.overflow_add-right
overflow_add-right c = (turn c).fits

pub loop-j-preserved : goal.loop-j-preserved
loop-j-preserved c = (turn c).is
