use Rattle.std.proofs.Common.{◌≡◌, suc, ◌+◌, ℤ, pos, ◌+ℤ◌, Some, None, Option, slice_index_or, slice_set, w64, to_z, of_z, refl, sym, ap, ◌∙◌, ⊎_elim, arith}
use Rattle.std.specs.Option.{unwrap_or}
use Rattle.std.proofs.Math.Numerals.{add-one}
use Rattle.std.proofs.lemmas.Int.{ints}
use Rattle.std.proofs.lemmas.Bool.{cases_eq}
use Rattle.std.proofs.lemmas.List.{get_or-set_same, get_or-set_other}
use Rattle.widths.specs.Merging.{size, step}
use Rattle.widths.specs.Formula.{moves, natural}
use Rattle.widths.proofs.Sums.{between_none}
use Rattle.sharing.specs.declared.Edges.{Edges}
use Rattle.sharing.specs.Columns.{edges_of}
use Rattle.sharing.specs.Views.{widths_on, first_on, behind_on}
use Rattle.sharing.proofs.Turns.{ColumnTurn, column-turn}
use Rattle.sharing.proofs.columns.place_columns.Goals as goal

pub loop-j-init : goal.loop-j-init
loop-j-init c =
    let a = between_none (moves (widths_on c.args.widths.now) (behind_on c.args.set.now)) 0 in
    let b = c.requires.spread.lefts 0 (omega arith) in
    record { left = omega (arith, ints); columns = λ i lt d. absurd (omega arith) }

pub step-left-requires-clause-gap : goal.step-left-requires-clause-gap
step-left-requires-clause-gap c =
    let near = c.requires.spread.gaps c.loop-j.j (omega arith) in
    let e = ap (λ k. slice_index_or c.args.set.now k (pos 0)) (add-one c.loop-j.j) in
    (omega (arith, ints), omega (arith, ints))

turn : (c : goal.After-step-left) → ColumnTurn (first_on c.args.set.now) (widths_on c.args.widths.now) (behind_on c.args.set.now) c.loop-j.j (to_z w64 c.loop-j.left-bits) c.step-left.result
turn c =
    let j = c.loop-j.j in
    let near = c.requires.spread.gaps j (omega arith) in
    let e = ap (λ k. slice_index_or c.args.set.now k (pos 0)) (add-one j) in
    let gap : to_z w64 (of_z w64 (slice_index_or c.args.set.now (j + 1) (pos 0))) ≡ behind_on c.args.set.now j = omega (arith, ints) in
    column-turn (first_on c.args.set.now) (widths_on c.args.widths.now) (behind_on c.args.set.now) j (to_z w64 c.loop-j.left-bits) c.step-left.result c.loop-j.invariant.left
    (c.step-left.ensures ∙ ap (step (widths_on c.args.widths.now j)) gap)
    (c.requires.spread.lefts j (omega arith)) (c.requires.spread.lefts (suc j) (omega arith))

pub overflow_add-left : goal.overflow_add-left
overflow_add-left c = (turn c).fits

size-is : (w : Option ℤ) → unwrap_or w (pos 0) ≡ size w
size-is (Some z) = refl
size-is None = refl

edges-same : (a b x y : ℤ) → a ≡ x → b ≡ y → ◌≡◌ {A = Edges} (record { left = a; right = b }) (record { left = x; right = y })
edges-same a b x y l r = cc

pub loop-j-preserved : goal.loop-j-preserved
loop-j-preserved c =
    let w = widths_on c.args.widths.now in
    let first = first_on c.args.set.now in
    let g = behind_on c.args.set.now in
    let j = c.loop-j.j in
    let right : ℤ = to_z w64 (of_z w64 (to_z w64 c.loop-j.left-bits +ℤ to_z w64 (of_z w64 c.unwrap_or.result))) in
    let v : Edges = record { left = to_z w64 c.loop-j.left-bits; right = right } in
    let left-is = c.loop-j.invariant.left in
    let wide = c.unwrap_or.ensures ∙ size-is (w j) in
    let near = c.requires.spread.widths j (omega arith) in
    let before = c.requires.spread.lefts j (omega arith) in
    let right-is : right ≡ natural first w g j +ℤ size (w j) = omega (arith, ints) in
    let here = edges-same (to_z w64 c.loop-j.left-bits) right (natural first w g j) (natural first w g j +ℤ size (w j)) left-is right-is in
    let room = c.requires.room in
    let long = c.loop-j.auto.columns in
    record {
      left = (turn c).is;
      columns = λ i lt d. ⊎_elim
          (λ same. ap (λ x. slice_index_or (slice_set c.loop-j.columns j v) x d) same ∙ get_or-set_same c.loop-j.columns j v d (omega arith) ∙ here ∙ ap (edges_of w first g) (sym same))
          (λ other. get_or-set_other c.loop-j.columns j i v d other ∙ c.loop-j.invariant.columns i (omega arith) d)
          (cases_eq i j);
    }
