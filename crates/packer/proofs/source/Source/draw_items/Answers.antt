use Rattle.std.proofs.Common.{◌≡◌, ℕ, ◌+◌, ◌*◌, ◌≤◌, rules, FitsSigned, ℤ, pos, ◌+ℤ◌, to_z, of_z, w64, ap, ◌∙◌, arith, mul-le-mul}
use Rattle.std.proofs.lemmas.Int.{ints}
use Rattle.sharing.specs.Rule.{portion}
use Rattle.sharing.proofs.Rules.{portion-le}
use Rattle.ledger.specs.Items.{taken}
use Rattle.packer.specs.declared.source.Measures.{Measures}
use Rattle.packer.specs.Walks.{filled}
use Rattle.packer.proofs.Walks.{filled-few, total-more, left-known, left-room, left-more, left-done}
use Rattle.packer.proofs.source.Source.draw_items.Goals as goal

pub measures-measures-requires-clause-known : goal.measures-measures-requires-clause-known
measures-measures-requires-clause-known g c = left-known c.args.items.now c.loop-item.item-index c.loop-item-test.true c.loop-item.invariant.left

pub portion_of-grown-requires : goal.portion_of-grown-requires
portion_of-grown-requires g c =
    let few = filled-few c.args.items.now in
    let count = total-more filled c.args.items.now c.loop-item.item-index c.loop-item-test.true in
    let product : c.args.shared.surplus * c.loop-item.passed ≤ 70368744177664 * 16384 = mul-le-mul {n₂ = 70368744177664} {m₂ = 16384} (omega arith) (omega arith) in
    omega arith

pub overflow_cast-grown : goal.overflow_cast-grown
overflow_cast-grown g c =
    let count = total-more filled c.args.items.now c.loop-item.item-index c.loop-item-test.true in
    let most = portion-le c.args.shared.surplus c.loop-item.passed c.args.shared.fills (omega arith) in
    omega (arith, ints)

pub overflow_add-moved : goal.overflow_add-moved
overflow_add-moved g c =
    let count = total-more filled c.args.items.now c.loop-item.item-index c.loop-item-test.true in
    let most = portion-le c.args.shared.surplus c.loop-item.passed c.args.shared.fills (omega arith) in
    omega (arith, ints)

pub draw_item-requires-clause-known : goal.draw_item-requires-clause-known
draw_item-requires-clause-known g c = left-known c.args.items.now c.loop-item.item-index c.loop-item-test.true c.loop-item.invariant.left

pub draw_item-requires-clause-room : goal.draw_item-requires-clause-room
draw_item-requires-clause-room g c =
    let at = c.loop-item.at in
    let is = c.args.items.now in
    let i = c.loop-item.item-index in
    let lt = c.loop-item-test.true in
    let left = c.loop-item.invariant.left in
    let count = total-more filled is i lt in
    let most = portion-le c.args.shared.surplus c.loop-item.passed c.args.shared.fills (omega arith) in
    let x-is : to_z w64 (of_z w64 (to_z w64 (of_z w64 at.x) +ℤ to_z w64 c.portion_of-grown.result)) ≡ at.x +ℤ pos (portion c.args.shared.surplus c.loop-item.passed c.args.shared.fills) = omega (arith, ints) in
    let y-fits : FitsSigned w64 at.y = search rules in
    let y-is : to_z w64 (of_z w64 at.y) ≡ at.y = omega (arith, ints) in
    left-room is i lt left _ (λ j. record { x = x-is j; y = y-is j; place = at.place })

pub overflow_add-at-in-loop-item : goal.overflow_add-at-in-loop-item
overflow_add-at-in-loop-item g c =
    let bytes = total-more taken c.args.items.now c.loop-item.item-index c.loop-item-test.true in
    omega arith

pub overflow_add-passed : goal.overflow_add-passed
overflow_add-passed g c =
    let few = filled-few c.args.items.now in
    let count = total-more filled c.args.items.now c.loop-item.item-index c.loop-item-test.true in
    omega arith

pub loop-item-preserved : goal.loop-item-preserved
loop-item-preserved g c =
    let at = c.loop-item.at in
    let is = c.args.items.now in
    let i = c.loop-item.item-index in
    let lt = c.loop-item-test.true in
    let left = c.loop-item.invariant.left in
    let count = total-more filled is i lt in
    let most = portion-le c.args.shared.surplus c.loop-item.passed c.args.shared.fills (omega arith) in
    let x-is : to_z w64 (of_z w64 (to_z w64 (of_z w64 at.x) +ℤ to_z w64 c.portion_of-grown.result)) ≡ at.x +ℤ pos (portion c.args.shared.surplus c.loop-item.passed c.args.shared.fills) = omega (arith, ints) in
    let y-fits : FitsSigned w64 at.y = search rules in
    let y-is : to_z w64 (of_z w64 at.y) ≡ at.y = omega (arith, ints) in
    let wide = ap (λ (r : Measures). r.wide) c.measures-measures.ensures.is in
    let next-is : to_z w64 (of_z w64 (to_z w64 (of_z w64 at.x) +ℤ to_z w64 (of_z w64 c.measures-measures.result.wide))) ≡ at.x +ℤ c.measures-measures.result.wide = omega (arith, ints) in
    let place-is = ap (λ (n : ℕ). at.place + n) c.bytes_taken.ensures in
    let x-more = next-is ∙ ap (λ (z : ℤ). at.x +ℤ z) wide in
    record {
      near = (omega (arith, ints), omega (arith, ints));
      left = left-more is i lt left c.draw_item.new.pen _ _ _ (λ j. record { x = x-is j; y = y-is j; place = at.place }) c.draw_item.ensures (ap (λ (n : ℕ). c.loop-item.passed + n) c.count_fill-passed.ensures) (λ j. record { x = x-more j; y = at.y; place = place-is j });
    }

pub returns : goal.returns
returns g c = left-done c.args.items.now c.loop-item.item-index c.loop-item-test.false c.loop-item.invariant.left
