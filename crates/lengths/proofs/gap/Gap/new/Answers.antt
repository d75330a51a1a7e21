use Rattle.std.proofs.Common.{◌≡◌, ℤ, true, false, Some, pos, ◌≤ℤ◌, rules, tests, arith}
use lib.Signed.{le_z}
use Rattle.std.proofs.lemmas.Int.{ints}
use Rattle.std.proofs.lemmas.Bool.{and_from, and_right, both_ways}
use Rattle.lengths.specs.Orders.{order_from}
use Rattle.lengths.specs.Gaps.{stretch_fits, InRange}
use Rattle.lengths.proofs.gap.Gap.new.Goals as goal

fits : (n s : ℤ) → InRange n s → stretch_fits s ≡ true
fits n s h = and_from (le_z (pos 0) s) (le_z s (pos 16777215)) (grind (arith, ints, h.1.0)) (grind (arith, ints, h.1.1))

pub returns-then-not-contains-2-clause-answer : goal.returns-then-not-contains-2-clause-answer
returns-then-not-contains-2-clause-answer c =
    let order : order_from c.args.order ≡ Some c.in_ok-order.order = search rules in
    let stretch : stretch_fits c.args.stretch ≡ false = search (rules, tests) in
    search (rules, and_right)

pub returns-then-not-contains-2-clause-law : goal.returns-then-not-contains-2-clause-law
returns-then-not-contains-2-clause-law c =
    let stretch : stretch_fits c.args.stretch ≡ false = search (rules, tests) in
    let out : InRange c.args.natural c.args.stretch → ⊥ = λ h. both_ways _ stretch (fits _ _ h) in
    search (rules, out)

pub returns-clause-law : goal.returns-clause-law
returns-clause-law c =
    let stretch : stretch_fits c.args.stretch ≡ true = search (rules, tests) in
    let low : pos 0 ≤ℤ c.args.stretch = grind (rules, ints) in
    search rules
