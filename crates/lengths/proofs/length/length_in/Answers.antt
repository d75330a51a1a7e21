use Rattle.std.proofs.Common.{◌≡◌, ◌<◌, length, get_or, pos, ◌-ℤ◌, neg_ℤ, arith, w64, to_z, of_z, rules}
use Rattle.std.proofs.lemmas.Int.{ints}
use Rattle.lengths.proofs.Signs.{turned-is}
use Rattle.lengths.proofs.length.length_in.Goals as goal

pub returns-in_ok-l-in-45-clause-is : goal.returns-in_ok-l-in-45-clause-is
returns-in_ok-l-in-45-clause-is c =
    let some : 0 < length c.args.s.now = search rules in
    let minus : get_or c.args.s.now 0 0 ≡ 45 = search rules in
    let l = c.in_ok-l-in-45.l in
    let told = c.in_ok-l-in-45.ensures in
    let low = told.inside.0.0 in
    let high = told.inside.0.1 in
    let value : to_z w64 (of_z w64 (pos 0 -ℤ to_z w64 (of_z w64 l.sp))) ≡ neg_ℤ l.sp = omega (arith, ints) in
    turned-is c.args.s.now l _ some minus value told.is
