use Rattle.std.proofs.Common.{◌≡◌, ◌-ℤ◌, to_z, of_z, w64, ap, ◌∙◌, arith}
use Rattle.std.proofs.lemmas.Int.{ints}
use Rattle.sharing.specs.Gaps.{upward}
use Rattle.packer.proofs.Columns.{upward-le}
use Rattle.packer.proofs.entry.left_over.Goals as goal

pub returns : goal.returns
returns c =
    let z = (c.args.last.right -ℤ c.args.first.left) -ℤ c.args.natural in
    let whole : to_z w64 (of_z w64 (to_z w64 (of_z w64 (to_z w64 (of_z w64 c.args.last.right) -ℤ to_z w64 (of_z w64 c.args.first.left))) -ℤ to_z w64 (of_z w64 c.args.natural))) ≡ z = omega (arith, ints) in
    let is = c.upward.ensures ∙ ap upward whole in
    record { is = is; within = omega (arith, upward-le z 70368744177664 (omega (arith, ints))) }
