use Rattle.std.proofs.Common.{◌≡◌, ◌<◌, [], ◌∷◌, length, ℤ, ap, ◌∙◌, arith, w64, to_z, of_z}
use Rattle.std.proofs.lemmas.Int.{ints}
use Rattle.table.proofs.Blanks.{first-set}
use Rattle.table.proofs.asks.naturals.Goals as goal

pub loop-i-init : goal.loop-i-init
loop-i-init g c =
    let z = c.natural.result in
    let within = c.natural.ensures.within in
    let some : 0 < length c.args.lengths.now = omega arith in
    let whole : to_z w64 (of_z w64 z) ≡ z = omega (arith, ints, within.0, within.1) in
    first-set c.args.lengths.now (to_z w64 (of_z w64 z)) some ∙ ap (λ (y : ℤ). y ∷ []) (whole ∙ c.natural.ensures.answer)
