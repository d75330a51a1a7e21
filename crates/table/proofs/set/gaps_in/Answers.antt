use Rattle.std.proofs.Common.{◌<◌, [], ◌∷◌, length, ap, ◌∙◌, arith}
use Rattle.sharing.specs.declared.SideGap.{SideGap}
use Rattle.table.proofs.Blanks.{first-set}
use Rattle.table.proofs.set.gaps_in.Goals as goal

pub loop-i-init : goal.loop-i-init
loop-i-init g c =
    let some : 0 < length c.args.gaps.now = omega arith in
    first-set c.args.gaps.now c.gap_of.result some ∙ ap (λ (y : SideGap). y ∷ []) c.gap_of.ensures
