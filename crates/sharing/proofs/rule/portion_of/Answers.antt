use Rattle.std.proofs.Common.{◌≡◌, sym, ap, ◌∙◌, arith}
use Rattle.sharing.specs.Rule.{portion}
use Rattle.sharing.proofs.Rules.{portion-is, portion-among_none}
use Rattle.sharing.proofs.rule.portion_of.Goals as goal

pub returns-then-whole-eq0 : goal.returns-then-whole-eq0
returns-then-whole-eq0 c =
    let z : c.args.whole ≡ 0 = omega arith in
    sym (ap (portion c.args.surplus c.args.part) z ∙ portion-among_none c.args.surplus c.args.part)

pub returns : goal.returns
returns c = portion-is c.args.surplus c.args.part c.args.whole
