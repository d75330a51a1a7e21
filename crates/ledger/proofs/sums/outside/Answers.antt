use Rattle.std.proofs.Common.{rules, arith, true, false, refl}
use Rattle.std.proofs.lemmas.Iterator.{cases_from_any, YieldsList-from_range}
use Rattle.ledger.proofs.Beyonds.{Judges, beyond-search}
use Rattle.ledger.proofs.sums.outside.Goals as goal

pub returns : goal.returns
returns g c =
    let n = g.E.Extent.count in
    let f = g.E.Extent.num c.args.w in
    let chain = YieldsList-from_range 0 c.sides.result n refl (omega (arith, c.sides.ensures)) in
    beyond-search n f _ (cases_from_any _ _ _ (Judges n f true) (Judges n f false) c.any.ensures.ran chain (λ x q k. search rules) (λ x q k. search rules))
