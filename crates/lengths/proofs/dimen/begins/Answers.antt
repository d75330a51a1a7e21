use Rattle.std.proofs.lemmas.Bool.Decides.{Decides-eqb}
use Rattle.std.proofs.lemmas.Slice.Eq.{starts_is}
use Rattle.lengths.proofs.Fronts.{begins-is}
use Rattle.lengths.proofs.dimen.begins.Goals as goal

pub returns-clause-is : goal.returns-clause-is
returns-clause-is c =
    let told = starts_is Decides-eqb c.args.s.now c.args.word.now c.starts_with.result c.starts_with.ensures.value in
    begins-is c.args.word.now c.args.s.now c.starts_with.result told.0 told.1
