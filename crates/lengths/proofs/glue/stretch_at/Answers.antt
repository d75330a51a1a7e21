use Rattle.std.proofs.Common.{rules}
use Rattle.lengths.specs.Glues.{stretch_at}
use Rattle.lengths.proofs.glue.stretch_at.Goals as goal

pub returns-clause-is : goal.returns-clause-is
unfolding stretch_at
returns-clause-is c = search rules
