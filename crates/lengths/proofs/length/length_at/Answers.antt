use Rattle.std.proofs.Common.{rules}
use Rattle.lengths.specs.Lengths.{length_at}
use Rattle.lengths.proofs.LengthLaws.{reads-length}
use Rattle.lengths.proofs.length.length_at.Goals as goal

is : goal.returns-clause-answer
unfolding length_at
is c = search rules

pub returns-clause-answer : goal.returns-clause-answer
returns-clause-answer = is

pub returns-clause-law : goal.returns-clause-law
returns-clause-law c = reads-length c.args.text.now c.args.place _ (is c)
