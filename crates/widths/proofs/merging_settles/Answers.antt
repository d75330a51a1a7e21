use Rattle.widths.proofs.Settles.{merging_settles}
use Rattle.widths.proofs.merging_settles.Goals as goal

pub returns : goal.returns
returns c = merging_settles
