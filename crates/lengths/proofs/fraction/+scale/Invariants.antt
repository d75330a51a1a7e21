use Rattle.std.proofs.Common.{length}
use Rattle.lengths.proofs.fraction.+scale.Given as goal

abbrev pub decreases-scale : goal.decreases-scale
decreases-scale l = length l.digits.bytes.now
