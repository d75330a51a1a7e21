use Rattle.std.proofs.Common.{sym}
use Rattle.measure.proofs.Made.{ranges_in}
use Rattle.measure.proofs.mono.Mono.new.Goals as goal

pub invariant_of-result : goal.invariant_of-result
invariant_of-result c = record { ranges = ranges_in _ _ _ _ (sym c.if-not-in_ranges.ensures) }
