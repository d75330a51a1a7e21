use Rattle.std.proofs.Common.{refl}
use Rattle.widths.specs.Merging.{row}
use Rattle.widths.specs.Formula.{between}
use Rattle.widths.specs.Entries.{widest}
use Rattle.widths.proofs.samples_settle.Goals as goal

pub returns : goal.returns
unfolding row between widest
returns c = ((refl, refl, refl), ((refl, refl, refl), ((refl, refl, refl), ((refl, refl, refl), tt))))
