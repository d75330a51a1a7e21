use Rattle.std.proofs.Common.{refl}
use Rattle.reader.specs.Tokens.{first_spelled, spelled, token_at, spaces_end}
use Rattle.lengths.specs.Lengths.{missing_at, length_at}
use Rattle.lengths.specs.Glues.{stretch_at, glue_at}
use Rattle.lengths.proofs.samples.samples_stand.Goals as goal

pub returns : goal.returns
unfolding first_spelled spelled token_at spaces_end missing_at length_at stretch_at glue_at
returns c = record { rows = (refl, (refl, (refl, (refl, (refl, (refl, (refl, (refl, (refl, (refl, (refl, (refl, (refl, (refl, (refl, (refl, (refl, (refl, (refl, (refl, (refl, (refl, (refl, (refl, (refl, (refl, (refl, (refl, (refl, (refl, (refl, (refl, (refl, (refl, (refl, (refl, (refl, (refl, (refl, (refl, (refl, (refl, tt)))))))))))))))))))))))))))))))))))))))))) }
