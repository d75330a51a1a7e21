use Rattle.std.proofs.Common.{refl}
use Rattle.reader.specs.Tokens.{first_spelled, spelled, token_at, spaces_end}
use Rattle.lengths.specs.Lengths.{missing_at, length_at}
use Rattle.widths.specs.Merging.{row}
use Rattle.widths.specs.Formula.{between}
use Rattle.widths.specs.Entries.{widest}
use Rattle.sharing.specs.Rule.{portion}
use Rattle.sharing.specs.Gaps.{sum_to}
use Rattle.ledger.specs.Chunks.{total}
use Rattle.packer.specs.Boxes.{item_boxes}
use Rattle.cases.proofs.marked.marked_cases_stand.Goals as goal

pub returns : goal.returns
unfolding first_spelled spelled token_at spaces_end missing_at length_at row between widest portion sum_to total item_boxes
returns c = ((refl, refl, refl), ((refl, refl, refl), ((refl, refl, refl), ((refl, refl, refl), (refl, (refl, (refl, (refl, (refl, (refl, (refl, tt)))))))))))
