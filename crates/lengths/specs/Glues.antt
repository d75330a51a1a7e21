-- Glue at a place of a text: a length, and perhaps `plus` and a stretch. Assumes nothing.
use Rattle.std.specs.Prelude.{ℕ, ◌+◌, cond, List, drop, ℤ, pos, Some, None, Ok, Err, codes, Option, Result}
use Rattle.faults.specs.declared.Fault.{Fault}
use Rattle.reader.specs.Tokens.{spaces_end}
use Rattle.lengths.specs.declared.order.Order.TheVariants.{Points}
use Rattle.lengths.specs.declared.dimen.Dimen.{Dimen}
use Rattle.lengths.specs.declared.length.Length.{Length}
use Rattle.lengths.specs.declared.glue.Glue.{Glue}
use Rattle.lengths.specs.Dimens.{begins_with, dimen_of}
use Rattle.lengths.specs.Lengths.{missing_at, length_at}
use Rattle.lengths.specs.Gaps.{Parts, parts, parts_of}

-- a gap by its parts, and the place behind it
pub record GlueParts : Type 0 where
  pub gap : Parts
  pub end : ℕ

abbrev pub glue_parts : Result Glue Fault → Result GlueParts Fault
glue_parts (Ok g) = Ok (record { gap = parts_of g.gap; end = g.end })
glue_parts (Err f) = Err f

abbrev pub stretch_placed : List ℕ → ℕ → Option Dimen → Result Dimen Fault
stretch_placed text place None = Err (missing_at text place)
stretch_placed text place (Some d) = Ok (record { size = d.size; order = d.order; end = place + d.end })

-- the stretch at a place of a text
unfoldable pub stretch_at : List ℕ → ℕ → Result Dimen Fault
stretch_at text place = stretch_placed text place (dimen_of (drop place text))

abbrev pub stretched : ℤ → Result Dimen Fault → Result GlueParts Fault
stretched z (Ok s) = Ok (record { gap = parts z (pos s.size) s.order; end = s.end })
stretched z (Err f) = Err f

-- behind a length: `plus` with spaces and a stretch, or no stretch
abbrev pub behind_length : List ℕ → Result Length Fault → Result GlueParts Fault
behind_length text (Ok l) =
    cond (begins_with (codes "plus") (drop l.end text))
    (stretched l.sp (stretch_at text (spaces_end text (l.end + 4))))
    (Ok (record { gap = parts l.sp (pos 0) Points; end = l.end }))
behind_length text (Err f) = Err f

-- the glue at a place of a text
unfoldable pub glue_at : List ℕ → ℕ → Result GlueParts Fault
glue_at text place = behind_length text (length_at text place)
