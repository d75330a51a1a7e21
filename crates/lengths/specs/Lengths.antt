-- A length as it is read from the first byte on. Assumes nothing.
use Rattle.std.specs.Prelude.{ℕ, ◌+◌, cond, List, [], ◌∷◌, length, drop, pos, neg_ℤ, Some, None, Ok, Err, Option, Result, ◌==◌, nat_le}
use Rattle.faults.specs.declared.Fault.{Fault}
use Rattle.faults.specs.declared.Cause.TheVariants.{BadLength}
use Rattle.faults.specs.Faults.{fault_at, number_of}
use Rattle.reader.specs.declared.tokens.Lexeme.{Lexeme}
use Rattle.reader.specs.Tokens.{token_at}
use Rattle.lengths.specs.declared.order.Order.{Order}
use Rattle.lengths.specs.declared.order.Order.TheVariants.{Points, Fil, Fill, Filll}
use Rattle.lengths.specs.declared.dimen.Dimen.{Dimen}
use Rattle.lengths.specs.declared.length.Length.{Length}
use Rattle.lengths.specs.Dimens.{dimen_of}

-- points are a length, the other units are not
abbrev pub by_order : Order → ℕ → ℕ → Option Length
by_order Points size n = Some (record { sp = pos size; end = n })
by_order Fil size n = None
by_order Fill size n = None
by_order Filll size n = None

abbrev pub in_points : Option Dimen → Option Length
in_points None = None
in_points (Some d) = by_order d.order d.size d.end

abbrev pub points_of : List ℕ → Option Length
points_of s = in_points (dimen_of s)

-- behind a minus
abbrev pub turned : Option Length → Option Length
turned None = None
turned (Some l) = Some (record { sp = neg_ℤ l.sp; end = 1 + l.end })

-- a minus (45), or none
abbrev pub length_of : List ℕ → Option Length
length_of [] = None
length_of (b ∷ bs) = cond (b == 45) (turned (points_of bs)) (points_of (b ∷ bs))

-- the fault of a token that stands in a length's stead: a bad byte (1) and an unknown control (2) go first
abbrev pub in_its_stead : Result Lexeme Fault → ℕ → Fault
in_its_stead (Ok t) place = fault_at BadLength place
in_its_stead (Err f) place = cond (nat_le (number_of f.cause) 2) f (fault_at BadLength place)

-- the fault where a length or a stretch has to stand and none does
unfoldable pub missing_at : List ℕ → ℕ → Fault
missing_at text place = cond (nat_le (length text) place) (fault_at BadLength (length text)) (in_its_stead (token_at text place) place)

abbrev pub placed : List ℕ → ℕ → Option Length → Result Length Fault
placed text place None = Err (missing_at text place)
placed text place (Some l) = Ok (record { sp = l.sp; end = place + l.end })

-- the length at a place of a text
unfoldable pub length_at : List ℕ → ℕ → Result Length Fault
length_at text place = placed text place (length_of (drop place text))
