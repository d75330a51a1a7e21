-- What \noalign holds, apart from the ledger that it is added to. Assumes nothing.
use Rattle.std.specs.Prelude.{ℕ, cond, List, [], length, pos, Ok, Err, Result, int_le}
use Rattle.faults.specs.declared.Fault.{Fault}
use Rattle.faults.specs.declared.Cause.TheVariants as cause
use Rattle.faults.specs.Faults.{fault_at}
use Rattle.reader.specs.declared.tokens.Lexeme.{Lexeme}
use Rattle.reader.specs.Tokens.{token_at}
use Rattle.lengths.specs.declared.length.Length.{Length}
use Rattle.lengths.specs.Lengths.{length_at}
use Rattle.ledger.specs.Ledger.{Ledger}
use Rattle.ledger.specs.Calls.{ruled_by}
use Rattle.rows.specs.declared.state.LineRecord.TheVariants.{Rule, Gap}
use Rattle.rows.specs.Held.{line_of}
use Rattle.lines.specs.declared.noalign.Inner.{Inner}
use Rattle.lines.specs.declared.noalign.Inner.TheVariants as inner
use Rattle.lines.specs.declared.noalign.Bare.{Bare}
use Rattle.lines.specs.Lines.{Piece, opens, closes, draws, skips, ends, other, piece_of, LineRead}

-- a token within \noalign
abbrev pub piece_in : Inner → Piece
piece_in inner.Open = opens
piece_in inner.Close = closes
piece_in inner.Rule = draws
piece_in inner.Skip = skips
piece_in inner.End = ends
piece_in inner.Other = other

-- any other token is misplaced, and the text's end is 8
abbrev pub fault_amiss : List ℕ → ℕ → Piece → Fault
fault_amiss text place opens = fault_at cause.Misplaced place
fault_amiss text place closes = fault_at cause.Misplaced place
fault_amiss text place draws = fault_at cause.Misplaced place
fault_amiss text place skips = fault_at cause.Misplaced place
fault_amiss text place ends = fault_at cause.TextOver (length text)
fault_amiss text place other = fault_at cause.Misplaced place

-- the place behind a brace that opens, and behind one that closes
abbrev pub open_by : List ℕ → ℕ → ℕ → Piece → Result ℕ Fault
open_by text place end opens = Ok end
open_by text place end closes = Err (fault_amiss text place closes)
open_by text place end draws = Err (fault_amiss text place draws)
open_by text place end skips = Err (fault_amiss text place skips)
open_by text place end ends = Err (fault_amiss text place ends)
open_by text place end other = Err (fault_amiss text place other)

abbrev pub open_end : List ℕ → ℕ → Result Lexeme Fault → Result ℕ Fault
open_end text place (Ok l) = open_by text place l.end (piece_of l.token)
open_end text place (Err f) = Err f

abbrev pub close_by : List ℕ → ℕ → ℕ → Piece → Result ℕ Fault
close_by text place end opens = Err (fault_amiss text place opens)
close_by text place end closes = Ok end
close_by text place end draws = Err (fault_amiss text place draws)
close_by text place end skips = Err (fault_amiss text place skips)
close_by text place end ends = Err (fault_amiss text place ends)
close_by text place end other = Err (fault_amiss text place other)

abbrev pub close_end : List ℕ → ℕ → Result Lexeme Fault → Result ℕ Fault
close_end text place (Ok l) = close_by text place l.end (piece_of l.token)
close_end text place (Err f) = Err f

-- a gap of at least 0, and a rule
abbrev pub gap_bare : ℕ → Result Length Fault → Result Bare Fault
gap_bare place (Ok l) = cond (int_le (pos 0) l.sp) (Ok (record { line = Gap l.sp; end = l.end })) (Err (fault_at cause.BadLength place))
gap_bare place (Err f) = Err f

abbrev pub piece_bare : List ℕ → ℕ → ℕ → Piece → Result Bare Fault
piece_bare text place end opens = Err (fault_amiss text place opens)
piece_bare text place end closes = Err (fault_amiss text place closes)
piece_bare text place end draws = Ok (record { line = Rule; end = end })
piece_bare text place end skips = gap_bare end (length_at text end)
piece_bare text place end ends = Err (fault_amiss text place ends)
piece_bare text place end other = Err (fault_amiss text place other)

abbrev pub lexeme_bare : List ℕ → ℕ → Result Lexeme Fault → Result Bare Fault
lexeme_bare text place (Ok l) = piece_bare text place l.end (piece_of l.token)
lexeme_bare text place (Err f) = Err f

-- one behind the other
abbrev pub closed_with : Bare → Result ℕ Fault → Result Bare Fault
closed_with b (Ok e) = Ok (record { line = b.line; end = e })
closed_with b (Err f) = Err f

abbrev pub then_close : List ℕ → Result Bare Fault → Result Bare Fault
then_close text (Ok b) = closed_with b (close_end text b.end (token_at text b.end))
then_close text (Err f) = Err f

abbrev pub then_bare : List ℕ → Result ℕ Fault → Result Bare Fault
then_bare text (Ok p) = then_close text (lexeme_bare text p (token_at text p))
then_bare text (Err f) = Err f

abbrev pub noalign_of : List ℕ → ℕ → Result Bare Fault
noalign_of text place = then_bare text (open_end text place (token_at text place))

-- .. as a line of a ledger
abbrev pub line_with : Ledger → Result Bare Fault → Result LineRead Fault
line_with g (Ok b) = Ok (record { bytes = b.end; ledger = ruled_by (line_of b.line []) g })
line_with g (Err f) = Err f
