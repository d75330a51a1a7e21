-- The calls that a line spells, and what they leave. Assumes nothing.
use Rattle.std.specs.Prelude.{◌≡◌, ℕ, zero, suc, ◌+◌, Bool, true, false, List, [], ◌∷◌, length, ℤ, Some, None, Ok, Err, Option, Result}
use Rattle.faults.specs.declared.Fault.{Fault}
use Rattle.reader.specs.declared.tokens.Lexeme.{Lexeme}
use Rattle.reader.specs.Tokens.{token_at, spaces_end}
use Rattle.lengths.specs.declared.length.Length.{Length}
use Rattle.lengths.specs.Lengths.{length_at}
use Rattle.ledger.specs.declared.records.Room.{Room}
use Rattle.ledger.specs.Ledger.{Item, kern, rule, gap, Ledger}
use Rattle.ledger.specs.Calls.{Template, opened, ruled_by, take_verdict, omit_verdict, tab_verdict, span_verdict, lay_verdict, rule_verdict, gap_verdict}
use Rattle.ledger.specs.Naturals.{start_verdict, put_verdict}
use Rattle.lines.specs.Lines.{Act, adds, kerns, tabs_on, spans_on, lays_row, Lead, drops, bares, begins, lead_of, Piece, opens, closes, draws, skips, ends, other, piece_of, is_noalign, LineRead, column_of, omitted, started, with_item, tabbed, spanned, laid, act_of}

-- a call on a table
pub data Call : Type 0 where
  takes : Call
  omits : Call
  starts : Call
  puts : Item → Call
  tabs : Call
  spans : Call
  lays : Call
  rules : Call
  gaps : ℤ → Call

module _ {X : Type 0} (text : List ℕ) (meaning : List ℕ → Result X ℕ) (P : List Template) where
  -- what a token of a begun cell is as a call, and the calls that follow it
  abbrev pub length_calls : (ℕ → List Call) → Result Length Fault → List Call
  length_calls k (Ok l) = puts (kern l.sp) ∷ k l.end
  length_calls k (Err f) = []

  abbrev pub act_calls : (Bool → ℕ → ℕ → List Call) → ℕ → ℕ → Result Act Fault → List Call
  act_calls k c end (Ok (adds i)) = puts i ∷ k true c end
  act_calls k c end (Ok kerns) = length_calls (k true c) (length_at text end)
  act_calls k c end (Ok tabs_on) = tabs ∷ k false (c + 1) end
  act_calls k c end (Ok spans_on) = spans ∷ k false (c + 1) end
  act_calls k c end (Ok lays_row) = lays ∷ []
  act_calls k c end (Err f) = []

  -- .. of a fresh one
  abbrev pub fresh_calls : (Bool → ℕ → ℕ → List Call) → ℕ → ℕ → Lead → Result Act Fault → List Call
  fresh_calls k c end drops a = k false c end
  fresh_calls k c end bares a = omits ∷ k true c end
  fresh_calls k c end begins a = starts ∷ act_calls k c end a

  abbrev pub token_calls : (Bool → ℕ → ℕ → List Call) → Bool → ℕ → ℕ → Result Lexeme Fault → List Call
  token_calls k true c place (Ok l) = act_calls k c l.end (act_of text meaning P place c l.token)
  token_calls k false c place (Ok l) = fresh_calls k c l.end (lead_of l.token) (act_of text meaning P place c l.token)
  token_calls k b c place (Err f) = []

  -- the calls that the tokens of a row spell from a place on, in a cell of column c that is begun or fresh
  unfoldable pub row_calls : ℕ → Bool → ℕ → ℕ → List Call
  row_calls zero b c place = []
  row_calls (suc n) b c place = token_calls (row_calls n) b c place (token_at text place)

  -- the call behind \noalign and its brace
  abbrev pub gap_calls : Result Length Fault → List Call
  gap_calls (Ok l) = gaps l.sp ∷ []
  gap_calls (Err f) = []

  abbrev pub piece_calls : ℕ → Piece → List Call
  piece_calls end opens = []
  piece_calls end closes = []
  piece_calls end draws = rules ∷ []
  piece_calls end skips = gap_calls (length_at text end)
  piece_calls end ends = []
  piece_calls end other = []

  abbrev pub bare_calls : Result Lexeme Fault → List Call
  bare_calls (Ok l) = piece_calls l.end (piece_of l.token)
  bare_calls (Err f) = []

  abbrev pub brace_calls : Result Lexeme Fault → List Call
  brace_calls (Ok l) = bare_calls (token_at text l.end)
  brace_calls (Err f) = []

  -- the calls that a line spells
  abbrev pub first_calls : Bool → ℕ → ℕ → List Call
  first_calls true place end = brace_calls (token_at text end)
  first_calls false place end = takes ∷ row_calls (suc (length text)) false 0 place

  abbrev pub calls_from : ℕ → Result Lexeme Fault → List Call
  calls_from place (Ok l) = first_calls (is_noalign l.token) place l.end
  calls_from place (Err f) = []

  abbrev pub line_calls : List Call
  line_calls = calls_from (spaces_end text 0) (token_at text (spaces_end text 0))

  module _ (count : ℕ) (wide : Item → ℕ → ℤ) (m : Room) where
    -- what a call is refused for, in the cell in hand, and what it makes of the ledger
    abbrev pub verdict_of : Call → Ledger → Option Fault
    verdict_of takes g = take_verdict P m g
    verdict_of omits g = omit_verdict g (column_of g.hand)
    verdict_of starts g = start_verdict count wide P g (column_of g.hand)
    verdict_of (puts i) g = put_verdict count wide meaning P m g (column_of g.hand) i
    verdict_of tabs g = tab_verdict P m g (column_of g.hand)
    verdict_of spans g = span_verdict P m g (column_of g.hand)
    verdict_of lays g = lay_verdict g (column_of g.hand)
    verdict_of rules g = rule_verdict P m g
    verdict_of (gaps z) g = gap_verdict P m g z

    abbrev pub called : Call → Ledger → Ledger
    called takes g = opened g
    called omits g = omitted g
    called starts g = started P g
    called (puts i) g = with_item i g
    called tabs g = tabbed P g
    called spans g = spanned P g
    called lays g = laid P g
    called rules g = ruled_by rule g
    called (gaps z) g = ruled_by (gap z) g

    -- calls, one after the other and none of them refused, lead from one ledger to another
    unfoldable pub Leads : List Call → Ledger → Ledger → Type 0
    Leads [] g g' = g ≡ g'
    Leads (c ∷ cs) g g' = (verdict_of c g ≡ None) × Leads cs (called c g) g'

    -- a line that was read leaves what the calls that it spells leave, none of them refused
    abbrev pub LeadsTo : Ledger → Result (Option LineRead) Fault → Type 0
    LeadsTo g (Ok (Some r)) = Leads line_calls g r.ledger
    LeadsTo g (Ok None) = Unit {0}
    LeadsTo g (Err f) = Unit {0}
