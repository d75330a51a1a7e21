-- Why a line is refused: the leftmost token that is at fault, and the first of its faults. Assumes nothing.
use Rattle.std.specs.Prelude.{◌≡◌, ℕ, ◌⊎◌, Bool, true, false, cond, List, [], ◌∷◌, ℤ, pos, int_le, Some, None, Ok, Err, Option, Result}
use Rattle.faults.specs.declared.Fault.{Fault}
use Rattle.faults.specs.declared.Cause.TheVariants as cause
use Rattle.faults.specs.Faults.{fault_at}
use Rattle.reader.specs.declared.tokens.Lexeme.{Lexeme}
use Rattle.reader.specs.Tokens.{token_at, spaces_end}
use Rattle.lengths.specs.declared.length.Length.{Length}
use Rattle.lengths.specs.Lengths.{length_at}
use Rattle.ledger.specs.Refusals.{foreign_cell}
use Rattle.ledger.specs.declared.records.Room.{Room}
use Rattle.ledger.specs.Ledger.{Item, kern, OpenRow, Ledger}
use Rattle.ledger.specs.Calls.{Template, first_of, is_open, opened, take_verdict, tab_verdict, span_verdict, rule_verdict}
use Rattle.ledger.specs.Naturals.{add_verdict, start_verdict}
use Rattle.lines.specs.Lines.{Act, adds, kerns, tabs_on, spans_on, lays_row, Lead, drops, bares, begins, lead_of, goes_on, LineRead, is_noalign, moved_to, column_of, started, act_of, too_wide, row_step, Piece, opens, closes, draws, skips, ends, other, piece_of}
use Rattle.lines.specs.Bares.{fault_amiss}

-- a call's fault, if there is one, at a place of the text
abbrev pub at_place : ℕ → Option Fault → Option Fault
at_place p None = None
at_place p (Some f) = Some (moved_to p f)

module _ {X : Type 0} (text : List ℕ) (meaning : List ℕ → Result X ℕ) (P : List Template) (count : ℕ) (wide : Item → ℕ → ℤ) (m : Room) where
  -- what a begun cell tests of a token, in order: an item's 10 and 22, a kern's length before them, 22 of a mark
  abbrev pub length_tests : Ledger → ℕ → Result Length Fault → List (Option Fault)
  length_tests g at (Ok l) = at_place at (add_verdict count wide P m g (kern l.sp)) ∷ []
  length_tests g at (Err f) = Some f ∷ []

  abbrev pub own_tests : Ledger → ℕ → ℕ → Act → List (Option Fault)
  own_tests g place end (adds i) = at_place place (add_verdict count wide P m g i) ∷ []
  own_tests g place end kerns = length_tests g end (length_at text end)
  own_tests g place end tabs_on = at_place place (tab_verdict P m g (column_of g.hand)) ∷ []
  own_tests g place end spans_on = at_place place (span_verdict P m g (column_of g.hand)) ∷ []
  own_tests g place end lays_row = []

  -- 5 to 8 and 41 come before
  abbrev pub begun_tests : Ledger → ℕ → ℕ → Result Act Fault → List (Option Fault)
  begun_tests g place end (Ok a) = own_tests g place end a
  begun_tests g place end (Err f) = Some f ∷ []

  -- .. and a fresh cell's start behind these: 10
  abbrev pub start_tests : Ledger → ℕ → ℕ → Result Act Fault → List (Option Fault)
  start_tests g place end (Ok a) = at_place place (start_verdict count wide P g (column_of g.hand)) ∷ own_tests (started P g) place end a
  start_tests g place end (Err f) = Some f ∷ []

  abbrev pub fresh_tests : Lead → Ledger → ℕ → ℕ → Result Act Fault → List (Option Fault)
  fresh_tests drops g place end a = []
  fresh_tests bares g place end a = []
  fresh_tests begins g place end a = start_tests g place end a

  abbrev pub hand_tests : Ledger → ℕ → Lexeme → Option OpenRow → List (Option Fault)
  hand_tests g place l None = Some foreign_cell ∷ []
  hand_tests g place l (Some h) = cond h.begun (begun_tests g place l.end (act_of text meaning P place h.column l.token))
      (fresh_tests (lead_of l.token) g place l.end (act_of text meaning P place h.column l.token))

  -- all tests of the token at a place, in order: what the reader refuses comes first
  abbrev pub lexed_tests : Ledger → ℕ → Result Lexeme Fault → List (Option Fault)
  lexed_tests g place (Ok l) = hand_tests g place l g.hand
  lexed_tests g place (Err f) = Some f ∷ []

  abbrev pub token_tests : Ledger → ℕ → List (Option Fault)
  token_tests g place = lexed_tests g place (token_at text place)

  -- one token that is not at fault, and where it leads
  pub record Passes (p : ℕ) (g : Ledger) (q : ℕ) (h : Ledger) : Type 0 where
    pub fine : first_of (token_tests g p) ≡ None
    pub on : row_step text meaning P count wide m g p ≡ goes_on q h

  -- from here on the leftmost token that is at fault has this as its first fault
  pub data Refused : ℕ → Ledger → Fault → Type 0 where
    here : (p : ℕ) (g : Ledger) (f : Fault) → first_of (token_tests g p) ≡ Some f → Refused p g f
    later : (p : ℕ) (g : Ledger) (q : ℕ) (h : Ledger) (f : Fault) → Passes p g q h → Refused q h f → Refused p g f

  -- where take is refused, its 22 stands behind the first token's 5 to 8, 41 and 10; a cell without its template has no 10
  abbrev pub crowded_acts : Fault → Ledger → ℕ → Result Act Fault → List (Option Fault)
  crowded_acts full g place (Ok a) = at_place place (start_verdict count wide P (opened g) 0) ∷ at_place place (too_wide text meaning P count wide m (started P (opened g)) a) ∷ Some (moved_to place full) ∷ []
  crowded_acts full g place (Err f) = Some f ∷ []

  abbrev pub crowded_tests : Lead → Fault → Ledger → ℕ → Result Act Fault → List (Option Fault)
  crowded_tests drops full g place a = crowded_acts full g place a
  crowded_tests bares full g place a = Some (moved_to place full) ∷ []
  crowded_tests begins full g place a = crowded_acts full g place a

  -- a row that is refused, from its first token on
  abbrev pub RowRefused : Option Fault → Ledger → ℕ → Lexeme → Fault → Type 0
  RowRefused None g place l f = Refused place (opened g) f
  RowRefused (Some full) g place l f = first_of (crowded_tests (lead_of l.token) full g place (act_of text meaning P place 0 l.token)) ≡ Some f

  -- the tests of \noalign's tokens, one token after the other: each is the one that is wanted there, else 5, or 8 at the text's end
  abbrev pub closed_by_tests : ℕ → Piece → List (Option Fault)
  closed_by_tests place opens = Some (fault_amiss text place opens) ∷ []
  closed_by_tests place closes = []
  closed_by_tests place draws = Some (fault_amiss text place draws) ∷ []
  closed_by_tests place skips = Some (fault_amiss text place skips) ∷ []
  closed_by_tests place ends = Some (fault_amiss text place ends) ∷ []
  closed_by_tests place other = Some (fault_amiss text place other) ∷ []

  abbrev pub closed_tests : ℕ → Result Lexeme Fault → List (Option Fault)
  closed_tests place (Ok l) = closed_by_tests place (piece_of l.token)
  closed_tests place (Err f) = Some f ∷ []

  -- a gap's length is at least 0: else 3
  abbrev pub gap_tests : ℕ → Result Length Fault → List (Option Fault)
  gap_tests place (Ok l) = cond (int_le (pos 0) l.sp) (closed_tests l.end (token_at text l.end)) (Some (fault_at cause.BadLength place) ∷ [])
  gap_tests place (Err f) = Some f ∷ []

  abbrev pub bare_by_tests : ℕ → ℕ → Piece → List (Option Fault)
  bare_by_tests place end opens = Some (fault_amiss text place opens) ∷ []
  bare_by_tests place end closes = Some (fault_amiss text place closes) ∷ []
  bare_by_tests place end draws = closed_tests end (token_at text end)
  bare_by_tests place end skips = gap_tests end (length_at text end)
  bare_by_tests place end ends = Some (fault_amiss text place ends) ∷ []
  bare_by_tests place end other = Some (fault_amiss text place other) ∷ []

  abbrev pub bare_tests : ℕ → Result Lexeme Fault → List (Option Fault)
  bare_tests place (Ok l) = bare_by_tests place l.end (piece_of l.token)
  bare_tests place (Err f) = Some f ∷ []

  abbrev pub opened_by_tests : ℕ → ℕ → Piece → List (Option Fault)
  opened_by_tests place end opens = bare_tests end (token_at text end)
  opened_by_tests place end closes = Some (fault_amiss text place closes) ∷ []
  opened_by_tests place end draws = Some (fault_amiss text place draws) ∷ []
  opened_by_tests place end skips = Some (fault_amiss text place skips) ∷ []
  opened_by_tests place end ends = Some (fault_amiss text place ends) ∷ []
  opened_by_tests place end other = Some (fault_amiss text place other) ∷ []

  abbrev pub opened_tests : ℕ → Result Lexeme Fault → List (Option Fault)
  opened_tests place (Ok l) = opened_by_tests place l.end (piece_of l.token)
  opened_tests place (Err f) = Some f ∷ []

  -- where there is no room for a line, 22 stands at \noalign
  abbrev pub noalign_tests : Ledger → ℕ → ℕ → List (Option Fault)
  noalign_tests g place end = at_place place (rule_verdict P m g) ∷ opened_tests end (token_at text end)

  -- .. and any line
  abbrev pub FirstRefused : Bool → Ledger → ℕ → Lexeme → Fault → Type 0
  FirstRefused true g place l f = first_of (noalign_tests g place l.end) ≡ Some f
  FirstRefused false g place l f = RowRefused (take_verdict P m g) g place l f

  abbrev pub LexedRefused : Ledger → ℕ → Result Lexeme Fault → Fault → Type 0
  LexedRefused g place (Ok l) f = FirstRefused (is_noalign l.token) g place l f
  LexedRefused g place (Err e) f = e ≡ f

  -- a line is refused first of all where a row is in hand, and else from its first token on
  abbrev pub Refuses : Ledger → Fault → Type 0
  Refuses g f = ((is_open g.hand ≡ true) × (f ≡ foreign_cell)) ⊎ ((is_open g.hand ≡ false) × LexedRefused g (spaces_end text 0) (token_at text (spaces_end text 0)) f)

  abbrev pub RefusesAt : Ledger → Result (Option LineRead) Fault → Type 0
  RefusesAt g (Ok o) = Unit {0}
  RefusesAt g (Err f) = Refuses g f
