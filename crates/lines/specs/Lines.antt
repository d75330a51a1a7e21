-- The lines of a table, read from text: token by token, by the row calls' own steps and tests. Assumes nothing.
use Rattle.std.specs.Prelude.{ℕ, zero, suc, ◌+◌, Bool, true, false, cond, List, [], ◌∷◌, length, take, drop, ℤ, pos, Some, None, Ok, Err, Option, Result, int_le, nat_le, ◌+ℤ◌}
use Rattle.faults.specs.declared.Fault.{Fault}
use Rattle.faults.specs.declared.Cause.TheVariants as cause
use Rattle.faults.specs.Faults.{fault_at}
use Rattle.reader.specs.declared.tokens.Control.{Control}
use Rattle.reader.specs.declared.tokens.Control.TheVariants as control
use Rattle.reader.specs.declared.tokens.Lexeme.{Lexeme}
use Rattle.reader.specs.declared.tokens.Token.{Token}
use Rattle.reader.specs.declared.tokens.Token.TheVariants as token
use Rattle.reader.specs.Tokens.{token_at, spaces_end}
use Rattle.lengths.specs.declared.length.Length.{Length}
use Rattle.lengths.specs.Lengths.{length_at}
use Rattle.ledger.specs.Refusals.{foreign_cell, entry_wide}
use Rattle.ledger.specs.declared.records.Room.{Room}
use Rattle.ledger.specs.Ledger.{Item, cell_word, space, kern, hfil, rule, gap, OpenRow, Ledger}
use Rattle.ledger.specs.Calls.{Template, first_of, when, is_open, on_open, opened, omits, starts, puts, tabs, carries, lays, ruled_by, take_verdict, tab_verdict, span_verdict, rule_verdict}
use Rattle.ledger.specs.Naturals.{beyond, natural, items_now, owed_of, add_verdict, start_verdict}

-- what a token is to a cell: an item, a kern whose length is the next token, a mark that ends the cell
pub data Act : Type 0 where
  adds : Item → Act
  kerns : Act
  tabs_on : Act
  spans_on : Act
  lays_row : Act

-- what a token is at the start of a cell: a space is dropped, \omit bares the cell of its template, all else begins it
pub data Lead : Type 0 where
  drops : Lead
  bares : Lead
  begins : Lead

abbrev pub lead_control : Control → Lead
lead_control control.Kern = begins
lead_control control.Hfil = begins
lead_control control.Tabskip = begins
lead_control control.Cr = begins
lead_control control.Omit = bares
lead_control control.Span = begins
lead_control control.Noalign = begins
lead_control control.Hrule = begins
lead_control control.Vskip = begins

abbrev pub lead_of : Token → Lead
lead_of token.End = begins
lead_of token.Space = drops
lead_of (token.Word at n) = begins
lead_of (token.Control w) = lead_control w
lead_of token.Ampersand = begins
lead_of token.Hash = begins
lead_of token.OpenBrace = begins
lead_of token.CloseBrace = begins

-- what a token is within \noalign
pub data Piece : Type 0 where
  opens : Piece
  closes : Piece
  draws : Piece
  skips : Piece
  ends : Piece
  other : Piece

abbrev pub piece_control : Control → Piece
piece_control control.Kern = other
piece_control control.Hfil = other
piece_control control.Tabskip = other
piece_control control.Cr = other
piece_control control.Omit = other
piece_control control.Span = other
piece_control control.Noalign = other
piece_control control.Hrule = draws
piece_control control.Vskip = skips

abbrev pub piece_of : Token → Piece
piece_of token.End = ends
piece_of token.Space = other
piece_of (token.Word at n) = other
piece_of (token.Control w) = piece_control w
piece_of token.Ampersand = other
piece_of token.Hash = other
piece_of token.OpenBrace = opens
piece_of token.CloseBrace = closes

abbrev pub noalign_control : Control → Bool
noalign_control control.Kern = false
noalign_control control.Hfil = false
noalign_control control.Tabskip = false
noalign_control control.Cr = false
noalign_control control.Omit = false
noalign_control control.Span = false
noalign_control control.Noalign = true
noalign_control control.Hrule = false
noalign_control control.Vskip = false

abbrev pub is_noalign : Token → Bool
is_noalign token.End = false
is_noalign token.Space = false
is_noalign (token.Word at n) = false
is_noalign (token.Control w) = noalign_control w
is_noalign token.Ampersand = false
is_noalign token.Hash = false
is_noalign token.OpenBrace = false
is_noalign token.CloseBrace = false

-- what a token makes of the reading of a row: it goes on from a place, the row is laid, or a fault
pub data Outcome : Type 0 where
  goes_on : ℕ → Ledger → Outcome
  lies : ℕ → Ledger → Outcome
  refuses : Fault → Outcome

-- a line that was read: how many bytes, and the ledger with it
pub record LineRead : Type 0 where
  pub bytes : ℕ
  pub ledger : Ledger

-- what a call is refused for stands at a place of the text
abbrev pub moved_to : ℕ → Fault → Fault
moved_to p f = fault_at f.cause p

abbrev pub unless_at : ℕ → Option Fault → Outcome → Outcome
unless_at p None o = o
unless_at p (Some f) o = refuses (moved_to p f)

abbrev pub column_of : Option OpenRow → ℕ
column_of None = 0
column_of (Some h) = h.column

-- an outcome, followed by what comes after
abbrev pub onward : Outcome → (ℕ → Ledger → Result LineRead Fault) → Result LineRead Fault
onward (goes_on p g) rest = rest p g
onward (lies p g) rest = Ok (record { bytes = p; ledger = g })
onward (refuses f) rest = Err f

-- the steps on the row in hand
abbrev pub omitted : Ledger → Ledger
omitted g = on_open (omits g) g g.hand

abbrev pub started : List Template → Ledger → Ledger
started P g = on_open (starts P g) g g.hand

abbrev pub with_item : Item → Ledger → Ledger
with_item i g = on_open (puts i g) g g.hand

abbrev pub tabbed : List Template → Ledger → Ledger
tabbed P g = on_open (tabs P g) g g.hand

abbrev pub spanned : List Template → Ledger → Ledger
spanned P g = on_open (carries P g) g g.hand

abbrev pub laid : List Template → Ledger → Ledger
laid P g = on_open (lays P g) g g.hand

module _ {X : Type 0} (text : List ℕ) (meaning : List ℕ → Result X ℕ) (P : List Template) where
  -- a word that is measured, or its byte without a character: 41
  abbrev pub word_act : ℕ → List ℕ → Result X ℕ → Result Act Fault
  word_act at w (Ok x) = Ok (adds (cell_word w))
  word_act at w (Err p) = Err (fault_at cause.NoCharacter (at + p))

  -- on to the next column, if there is one: else 7
  abbrev pub next_act : ℕ → ℕ → Act → Result Act Fault
  next_act place c a = cond (nat_le (length P) (c + 1)) (Err (fault_at cause.TooManyColumns place)) (Ok a)

  abbrev pub misplaced : ℕ → Result Act Fault
  misplaced place = Err (fault_at cause.Misplaced place)

  abbrev pub control_act : ℕ → ℕ → Control → Result Act Fault
  control_act place c control.Kern = Ok kerns
  control_act place c control.Hfil = Ok (adds hfil)
  control_act place c control.Tabskip = misplaced place
  control_act place c control.Cr = Ok lays_row
  control_act place c control.Omit = misplaced place
  control_act place c control.Span = next_act place c spans_on
  control_act place c control.Noalign = misplaced place
  control_act place c control.Hrule = misplaced place
  control_act place c control.Vskip = misplaced place

  -- what a token at a place is to a cell of column c, or what is wrong with it there: 5 to 8, 41
  abbrev pub act_of : ℕ → ℕ → Token → Result Act Fault
  act_of place c token.End = Err (fault_at cause.TextOver (length text))
  act_of place c token.Space = Ok (adds space)
  act_of place c (token.Word at n) = word_act at (take n (drop at text)) (meaning (take n (drop at text)))
  act_of place c (token.Control w) = control_act place c w
  act_of place c token.Ampersand = next_act place c tabs_on
  act_of place c token.Hash = misplaced place
  act_of place c token.OpenBrace = misplaced place
  act_of place c token.CloseBrace = misplaced place

  module _ (count : ℕ) (wide : Item → ℕ → ℤ) (m : Room) where
    -- one more item of a begun cell: 10, 22
    abbrev pub item_step : Ledger → Item → ℕ → ℕ → Outcome
    item_step g i place end = unless_at place (add_verdict count wide P m g i) (goes_on end (with_item i g))

    -- the length behind \kern is a token of its own: 3, then 10 and 22
    abbrev pub kern_step : Ledger → ℕ → Result Length Fault → Outcome
    kern_step g at (Ok l) = item_step g (kern l.sp) at l.end
    kern_step g at (Err f) = refuses f

    -- what a begun cell makes of a token
    abbrev pub act_step : Ledger → ℕ → ℕ → Act → Outcome
    act_step g place end (adds i) = item_step g i place end
    act_step g place end kerns = kern_step g end (length_at text end)
    act_step g place end tabs_on = unless_at place (tab_verdict P m g (column_of g.hand)) (goes_on end (tabbed P g))
    act_step g place end spans_on = unless_at place (span_verdict P m g (column_of g.hand)) (goes_on end (spanned P g))
    act_step g place end lays_row = lies end (laid P g)

    abbrev pub begun_step : Ledger → ℕ → ℕ → Result Act Fault → Outcome
    begun_step g place end (Ok a) = act_step g place end a
    begun_step g place end (Err f) = refuses f

    -- a fresh cell is started at its first token: start's 10 stands there
    abbrev pub start_step : Ledger → ℕ → ℕ → Result Act Fault → Outcome
    start_step g place end (Ok a) = unless_at place (start_verdict count wide P g (column_of g.hand)) (act_step (started P g) place end a)
    start_step g place end (Err f) = refuses f

    -- what a fresh cell makes of a token: spaces are dropped, \omit is its first mark, all else starts it
    abbrev pub fresh_by : Lead → Ledger → ℕ → ℕ → Result Act Fault → Outcome
    fresh_by drops g place end a = goes_on end g
    fresh_by bares g place end a = goes_on end (omitted g)
    fresh_by begins g place end a = start_step g place end a

    -- what the row in hand makes of a token
    abbrev pub hand_step : Ledger → ℕ → Lexeme → Option OpenRow → Outcome
    hand_step g place l None = refuses foreign_cell
    hand_step g place l (Some h) = cond h.begun (begun_step g place l.end (act_of place h.column l.token)) (fresh_by (lead_of l.token) g place l.end (act_of place h.column l.token))

    abbrev pub lexed_step : Ledger → ℕ → Result Lexeme Fault → Outcome
    lexed_step g place (Ok l) = hand_step g place l g.hand
    lexed_step g place (Err f) = refuses f

    -- one token of a row
    abbrev pub row_step : Ledger → ℕ → Outcome
    row_step g place = lexed_step g place (token_at text place)

    -- the tokens from here on, at most so many
    unfoldable pub row_by : ℕ → ℕ → Ledger → Result LineRead Fault
    row_by zero place g = Err (fault_at cause.TextOver (length text))
    row_by (suc n) place g = onward (row_step g place) (row_by n)

    -- where take is refused, its 22 stands at the line's first token, behind that token's 5 to 8, 41 and 10
    abbrev pub too_wide : Ledger → Act → Option Fault
    too_wide g (adds i) = when (beyond count (λ k. (natural wide (items_now g.hand) k +ℤ wide i k) +ℤ natural wide (owed_of P g.hand) k)) entry_wide
    too_wide g kerns = None
    too_wide g tabs_on = None
    too_wide g spans_on = None
    too_wide g lays_row = None

    abbrev pub the_fault : Option Fault → Fault → Fault
    the_fault None f = f
    the_fault (Some e) f = e

    abbrev pub crowded_act : Fault → Ledger → ℕ → Result Act Fault → Fault
    crowded_act full g place (Ok a) = moved_to place (the_fault (first_of (start_verdict count wide P (opened g) 0 ∷ too_wide (started P (opened g)) a ∷ [])) full)
    crowded_act full g place (Err f) = f

    abbrev pub crowded_by : Lead → Fault → Ledger → ℕ → Result Act Fault → Fault
    crowded_by drops full g place a = crowded_act full g place a
    crowded_by bares full g place a = moved_to place full
    crowded_by begins full g place a = crowded_act full g place a

    -- the first token of a row opens it
    abbrev pub first_step : Option Fault → Ledger → ℕ → Lexeme → Outcome
    first_step None g place l = hand_step (opened g) place l (opened g).hand
    first_step (Some full) g place l = refuses (crowded_by (lead_of l.token) full g place (act_of place 0 l.token))

    abbrev pub row_of : Ledger → ℕ → Lexeme → Result LineRead Fault
    row_of g place l = onward (first_step (take_verdict P m g) g place l) (row_by (length text))

    -- within \noalign any other token is misplaced, and the text's end is 8
    abbrev pub amiss : ℕ → Piece → Result LineRead Fault
    amiss place opens = Err (fault_at cause.Misplaced place)
    amiss place closes = Err (fault_at cause.Misplaced place)
    amiss place draws = Err (fault_at cause.Misplaced place)
    amiss place skips = Err (fault_at cause.Misplaced place)
    amiss place ends = Err (fault_at cause.TextOver (length text))
    amiss place other = Err (fault_at cause.Misplaced place)

    -- the brace behind it
    abbrev pub closed_by : Ledger → ℕ → ℕ → Piece → Result LineRead Fault
    closed_by g place end opens = amiss place opens
    closed_by g place end closes = Ok (record { bytes = end; ledger = g })
    closed_by g place end draws = amiss place draws
    closed_by g place end skips = amiss place skips
    closed_by g place end ends = amiss place ends
    closed_by g place end other = amiss place other

    abbrev pub closed_at : Ledger → ℕ → Result Lexeme Fault → Result LineRead Fault
    closed_at g place (Ok l) = closed_by g place l.end (piece_of l.token)
    closed_at g place (Err f) = Err f

    -- a gap's length is at least 0: else 3
    abbrev pub gap_by : Ledger → ℕ → Result Length Fault → Result LineRead Fault
    gap_by g place (Ok l) = cond (int_le (pos 0) l.sp) (closed_at (ruled_by (gap l.sp) g) l.end (token_at text l.end)) (Err (fault_at cause.BadLength place))
    gap_by g place (Err f) = Err f

    -- the rule, or the gap
    abbrev pub bare_by : Ledger → ℕ → ℕ → Piece → Result LineRead Fault
    bare_by g place end opens = amiss place opens
    bare_by g place end closes = amiss place closes
    bare_by g place end draws = closed_at (ruled_by rule g) end (token_at text end)
    bare_by g place end skips = gap_by g end (length_at text end)
    bare_by g place end ends = amiss place ends
    bare_by g place end other = amiss place other

    abbrev pub bare_at : Ledger → ℕ → Result Lexeme Fault → Result LineRead Fault
    bare_at g place (Ok l) = bare_by g place l.end (piece_of l.token)
    bare_at g place (Err f) = Err f

    -- the brace before it
    abbrev pub opened_by : Ledger → ℕ → ℕ → Piece → Result LineRead Fault
    opened_by g place end opens = bare_at g end (token_at text end)
    opened_by g place end closes = amiss place closes
    opened_by g place end draws = amiss place draws
    opened_by g place end skips = amiss place skips
    opened_by g place end ends = amiss place ends
    opened_by g place end other = amiss place other

    abbrev pub opened_at : Ledger → ℕ → Result Lexeme Fault → Result LineRead Fault
    opened_at g place (Ok l) = opened_by g place l.end (piece_of l.token)
    opened_at g place (Err f) = Err f

    -- \noalign: where there is no room for a line, 22 stands at it
    abbrev pub noalign_by : Option Fault → Ledger → ℕ → ℕ → Result LineRead Fault
    noalign_by None g place end = opened_at g end (token_at text end)
    noalign_by (Some f) g place end = Err (moved_to place f)

    -- a line from its first token on
    abbrev pub line_by : Bool → Ledger → ℕ → Lexeme → Result LineRead Fault
    line_by true g place l = noalign_by (rule_verdict P m g) g place l.end
    line_by false g place l = row_of g place l

    abbrev pub line_from : Ledger → ℕ → Result Lexeme Fault → Result LineRead Fault
    line_from g place (Ok l) = line_by (is_noalign l.token) g place l
    line_from g place (Err f) = Err f

    abbrev pub some_line : Result LineRead Fault → Result (Option LineRead) Fault
    some_line (Ok r) = Ok (Some r)
    some_line (Err f) = Err f

    -- the line at the start of a text: 21 first of all, nothing where only spaces are left, else what is read behind them
    abbrev pub line_of : Ledger → Result (Option LineRead) Fault
    line_of g = cond (is_open g.hand) (Err foreign_cell)
        (cond (nat_le (length text) (spaces_end text 0)) (Ok None)
        (some_line (line_from g (spaces_end text 0) (token_at text (spaces_end text 0)))))

-- what line answers: how many bytes the line has, or nothing, or why it is refused
abbrev pub bytes_read : Result (Option LineRead) Fault → Result (Option ℕ) Fault
bytes_read (Ok None) = Ok None
bytes_read (Ok (Some r)) = Ok (Some r.bytes)
bytes_read (Err f) = Err f

-- .. and the ledger afterwards: with the line, or as it was
abbrev pub ledger_after : Result (Option LineRead) Fault → Ledger → Ledger
ledger_after (Ok None) g = g
ledger_after (Ok (Some r)) g = r.ledger
ledger_after (Err f) g = g
