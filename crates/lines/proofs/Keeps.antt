-- What holds of every ledger still holds after the calls that a line spells.
use Rattle.std.proofs.Common.{◌≡◌, ℕ, zero, suc, ◌+◌, Bool, true, false, cond, List, [], ◌∷◌, length, take, drop, ℤ, Some, None, Ok, Err, Option, Result, sym, subst}
use Rattle.std.specs.List.{AllByRecursion}
use Rattle.faults.specs.declared.Fault.{Fault}
use Rattle.reader.specs.declared.tokens.Control.TheVariants as control
use Rattle.reader.specs.declared.tokens.Lexeme.{Lexeme}
use Rattle.reader.specs.declared.tokens.Token.{Token}
use Rattle.reader.specs.declared.tokens.Token.TheVariants as token
use Rattle.reader.specs.Tokens.{token_at, spaces_end}
use Rattle.lengths.specs.declared.length.Length.{Length}
use Rattle.lengths.specs.Lengths.{length_at}
use Rattle.ledger.specs.declared.records.Room.{Room}
use Rattle.ledger.specs.Ledger.{Item, Ledger}
use Rattle.ledger.specs.Calls.{Template}
use Rattle.ledger.specs.Lawful.{FineTemplates, FineSized, Lawful}
use Rattle.ledger.proofs.Accepted.{OfCell}
use Rattle.ledger.proofs.Steps.{lawful-opened, lawful-omits, lawful-starts, lawful-puts, lawful-tabs, lawful-carries, lawful-lays, lawful-rule, lawful-gap}
use Rattle.lines.specs.Lines.{Act, adds, kerns, tabs_on, spans_on, lays_row, Lead, drops, bares, begins, lead_of, Piece, opens, closes, draws, skips, ends, other, piece_of, is_noalign, column_of, word_act, act_of}
use Rattle.lines.specs.Spelled.{Call, takes, omits, starts, puts, tabs, spans, lays, rules, gaps, length_calls, act_calls, fresh_calls, token_calls, row_calls, gap_calls, piece_calls, bare_calls, brace_calls, first_calls, calls_from, line_calls, verdict_of, called, Leads}
use Rattle.lines.specs.Laws.{ReadsLine}

-- a call puts no word of a template
abbrev Own : Call → Type 0
Own takes = Unit {0}
Own omits = Unit {0}
Own starts = Unit {0}
Own (puts i) = OfCell i
Own tabs = Unit {0}
Own spans = Unit {0}
Own lays = Unit {0}
Own rules = Unit {0}
Own (gaps z) = Unit {0}

abbrev AllOwn : List Call → Type 0
AllOwn cs = AllByRecursion Own cs

module _ {X : Type 0} (text : List ℕ) (meaning : List ℕ → Result X ℕ) (P : List Template) where
  -- what a token adds is no word of a template
  abbrev AddsOwn : Result Act Fault → Type 0
  AddsOwn (Ok (adds i)) = OfCell i
  AddsOwn (Ok kerns) = Unit {0}
  AddsOwn (Ok tabs_on) = Unit {0}
  AddsOwn (Ok spans_on) = Unit {0}
  AddsOwn (Ok lays_row) = Unit {0}
  AddsOwn (Err f) = Unit {0}

  own-word : (at : ℕ) (w : List ℕ) (r : Result X ℕ) → AddsOwn (word_act text meaning P at w r)
  own-word at w (Ok x) = tt
  own-word at w (Err p) = tt

  own-next : (b : Bool) (f : Fault) (a : Act) → AddsOwn (Ok a) → AddsOwn (cond b (Err f) (Ok a))
  own-next true f a h = tt
  own-next false f a h = h

  own-act : (place c : ℕ) (t : Token) → AddsOwn (act_of text meaning P place c t)
  own-act place c token.End = tt
  own-act place c token.Space = tt
  own-act place c (token.Word at n) = own-word at (take n (drop at text)) (meaning (take n (drop at text)))
  own-act place c (token.Control control.Kern) = tt
  own-act place c (token.Control control.Hfil) = tt
  own-act place c (token.Control control.Tabskip) = tt
  own-act place c (token.Control control.Cr) = tt
  own-act place c (token.Control control.Omit) = tt
  own-act place c (token.Control control.Span) = own-next _ _ spans_on tt
  own-act place c (token.Control control.Noalign) = tt
  own-act place c (token.Control control.Hrule) = tt
  own-act place c (token.Control control.Vskip) = tt
  own-act place c token.Ampersand = own-next _ _ tabs_on tt
  own-act place c token.Hash = tt
  own-act place c token.OpenBrace = tt
  own-act place c token.CloseBrace = tt

  module _ (k : Bool → ℕ → ℕ → List Call) (own : (b : Bool) (c e : ℕ) → AllOwn (k b c e)) where
    own-length : (c : ℕ) (r : Result Length Fault) → AllOwn (length_calls text meaning P (k true c) r)
    own-length c (Ok l) = (tt, own true c l.end)
    own-length c (Err f) = tt

    own-acts : (c end : ℕ) (a : Result Act Fault) → AddsOwn a → AllOwn (act_calls text meaning P k c end a)
    own-acts c end (Ok (adds i)) h = (h, own true c end)
    own-acts c end (Ok kerns) h = own-length c (length_at text end)
    own-acts c end (Ok tabs_on) h = (tt, own false (c + 1) end)
    own-acts c end (Ok spans_on) h = (tt, own false (c + 1) end)
    own-acts c end (Ok lays_row) h = (tt, tt)
    own-acts c end (Err f) h = tt

    own-fresh : (c end : ℕ) (l : Lead) (a : Result Act Fault) → AddsOwn a → AllOwn (fresh_calls text meaning P k c end l a)
    own-fresh c end drops a h = own false c end
    own-fresh c end bares a h = (tt, own true c end)
    own-fresh c end begins a h = (tt, own-acts c end a h)

    own-token : (b : Bool) (c place : ℕ) (r : Result Lexeme Fault) → AllOwn (token_calls text meaning P k b c place r)
    own-token true c place (Ok l) = own-acts c l.end (act_of text meaning P place c l.token) (own-act place c l.token)
    own-token false c place (Ok l) = own-fresh c l.end (lead_of l.token) (act_of text meaning P place c l.token) (own-act place c l.token)
    own-token true c place (Err f) = tt
    own-token false c place (Err f) = tt

  own-row : (n : ℕ) (b : Bool) (c place : ℕ) → AllOwn (row_calls text meaning P n b c place)
  unfolding row_calls
  own-row zero b c place = tt
  own-row (suc n) b c place = own-token (row_calls text meaning P n) (own-row n) b c place (token_at text place)

  own-gap : (r : Result Length Fault) → AllOwn (gap_calls text meaning P r)
  own-gap (Ok l) = (tt, tt)
  own-gap (Err f) = tt

  own-piece : (end : ℕ) (p : Piece) → AllOwn (piece_calls text meaning P end p)
  own-piece end opens = tt
  own-piece end closes = tt
  own-piece end draws = (tt, tt)
  own-piece end skips = own-gap (length_at text end)
  own-piece end ends = tt
  own-piece end other = tt

  own-bare : (r : Result Lexeme Fault) → AllOwn (bare_calls text meaning P r)
  own-bare (Ok l) = own-piece l.end (piece_of l.token)
  own-bare (Err f) = tt

  own-brace : (r : Result Lexeme Fault) → AllOwn (brace_calls text meaning P r)
  own-brace (Ok l) = own-bare (token_at text l.end)
  own-brace (Err f) = tt

  own-first : (b : Bool) (place end : ℕ) → AllOwn (first_calls text meaning P b place end)
  own-first true place end = own-brace (token_at text end)
  own-first false place end = (tt, own-row (suc (length text)) false 0 place)

  own-from : (place : ℕ) (r : Result Lexeme Fault) → AllOwn (calls_from text meaning P place r)
  own-from place (Ok l) = own-first (is_noalign l.token) place l.end
  own-from place (Err f) = tt

  own-line : AllOwn (line_calls text meaning P)
  own-line = own-from (spaces_end text 0) (token_at text (spaces_end text 0))

  module _ (count : ℕ) (wide : Item → ℕ → ℤ) (m : Room) (sized : FineSized meaning count wide) (fits : FineTemplates meaning P) where
    abbrev Law : Ledger → Type 0
    Law g = Lawful meaning count wide P g

    -- a call that is accepted
    call-keeps : (c : Call) (g : Ledger) → Own c → verdict_of text meaning P count wide m c g ≡ None → Law g → Law (called text meaning P count wide m c g)
    call-keeps takes g o v l = lawful-opened meaning count wide P sized fits g l
    call-keeps omits g o v l = lawful-omits meaning count wide P sized fits (column_of g.hand) g v l
    call-keeps starts g o v l = lawful-starts meaning count wide P sized fits (column_of g.hand) g v l
    call-keeps (puts i) g o v l = lawful-puts meaning count wide P sized fits i m (column_of g.hand) g o v l
    call-keeps tabs g o v l = lawful-tabs meaning count wide P sized fits g l
    call-keeps spans g o v l = lawful-carries meaning count wide P sized fits m (column_of g.hand) g v l
    call-keeps lays g o v l = lawful-lays meaning count wide P sized fits g l
    call-keeps rules g o v l = lawful-rule meaning count wide P sized fits g l
    call-keeps (gaps z) g o v l = lawful-gap meaning count wide P sized fits m z g v l

    calls-keep : (cs : List Call) (g g' : Ledger) → AllOwn cs → Leads text meaning P count wide m cs g g' → Law g → Law g'
    unfolding Leads
    calls-keep [] g g' o e l = subst Law e l
    calls-keep (c ∷ cs) g g' o e l = calls-keep cs (called text meaning P count wide m c g) g' o.1 e.1 (call-keeps c g o.0 e.0 l)

    -- a line
    pub line-keeps : (g g' : Ledger) (r : Result (Option ℕ) Fault) → ReadsLine text meaning P count wide m g g' r → Law g → Law g'
    line-keeps g g' (Ok (Some n)) h l = calls-keep (line_calls text meaning P) g g' own-line h.1 l
    line-keeps g g' (Ok None) h l = subst Law (sym h) l
    line-keeps g g' (Err f) h l = subst Law (sym h.0) l
