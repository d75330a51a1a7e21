-- A preamble as it is read: templates and gaps, token by token, or the first fault. Assumes nothing.
use Rattle.std.specs.Prelude.{ℕ, zero, suc, ◌+◌, Bool, true, false, cond, List, [], ◌∷◌, ◌++◌, length, take, drop, Ok, Err, Result, nat_le, nat_lt}
use Rattle.faults.specs.declared.Fault.{Fault}
use Rattle.faults.specs.declared.Cause.TheVariants as cause
use Rattle.faults.specs.Faults.{fault_at}
use Rattle.reader.specs.declared.tokens.Control.{Control}
use Rattle.reader.specs.declared.tokens.Control.TheVariants as control
use Rattle.reader.specs.declared.tokens.Lexeme.{Lexeme}
use Rattle.reader.specs.declared.tokens.Token.{Token}
use Rattle.reader.specs.declared.tokens.Token.TheVariants as token
use Rattle.reader.specs.Tokens.{token_at}
use Rattle.lengths.specs.declared.length.Length.{Length}
use Rattle.lengths.specs.Gaps.{Parts}
use Rattle.lengths.specs.Glues.{GlueParts, glue_at}
use Rattle.lengths.specs.Lengths.{length_at}
use Rattle.ledger.specs.Ledger.{Item, template_word, space, kern, hfil}
use Rattle.ledger.specs.Calls.{Template}

-- how far the reading is: the place, the templates and gaps of the columns before, and the template in hand: its items
-- before and behind `#`, whether that has come, and the gap after its column
pub record Reading : Type 0 where
  pub place : ℕ
  pub templates : List Template
  pub gaps : List Parts
  pub u : List Item
  pub v : List Item
  pub marked : Bool
  pub gap : Parts

-- what was read: templates, a gap after each, and how many bytes
pub record Preamble : Type 0 where
  pub templates : List Template
  pub gaps : List Parts
  pub bytes : ℕ

-- the next state, the whole preamble, or a fault
pub data Outcome : Type 0 where
  goes_on : Reading → Outcome
  ends : Preamble → Outcome
  refuses : Fault → Outcome

-- nothing of the template in hand is there yet
abbrev pub bare : Reading → Bool
bare r = cond r.marked false (nat_le (length r.u) 0)

-- one more item of the part in hand, which has at most 64; the fault stands at the item's last token
abbrev pub taking : Reading → Item → ℕ → ℕ → Outcome
taking r i at end = cond r.marked
    (cond (nat_lt (length r.v) 64) (goes_on (record { place = end; templates = r.templates; gaps = r.gaps; u = r.u; v = r.v ++ i ∷ []; marked = true; gap = r.gap })) (refuses (fault_at cause.Full at)))
    (cond (nat_lt (length r.u) 64) (goes_on (record { place = end; templates = r.templates; gaps = r.gaps; u = r.u ++ i ∷ []; v = r.v; marked = false; gap = r.gap })) (refuses (fault_at cause.Full at)))

-- on to a place, with nothing else changed
abbrev pub skipping : Reading → ℕ → Outcome
skipping r end = goes_on (record { place = end; templates = r.templates; gaps = r.gaps; u = r.u; v = r.v; marked = r.marked; gap = r.gap })

-- a word that is measured, or the place of its byte without a character
abbrev pub word_taken : {X : Type 0} → Reading → Result X ℕ → ℕ → List ℕ → ℕ → Outcome
word_taken r (Ok x) at w end = taking r (template_word at w) r.place end
word_taken r (Err p) at w end = refuses (fault_at cause.NoCharacter (at + p))

abbrev pub kern_taken : Reading → ℕ → Result Length Fault → Outcome
kern_taken r at (Ok l) = taking r (kern l.sp) at l.end
kern_taken r at (Err f) = refuses f

abbrev pub gap_taken : Reading → Result GlueParts Fault → Outcome
gap_taken r (Ok g) = goes_on (record { place = g.end; templates = r.templates; gaps = r.gaps; u = r.u; v = r.v; marked = r.marked; gap = g.gap })
gap_taken r (Err f) = refuses f

-- the template in hand is one more column
abbrev pub templated : Reading → List Template
templated r = r.templates ++ record { u = r.u; v = r.v } ∷ []

abbrev pub gapped : Reading → List Parts
gapped r = r.gaps ++ r.gap ∷ []

-- `&` ends a template that has its `#`, and begins the next column, of which there are at most 32
abbrev pub parted : Reading → ℕ → Outcome
parted r end = cond r.marked
    (cond (nat_lt (length (templated r)) 32)
    (goes_on (record { place = end; templates = templated r; gaps = gapped r; u = []; v = []; marked = false; gap = r.gap }))
    (refuses (fault_at cause.TooManyColumns r.place)))
    (refuses (fault_at cause.TemplateMark r.place))

-- `\cr` ends the last template and the preamble
abbrev pub ended : Reading → ℕ → Outcome
ended r end = cond r.marked (ends (record { templates = templated r; gaps = gapped r; bytes = end })) (refuses (fault_at cause.TemplateMark r.place))

-- `#` once in a template
abbrev pub hashed : Reading → ℕ → Outcome
hashed r end = cond r.marked (refuses (fault_at cause.TemplateMark r.place))
    (goes_on (record { place = end; templates = r.templates; gaps = r.gaps; u = r.u; v = r.v; marked = true; gap = r.gap }))

abbrev pub misplaced : Reading → Outcome
misplaced r = refuses (fault_at cause.Misplaced r.place)

-- an outcome, followed by what comes after
abbrev pub onward : Outcome → (Reading → Result Preamble Fault) → Result Preamble Fault
onward (goes_on q) rest = rest q
onward (ends p) rest = Ok p
onward (refuses f) rest = Err f

module _ {X : Type 0} (text : List ℕ) (meaning : List ℕ → Result X ℕ) where
  abbrev pub by_control : Reading → ℕ → Control → Outcome
  by_control r end control.Kern = kern_taken r end (length_at text end)
  by_control r end control.Hfil = taking r hfil r.place end
  by_control r end control.Tabskip = gap_taken r (glue_at text end)
  by_control r end control.Cr = ended r end
  by_control r end control.Omit = misplaced r
  by_control r end control.Span = misplaced r
  by_control r end control.Noalign = misplaced r
  by_control r end control.Hrule = misplaced r
  by_control r end control.Vskip = misplaced r

  -- what a token makes of the reading
  abbrev pub by_token : Reading → ℕ → Token → Outcome
  by_token r end token.End = refuses (fault_at cause.TextOver (length text))
  by_token r end token.Space = cond (bare r) (skipping r end) (taking r space r.place end)
  by_token r end (token.Word at n) = word_taken r (meaning (take n (drop at text))) at (take n (drop at text)) end
  by_token r end (token.Control c) = by_control r end c
  by_token r end token.Ampersand = parted r end
  by_token r end token.Hash = hashed r end
  by_token r end token.OpenBrace = misplaced r
  by_token r end token.CloseBrace = misplaced r

  abbrev pub by_lexeme : Reading → Result Lexeme Fault → Outcome
  by_lexeme r (Ok l) = by_token r l.end l.token
  by_lexeme r (Err f) = refuses f

  -- one token of the preamble
  abbrev pub step : Reading → Outcome
  step r = by_lexeme r (token_at text r.place)

  -- the tokens from here on, at most so many
  unfoldable pub read_by : ℕ → Reading → Result Preamble Fault
  read_by zero r = Err (fault_at cause.TextOver (length text))
  read_by (suc n) r = onward (step r) (read_by n)

  -- the preamble at the start of a text, with the starting gap; every token but the end takes a byte
  abbrev pub preamble_of : Parts → Result Preamble Fault
  preamble_of start = read_by (suc (length text)) (record { place = 0; templates = []; gaps = []; u = []; v = []; marked = false; gap = start })
