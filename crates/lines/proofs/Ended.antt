-- Where a line that was read ends. Assumes nothing.
use Rattle.std.proofs.Common.{◌≡◌, ℕ, zero, suc, inl, inr, Bool, true, false, cond, List, length, take, drop, ℤ, pos, int_le, nat_le, Some, None, Ok, Err, Option, Result, refl, ap, subst}
use Rattle.faults.specs.declared.Fault.{Fault}
use Rattle.faults.specs.declared.Cause.TheVariants as cause
use Rattle.faults.specs.Faults.{fault_at}
use Rattle.reader.specs.declared.tokens.Control.TheVariants as control
use Rattle.reader.specs.declared.tokens.Lexeme.{Lexeme}
use Rattle.reader.specs.declared.tokens.Token.{Token}
use Rattle.reader.specs.declared.tokens.Token.TheVariants as token
use Rattle.reader.specs.Tokens.{token_at, spaces_end}
use Rattle.reader.specs.Reads.{Reaches, Onward}
use Rattle.reader.proofs.Reaching.{token-onward}
use Rattle.lengths.specs.declared.length.Length.{Length}
use Rattle.lengths.specs.Lengths.{length_at}
use Rattle.ledger.specs.declared.records.Room.{Room}
use Rattle.ledger.specs.Refusals.{foreign_cell}
use Rattle.ledger.specs.Ledger.{Item, rule, gap, OpenRow, Ledger}
use Rattle.ledger.specs.Calls.{Template, is_open, opened, ruled_by, take_verdict, rule_verdict}
use Rattle.lines.specs.Lines.{Act, adds, kerns, tabs_on, spans_on, lays_row, Lead, drops, bares, begins, lead_of, Outcome, goes_on, lies, refuses, LineRead, unless_at, onward, word_act, act_of, started, kern_step, act_step, begun_step, start_step, fresh_by, hand_step, lexed_step, row_by, Piece, opens, closes, draws, skips, ends, other, piece_of, is_noalign, closed_by, closed_at, gap_by, bare_by, bare_at, opened_by, opened_at, noalign_by, first_step, line_by, line_from, some_line, line_of}
use Rattle.lines.specs.Ended.{EndsLine, EndsAt}

module _ {X : Type 0} (text : List ℕ) (meaning : List ℕ → Result X ℕ) (P : List Template) where
  -- only \cr lays a row
  word-lays : (at : ℕ) (w : List ℕ) (r : Result X ℕ) → word_act text meaning P at w r ≡ Ok lays_row → ⊥
  word-lays at w (Ok x) e = cc
  word-lays at w (Err p) e = cc

  next-lays : (b : Bool) (f : Fault) (a : Act) → (a ≡ lays_row → ⊥) → cond b (Err f) (Ok a) ≡ Ok lays_row → ⊥
  next-lays true f a k e = cc
  next-lays false f a k e = k cc

  lays-cr : (place c : ℕ) (t : Token) → act_of text meaning P place c t ≡ Ok lays_row → t ≡ token.Control control.Cr
  lays-cr place c token.End e = cc
  lays-cr place c token.Space e = cc
  lays-cr place c (token.Word at n) e = absurd (word-lays at _ (meaning (take n (drop at text))) e)
  lays-cr place c (token.Control control.Kern) e = cc
  lays-cr place c (token.Control control.Hfil) e = cc
  lays-cr place c (token.Control control.Tabskip) e = cc
  lays-cr place c (token.Control control.Cr) e = refl
  lays-cr place c (token.Control control.Omit) e = cc
  lays-cr place c (token.Control control.Span) e = absurd (next-lays _ _ spans_on (λ x. cc) e)
  lays-cr place c (token.Control control.Noalign) e = cc
  lays-cr place c (token.Control control.Hrule) e = cc
  lays-cr place c (token.Control control.Vskip) e = cc
  lays-cr place c token.Ampersand e = absurd (next-lays _ _ tabs_on (λ x. cc) e)
  lays-cr place c token.Hash e = cc
  lays-cr place c token.OpenBrace e = cc
  lays-cr place c token.CloseBrace e = cc

  -- a token that ends a line lies in the text
  reaches-in : (place : ℕ) (l : Lexeme) → token_at text place ≡ Ok l → Reaches text place l.end l.token
  reaches-in place l e = subst (Onward text place) e (token-onward text place)

  cr-ends : (place : ℕ) (l : Lexeme) → token_at text place ≡ Ok l → l.token ≡ token.Control control.Cr → EndsLine text l.end
  cr-ends place l t c = record { place = place; last = l.token; closes = inl c; is = t; within = (subst (λ (x : Token). Reaches text place l.end x) c (reaches-in place l t)).inside }

  brace-ends : (place : ℕ) (l : Lexeme) → token_at text place ≡ Ok l → l.token ≡ token.CloseBrace → EndsLine text l.end
  brace-ends place l t c = record { place = place; last = l.token; closes = inr c; is = t; within = (subst (λ (x : Token). Reaches text place l.end x) c (reaches-in place l t)).inside }

  module _ (count : ℕ) (wide : Item → ℕ → ℤ) (m : Room) where
    -- a step that lays a row ends a line
    abbrev Lays : Outcome → Type 0
    Lays (goes_on p g) = Unit {0}
    Lays (lies p g) = EndsLine text p
    Lays (refuses f) = Unit {0}

    unless-lays : (p : ℕ) (v : Option Fault) (o : Outcome) → Lays o → Lays (unless_at p v o)
    unless-lays p None o k = k
    unless-lays p (Some f) o k = tt

    kern-lays : (g : Ledger) (end : ℕ) (l : Result Length Fault) → Lays (kern_step text meaning P count wide m g end l)
    kern-lays g end (Ok l) = unless-lays end _ (goes_on l.end _) tt
    kern-lays g end (Err f) = tt

    act-lays : (g : Ledger) (place end : ℕ) (a : Act) → (a ≡ lays_row → EndsLine text end) → Lays (act_step text meaning P count wide m g place end a)
    act-lays g place end (adds i) k = unless-lays place _ (goes_on end _) tt
    act-lays g place end kerns k = kern-lays g end (length_at text end)
    act-lays g place end tabs_on k = unless-lays place _ (goes_on end _) tt
    act-lays g place end spans_on k = unless-lays place _ (goes_on end _) tt
    act-lays g place end lays_row k = k refl

    begun-lays : (g : Ledger) (place end : ℕ) (a : Result Act Fault) → (a ≡ Ok lays_row → EndsLine text end) → Lays (begun_step text meaning P count wide m g place end a)
    begun-lays g place end (Ok a) k = act-lays g place end a (λ e. k (ap (λ (x : Act). Ok x) e))
    begun-lays g place end (Err f) k = tt

    start-lays : (g : Ledger) (place end : ℕ) (a : Result Act Fault) → (a ≡ Ok lays_row → EndsLine text end) → Lays (start_step text meaning P count wide m g place end a)
    start-lays g place end (Ok a) k = unless-lays place _ _ (act-lays (started P g) place end a (λ e. k (ap (λ (x : Act). Ok x) e)))
    start-lays g place end (Err f) k = tt

    fresh-lays : (g : Ledger) (place end : ℕ) (l : Lead) (a : Result Act Fault) → (a ≡ Ok lays_row → EndsLine text end) → Lays (fresh_by text meaning P count wide m l g place end a)
    fresh-lays g place end drops a k = tt
    fresh-lays g place end bares a k = tt
    fresh-lays g place end begins a k = start-lays g place end a k

    cond-lays : (b : Bool) (x y : Outcome) → Lays x → Lays y → Lays (cond b x y)
    cond-lays true x y j k = j
    cond-lays false x y j k = k

    hand-lays : (g : Ledger) (place : ℕ) (l : Lexeme) (h : Option OpenRow) → token_at text place ≡ Ok l → Lays (hand_step text meaning P count wide m g place l h)
    hand-lays g place l None t = tt
    hand-lays g place l (Some h) t =
        let k : act_of text meaning P place h.column l.token ≡ Ok lays_row → EndsLine text l.end = λ e. cr-ends place l t (lays-cr place h.column l.token e) in
        cond-lays h.begun _ _ (begun-lays g place l.end (act_of text meaning P place h.column l.token) k) (fresh-lays g place l.end (lead_of l.token) (act_of text meaning P place h.column l.token) k)

    lexed-lays : (g : Ledger) (place : ℕ) (t : Result Lexeme Fault) → token_at text place ≡ t → Lays (lexed_step text meaning P count wide m g place t)
    lexed-lays g place (Ok l) t = hand-lays g place l g.hand t
    lexed-lays g place (Err f) t = tt

    onward-ends : (o : Outcome) (k : ℕ → Ledger → Result LineRead Fault) (r : LineRead) → Lays o → ((p : ℕ) (g : Ledger) → k p g ≡ Ok r → EndsLine text r.bytes) → onward o k ≡ Ok r → EndsLine text r.bytes
    onward-ends (goes_on p g) k r l rest e = rest p g e
    onward-ends (lies p g) k r l rest e = let same : record { bytes = p; ledger = g } ≡ r = cc in subst (EndsLine text) (ap (λ (x : LineRead). x.bytes) same) l
    onward-ends (refuses f) k r l rest e = cc

    row-ends : (n place : ℕ) (g : Ledger) (r : LineRead) → row_by text meaning P count wide m n place g ≡ Ok r → EndsLine text r.bytes
    unfolding row_by
    row-ends zero place g r e = cc
    row-ends (suc n) place g r e = onward-ends _ (row_by text meaning P count wide m n) r (lexed-lays g place (token_at text place) refl) (λ p h. row-ends n p h r) e

    -- \noalign ends behind its brace
    closes-brace : (t : Token) → piece_of t ≡ closes → t ≡ token.CloseBrace
    closes-brace token.End e = cc
    closes-brace token.Space e = cc
    closes-brace (token.Word at n) e = cc
    closes-brace (token.Control control.Kern) e = cc
    closes-brace (token.Control control.Hfil) e = cc
    closes-brace (token.Control control.Tabskip) e = cc
    closes-brace (token.Control control.Cr) e = cc
    closes-brace (token.Control control.Omit) e = cc
    closes-brace (token.Control control.Span) e = cc
    closes-brace (token.Control control.Noalign) e = cc
    closes-brace (token.Control control.Hrule) e = cc
    closes-brace (token.Control control.Vskip) e = cc
    closes-brace token.Ampersand e = cc
    closes-brace token.Hash e = cc
    closes-brace token.OpenBrace e = cc
    closes-brace token.CloseBrace e = refl

    module _ (r : LineRead) where
      closed-ends : (g : Ledger) (place : ℕ) (t : Result Lexeme Fault) → token_at text place ≡ t → closed_at text meaning P count wide m g place t ≡ Ok r → EndsLine text r.bytes
      closed-ends g place (Err f) t e = cc
      closed-ends g place (Ok l) t e = by (piece_of l.token) refl e
        where
          by : (p : Piece) → piece_of l.token ≡ p → closed_by text meaning P count wide m g place l.end p ≡ Ok r → EndsLine text r.bytes
          by opens is e = cc
          by closes is e = let same : record { bytes = l.end; ledger = g } ≡ r = cc in subst (EndsLine text) (ap (λ (x : LineRead). x.bytes) same) (brace-ends place l t (closes-brace l.token is))
          by draws is e = cc
          by skips is e = cc
          by ends is e = cc
          by other is e = cc

      gap-ends : (g : Ledger) (place : ℕ) (l : Result Length Fault) → gap_by text meaning P count wide m g place l ≡ Ok r → EndsLine text r.bytes
      gap-ends g place (Err f) e = cc
      gap-ends g place (Ok l) e = by (int_le (pos 0) l.sp) e
        where
          by : (b : Bool) → cond b (closed_at text meaning P count wide m (ruled_by (gap l.sp) g) l.end (token_at text l.end)) (Err (fault_at cause.BadLength place)) ≡ Ok r → EndsLine text r.bytes
          by true e = closed-ends (ruled_by (gap l.sp) g) l.end (token_at text l.end) refl e
          by false e = cc

      bare-ends : (g : Ledger) (place : ℕ) (t : Result Lexeme Fault) → bare_at text meaning P count wide m g place t ≡ Ok r → EndsLine text r.bytes
      bare-ends g place (Err f) e = cc
      bare-ends g place (Ok l) e = by (piece_of l.token) e
        where
          by : (p : Piece) → bare_by text meaning P count wide m g place l.end p ≡ Ok r → EndsLine text r.bytes
          by opens e = cc
          by closes e = cc
          by draws e = closed-ends (ruled_by rule g) l.end (token_at text l.end) refl e
          by skips e = gap-ends g l.end (length_at text l.end) e
          by ends e = cc
          by other e = cc

      opened-ends : (g : Ledger) (place : ℕ) (t : Result Lexeme Fault) → opened_at text meaning P count wide m g place t ≡ Ok r → EndsLine text r.bytes
      opened-ends g place (Err f) e = cc
      opened-ends g place (Ok l) e = by (piece_of l.token) e
        where
          by : (p : Piece) → opened_by text meaning P count wide m g place l.end p ≡ Ok r → EndsLine text r.bytes
          by opens e = bare-ends g l.end (token_at text l.end) e
          by closes e = cc
          by draws e = cc
          by skips e = cc
          by ends e = cc
          by other e = cc

      noalign-ends : (v : Option Fault) (g : Ledger) (place end : ℕ) → noalign_by text meaning P count wide m v g place end ≡ Ok r → EndsLine text r.bytes
      noalign-ends None g place end e = opened-ends g end (token_at text end) e
      noalign-ends (Some f) g place end e = cc

      taken-ends : (v : Option Fault) (g : Ledger) (place : ℕ) (l : Lexeme) → token_at text place ≡ Ok l
          → onward (first_step text meaning P count wide m v g place l) (row_by text meaning P count wide m (length text)) ≡ Ok r → EndsLine text r.bytes
      taken-ends None g place l t e = onward-ends _ (row_by text meaning P count wide m (length text)) r (hand-lays (opened g) place l (opened g).hand t) (λ p h. row-ends (length text) p h r) e
      taken-ends (Some f) g place l t e = cc

      first-ends : (b : Bool) (g : Ledger) (place : ℕ) (l : Lexeme) → token_at text place ≡ Ok l → line_by text meaning P count wide m b g place l ≡ Ok r → EndsLine text r.bytes
      first-ends true g place l t e = noalign-ends (rule_verdict P m g) g place l.end e
      first-ends false g place l t e = taken-ends (take_verdict P m g) g place l t e

      from-ends : (g : Ledger) (place : ℕ) (t : Result Lexeme Fault) → token_at text place ≡ t → line_from text meaning P count wide m g place t ≡ Ok r → EndsLine text r.bytes
      from-ends g place (Err f) t e = cc
      from-ends g place (Ok l) t e = first-ends (is_noalign l.token) g place l t e

    -- a line that was read ends behind its \cr, or behind \noalign's brace
    pub line-ends : (g : Ledger) → EndsAt text (line_of text meaning P count wide m g)
    line-ends g = by (is_open g.hand) (nat_le (length text) (spaces_end text 0)) (line_from text meaning P count wide m g (spaces_end text 0) (token_at text (spaces_end text 0))) refl
      where
        by : (o n : Bool) (x : Result LineRead Fault) → line_from text meaning P count wide m g (spaces_end text 0) (token_at text (spaces_end text 0)) ≡ x
            → EndsAt text (cond o (Err foreign_cell) (cond n (Ok None) (some_line text meaning P count wide m x)))
        by true n x e = tt
        by false true x e = tt
        by false false (Err f) e = tt
        by false false (Ok r) e = from-ends r g (spaces_end text 0) (token_at text (spaces_end text 0)) refl e
