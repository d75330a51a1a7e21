-- An accepted row leaves the ledger that its calls leave. Assumes nothing.
use Rattle.std.proofs.Common.{◌≡◌, ℕ, zero, suc, ◌+◌, Bool, true, false, cond, not, eqb, List, [], ◌∷◌, ◌++◌, length, take, drop, ℤ, pos, int_le, nat_le, Some, None, Ok, Err, Option, Result, sym, refl, ap, ◌∙◌, subst, arith}
use Rattle.std.proofs.lemmas.Bool.Decides.{nat_tests}
use Rattle.std.proofs.lemmas.Int.{ints}
use Rattle.faults.specs.declared.Fault.{Fault}
use Rattle.faults.specs.declared.Cause.TheVariants as cause
use Rattle.faults.specs.Faults.{fault_at}
use Rattle.std.proofs.lemmas.Bool.{and_from}
use Rattle.reader.specs.declared.tokens.Control.TheVariants as control
use Rattle.reader.specs.declared.tokens.Lexeme.{Lexeme}
use Rattle.reader.specs.declared.tokens.Token.{Token}
use Rattle.reader.specs.declared.tokens.Token.TheVariants as token
use Rattle.reader.specs.Tokens.{token_at, spaces_end}
use Rattle.reader.specs.Reads.{Reaches, Onward}
use Rattle.reader.proofs.Reaching.{token-onward}
use Rattle.lengths.specs.declared.length.Length.{Length}
use Rattle.lengths.specs.Lengths.{length_at}
use Rattle.lengths.specs.Ranges.{NaturalRange}
use Rattle.lengths.specs.Gaps.{natural_fits}
use Rattle.lengths.proofs.Within.{length-within}
use Rattle.measure.specs.Asked.{measured_by, characterless}
use Rattle.measure.proofs.Worded.{measured-word}
use Rattle.ledger.specs.declared.records.Room.{Room}
use Rattle.ledger.specs.Ledger.{Item, cell_word, space, kern, hfil, Line, rule, gap, OpenRow, Ledger}
use Rattle.ledger.specs.Calls.{Template, template_at, begun_at, fresh_at, finished, v_owed, first_of, when, is_open, opened, ruled_by, gap_fits, take_verdict, rule_verdict}
use Rattle.ledger.specs.Refusals.{foreign_cell, table_full, out_of_range}
use Rattle.ledger.specs.Naturals.{fault_in, item_fault, start_verdict, add_verdict, put_verdict}
use Rattle.ledger.proofs.Words.{word-is}
use Rattle.lines.specs.Lines.{Act, adds, kerns, tabs_on, spans_on, lays_row, Lead, drops, bares, begins, lead_of, Outcome, goes_on, LineRead, unless_at, onward, started, with_item, laid, word_act, act_of, item_step, kern_step, act_step, begun_step, start_step, fresh_by, lexed_step, row_by, Piece, opens, closes, draws, skips, ends, other, piece_of, is_noalign, closed_by, closed_at, gap_by, bare_by, bare_at, opened_by, opened_at, noalign_by, first_step, line_by, line_from, some_line, line_of}
use Rattle.lines.specs.Spelled.{Call, takes, starts, puts, tabs, spans, gaps, LeadsTo, gap_calls, piece_calls, bare_calls, brace_calls, first_calls, calls_from, act_calls, length_calls, fresh_calls, token_calls, row_calls, verdict_of, called, Leads}

same-column : (c : ℕ) → eqb c c ≡ true
same-column c = grind (arith, nat_tests)

-- the cell in hand is the one that is begun, or fresh
here-begun : (h : OpenRow) → h.begun ≡ true → begun_at h.column (Some h) ≡ true
here-begun h b = ap (λ (x : Bool). cond x (eqb h.column h.column) false) b ∙ same-column h.column

here-fresh : (h : OpenRow) → h.begun ≡ false → fresh_at h.column (Some h) ≡ true
here-fresh h b = ap (λ (x : Bool). cond x false (eqb h.column h.column)) b ∙ same-column h.column

fits-range : (z : ℤ) → NaturalRange z → natural_fits z ≡ true
fits-range z h = grind (arith, ints, nat_tests, h.0, h.1)

module _ {X : Type 0} (text : List ℕ) (meaning : List ℕ → Result X ℕ) (P : List Template) where
  -- how far a token that was read reaches
  reached : (place : ℕ) (l : Lexeme) → token_at text place ≡ Ok l → Reaches text place l.end l.token
  reached place l e = subst (Onward text place) e (token-onward text place)

  -- what a token adds is an item with nothing wrong with it
  fine-word : (at n : ℕ) (r : Result X ℕ) (i : Item) → meaning (take n (drop at text)) ≡ r → measured_by meaning (take n (drop at text)) ≡ characterless r
      → word_act text meaning P at (take n (drop at text)) r ≡ Ok (adds i) → item_fault meaning i ≡ None
  fine-word at n (Ok x) i m q e = let same : cell_word (take n (drop at text)) ≡ i = cc in subst (λ (j : Item). item_fault meaning j ≡ None) same (ap fault_in q)
  fine-word at n (Err p) i m q e = cc

  next-adds : {Y : Type 0} (b : Bool) (f : Fault) (a : Act) (i : Item) → (a ≡ adds i → Y) → cond b (Err f) (Ok a) ≡ Ok (adds i) → Y
  next-adds true f a i k e = absurd cc
  next-adds false f a i k e = k cc

  fine-act : (place c end : ℕ) (t : Token) (i : Item) → Reaches text place end t → act_of text meaning P place c t ≡ Ok (adds i) → item_fault meaning i ≡ None
  fine-act place c end token.Space i r e = let same : space ≡ i = cc in subst (λ (j : Item). item_fault meaning j ≡ None) same refl
  fine-act place c end (token.Word at n) i r e =
      let w = take n (drop at text) in
      fine-word at n (meaning w) i refl (sym (measured-word meaning w (word-is text place at n end r) (characterless (meaning w)) refl)) e
  fine-act place c end token.End i r e = cc
  fine-act place c end (token.Control control.Kern) i r e = cc
  fine-act place c end (token.Control control.Hfil) i r e = let same : hfil ≡ i = cc in subst (λ (j : Item). item_fault meaning j ≡ None) same refl
  fine-act place c end (token.Control control.Tabskip) i r e = cc
  fine-act place c end (token.Control control.Cr) i r e = cc
  fine-act place c end (token.Control control.Omit) i r e = cc
  fine-act place c end (token.Control control.Span) i r e = next-adds _ _ spans_on i (λ x. cc) e
  fine-act place c end (token.Control control.Noalign) i r e = cc
  fine-act place c end (token.Control control.Hrule) i r e = cc
  fine-act place c end (token.Control control.Vskip) i r e = cc
  fine-act place c end token.Ampersand i r e = next-adds _ _ tabs_on i (λ x. cc) e
  fine-act place c end token.Hash i r e = cc
  fine-act place c end token.OpenBrace i r e = cc
  fine-act place c end token.CloseBrace i r e = cc

  module _ (count : ℕ) (wide : Item → ℕ → ℤ) (m : Room) where
    hand_of : List Line → OpenRow → Ledger
    hand_of ls h = record { lines = ls; hand = Some h }

    -- an item that is put without a refusal, in a begun cell
    put-none : (ls : List Line) (h : OpenRow) (i : Item) → h.begun ≡ true → item_fault meaning i ≡ None → add_verdict count wide P m (record { lines = ls; hand = Some h }) i ≡ None
        → put_verdict count wide meaning P m (record { lines = ls; hand = Some h }) h.column i ≡ None
    put-none ls h i b fine v =
        ap (λ (x : Bool). first_of (when (not x) foreign_cell ∷ item_fault meaning i ∷ add_verdict count wide P m (record { lines = ls; hand = Some h }) i ∷ [])) (here-begun h b)
        ∙ ap (λ (x : Option Fault). first_of (x ∷ add_verdict count wide P m (record { lines = ls; hand = Some h }) i ∷ [])) fine
        ∙ ap (λ (x : Option Fault). first_of (x ∷ [])) v

    kern-fine : (z : ℤ) → NaturalRange z → item_fault meaning (kern z) ≡ None
    kern-fine z h = ap (λ (x : Bool). when (not x) out_of_range) (fits-range z h)

    -- a step that was not refused
    unrefused : (p : ℕ) (v : Option Fault) (o : Outcome) (k : ℕ → Ledger → Result LineRead Fault) (r : LineRead) → onward (unless_at p v o) k ≡ Ok r → (v ≡ None) × (onward o k ≡ Ok r)
    unrefused p None o k r e = (refl, e)
    unrefused p (Some f) o k r e = cc

    -- with n tokens at most, a row leads on
    abbrev Onwards : ℕ → Type 0
    Onwards n = (place : ℕ) (ls : List Line) (h : OpenRow) (r : LineRead) → row_by text meaning P count wide m n place (record { lines = ls; hand = Some h }) ≡ Ok r
        → Leads text meaning P count wide m (row_calls text meaning P n h.begun h.column place) (record { lines = ls; hand = Some h }) r.ledger

    module _ (n : ℕ) (ih : Onwards n) (place : ℕ) (ls : List Line) (r : LineRead) where
      -- from a hand that differs in its stage at most
      next : (b : Bool) (end : ℕ) (h : OpenRow) → h.begun ≡ b → row_by text meaning P count wide m n end (record { lines = ls; hand = Some h }) ≡ Ok r
          → Leads text meaning P count wide m (row_calls text meaning P n b h.column end) (record { lines = ls; hand = Some h }) r.ledger
      next b end h is e = subst (λ (x : Bool). Leads text meaning P count wide m (row_calls text meaning P n x h.column end) (record { lines = ls; hand = Some h }) r.ledger) is (ih end ls h r e)

      item-leads : (at end : ℕ) (h : OpenRow) (i : Item) → h.begun ≡ true → item_fault meaning i ≡ None
          → onward (item_step text meaning P count wide m (record { lines = ls; hand = Some h }) i at end) (row_by text meaning P count wide m n) ≡ Ok r
          → Leads text meaning P count wide m (puts i ∷ row_calls text meaning P n true h.column end) (record { lines = ls; hand = Some h }) r.ledger
      unfolding Leads
      item-leads at end h i b fine e =
          let G : Ledger = record { lines = ls; hand = Some h } in
          let u = unrefused at (add_verdict count wide P m G i) (goes_on end (with_item i G)) (row_by text meaning P count wide m n) r e in
          let h' : OpenRow = record { column = h.column; begun = h.begun; omitted = h.omitted; first = h.first; done = h.done; items = h.items ++ i ∷ [] } in
          (put-none ls h i b fine u.0, next true end h' b u.1)

      kern-leads : (end : ℕ) (h : OpenRow) (l : Result Length Fault) → length_at text end ≡ l → h.begun ≡ true
          → onward (kern_step text meaning P count wide m (record { lines = ls; hand = Some h }) end l) (row_by text meaning P count wide m n) ≡ Ok r
          → Leads text meaning P count wide m (length_calls text meaning P (row_calls text meaning P n true h.column) l) (record { lines = ls; hand = Some h }) r.ledger
      kern-leads end h (Err f) is b e = cc
      kern-leads end h (Ok l) is b e = item-leads end l.end h (kern l.sp) b (kern-fine l.sp (length-within text end l is).0) e

      next-leads : (x : ℕ) (v : Option Fault) (c : Call) (end : ℕ) (h h' : OpenRow) → verdict_of text meaning P count wide m c (record { lines = ls; hand = Some h }) ≡ v
          → called text meaning P count wide m c (record { lines = ls; hand = Some h }) ≡ record { lines = ls; hand = Some h' } → h'.begun ≡ false
          → onward (unless_at x v (goes_on end (record { lines = ls; hand = Some h' }))) (row_by text meaning P count wide m n) ≡ Ok r
          → Leads text meaning P count wide m (c ∷ row_calls text meaning P n false h'.column end) (record { lines = ls; hand = Some h }) r.ledger
      unfolding Leads
      next-leads x v c end h h' is to b e =
          let u = unrefused x v (goes_on end (record { lines = ls; hand = Some h' })) (row_by text meaning P count wide m n) r e in
          (is ∙ u.0, subst (λ (g : Ledger). Leads text meaning P count wide m (row_calls text meaning P n false h'.column end) g r.ledger) (sym to) (next false end h' b u.1))

      -- what a begun cell's token leads to
      act-leads : (end : ℕ) (h : OpenRow) (a : Result Act Fault) → h.begun ≡ true → ((i : Item) → a ≡ Ok (adds i) → item_fault meaning i ≡ None)
          → onward (begun_step text meaning P count wide m (record { lines = ls; hand = Some h }) place end a) (row_by text meaning P count wide m n) ≡ Ok r
          → Leads text meaning P count wide m (act_calls text meaning P (row_calls text meaning P n) h.column end a) (record { lines = ls; hand = Some h }) r.ledger
      unfolding Leads
      act-leads end h (Err f) b fine e = cc
      act-leads end h (Ok (adds i)) b fine e = item-leads place end h i b (fine i refl) e
      act-leads end h (Ok kerns) b fine e = kern-leads end h (length_at text end) refl b e
      act-leads end h (Ok tabs_on) b fine e =
          next-leads place _ tabs end h (record { column = h.column + 1; begun = false; omitted = false; first = h.column + 1; done = h.done ++ finished P h ∷ []; items = [] }) refl refl refl e
      act-leads end h (Ok spans_on) b fine e =
          next-leads place _ spans end h (record { column = h.column + 1; begun = false; omitted = false; first = h.first; done = h.done; items = h.items ++ v_owed P h }) refl refl refl e
      act-leads end h (Ok lays_row) b fine e =
          let same : record { bytes = end; ledger = laid P (record { lines = ls; hand = Some h }) } ≡ r = cc in
          (ap (λ (x : Bool). first_of (when (not x) foreign_cell ∷ [])) (here-begun h b), ap (λ (x : LineRead). x.ledger) same)

      started-leads : (end : ℕ) (h : OpenRow) (a : Result Act Fault) → h.begun ≡ false → ((i : Item) → a ≡ Ok (adds i) → item_fault meaning i ≡ None)
          → onward (start_step text meaning P count wide m (record { lines = ls; hand = Some h }) place end a) (row_by text meaning P count wide m n) ≡ Ok r
          → Leads text meaning P count wide m (starts ∷ act_calls text meaning P (row_calls text meaning P n) h.column end a) (record { lines = ls; hand = Some h }) r.ledger
      unfolding Leads
      started-leads end h (Err f) b fine e = cc
      started-leads end h (Ok a) b fine e =
          let G : Ledger = record { lines = ls; hand = Some h } in
          let u = unrefused place (start_verdict count wide P G h.column) (act_step text meaning P count wide m (started P G) place end a) (row_by text meaning P count wide m n) r e in
          let h' : OpenRow = record { column = h.column; begun = true; omitted = false; first = h.first; done = h.done; items = h.items ++ (template_at P h.column).u } in
          (u.0, act-leads end h' (Ok a) refl fine u.1)

      -- what a fresh cell's token leads to
      fresh-leads : (end : ℕ) (h : OpenRow) (l : Lead) (a : Result Act Fault) → h.begun ≡ false → ((i : Item) → a ≡ Ok (adds i) → item_fault meaning i ≡ None)
          → onward (fresh_by text meaning P count wide m l (record { lines = ls; hand = Some h }) place end a) (row_by text meaning P count wide m n) ≡ Ok r
          → Leads text meaning P count wide m (fresh_calls text meaning P (row_calls text meaning P n) h.column end l a) (record { lines = ls; hand = Some h }) r.ledger
      unfolding Leads
      fresh-leads end h drops a b fine e = next false end h b e
      fresh-leads end h bares a b fine e =
          let h' : OpenRow = record { column = h.column; begun = true; omitted = true; first = h.first; done = h.done; items = h.items } in
          (ap (λ (x : Bool). first_of (when (not x) foreign_cell ∷ [])) (here-fresh h b), next true end h' refl e)
      fresh-leads end h begins a b fine e = started-leads end h a b fine e

      hand-leads : (h : OpenRow) (l : Lexeme) (b : Bool) → h.begun ≡ b → token_at text place ≡ Ok l
          → onward (cond b (begun_step text meaning P count wide m (record { lines = ls; hand = Some h }) place l.end (act_of text meaning P place h.column l.token))
          (fresh_by text meaning P count wide m (lead_of l.token) (record { lines = ls; hand = Some h }) place l.end (act_of text meaning P place h.column l.token))) (row_by text meaning P count wide m n) ≡ Ok r
          → Leads text meaning P count wide m (token_calls text meaning P (row_calls text meaning P n) b h.column place (Ok l)) (record { lines = ls; hand = Some h }) r.ledger
      hand-leads h l true is t e = act-leads l.end h (act_of text meaning P place h.column l.token) is (λ i q. fine-act place h.column l.end l.token i (reached place l t) q) e
      hand-leads h l false is t e = fresh-leads l.end h (lead_of l.token) (act_of text meaning P place h.column l.token) is (λ i q. fine-act place h.column l.end l.token i (reached place l t) q) e

      lexed-leads : (h : OpenRow) (t : Result Lexeme Fault) → token_at text place ≡ t
          → onward (lexed_step text meaning P count wide m (record { lines = ls; hand = Some h }) place t) (row_by text meaning P count wide m n) ≡ Ok r
          → Leads text meaning P count wide m (token_calls text meaning P (row_calls text meaning P n) h.begun h.column place t) (record { lines = ls; hand = Some h }) r.ledger
      lexed-leads h (Err f) is e = cc
      lexed-leads h (Ok l) is e = hand-leads h l h.begun refl is e

    -- a row that is read from a place on leaves what its calls leave
    pub row-leads : (n : ℕ) → Onwards n
    unfolding row_by row_calls
    row-leads zero place ls h r e = cc
    row-leads (suc n) place ls h r e = lexed-leads n (row-leads n) place ls r h (token_at text place) refl e

    -- a gap is refused where a rule would be, or for its length
    gap-none : (o l f : Bool) → f ≡ true → first_of (when o foreign_cell ∷ when l table_full ∷ []) ≡ None → first_of (when o foreign_cell ∷ when (not f) out_of_range ∷ when l table_full ∷ []) ≡ None
    gap-none true l f h e = cc
    gap-none false true f h e = cc
    gap-none false false true h e = refl
    gap-none false false false h e = cc

    fits-gap : (z : ℤ) → NaturalRange z → int_le (pos 0) z ≡ true → gap_fits z ≡ true
    fits-gap z h low = and_from (int_le (pos 0) z) (int_le z (pos 16777215)) low (grind (arith, ints, nat_tests, h.1))

    module _ (g : Ledger) (r : LineRead) where
      -- the brace behind leaves the ledger as it is
      closed-is : (g' : Ledger) (place : ℕ) (t : Result Lexeme Fault) → closed_at text meaning P count wide m g' place t ≡ Ok r → g' ≡ r.ledger
      closed-is g' place (Err f) e = cc
      closed-is g' place (Ok l) e = by (piece_of l.token) e
        where
          by : (p : Piece) → closed_by text meaning P count wide m g' place l.end p ≡ Ok r → g' ≡ r.ledger
          by opens e = cc
          by closes e = let same : record { bytes = l.end; ledger = g' } ≡ r = cc in ap (λ (x : LineRead). x.ledger) same
          by draws e = cc
          by skips e = cc
          by ends e = cc
          by other e = cc

      gap-leads : (place : ℕ) (l : Result Length Fault) → length_at text place ≡ l → rule_verdict P m g ≡ None → gap_by text meaning P count wide m g place l ≡ Ok r
          → Leads text meaning P count wide m (gap_calls text meaning P l) g r.ledger
      unfolding Leads
      gap-leads place (Err f) is v e = cc
      gap-leads place (Ok l) is v e = by (int_le (pos 0) l.sp) refl e
        where
          by : (b : Bool) → int_le (pos 0) l.sp ≡ b → cond b (closed_at text meaning P count wide m (ruled_by (gap l.sp) g) l.end (token_at text l.end)) (Err (fault_at cause.BadLength place)) ≡ Ok r
              → Leads text meaning P count wide m (gaps l.sp ∷ []) g r.ledger
          by true low e = (gap-none _ _ (gap_fits l.sp) (fits-gap l.sp (length-within text place l is).0 low) v, closed-is (ruled_by (gap l.sp) g) l.end (token_at text l.end) e)
          by false low e = cc

      bare-leads : (place : ℕ) (t : Result Lexeme Fault) → rule_verdict P m g ≡ None → bare_at text meaning P count wide m g place t ≡ Ok r
          → Leads text meaning P count wide m (bare_calls text meaning P t) g r.ledger
      unfolding Leads
      bare-leads place (Err f) v e = cc
      bare-leads place (Ok l) v e = by (piece_of l.token) e
        where
          by : (p : Piece) → bare_by text meaning P count wide m g place l.end p ≡ Ok r → Leads text meaning P count wide m (piece_calls text meaning P l.end p) g r.ledger
          by opens e = cc
          by closes e = cc
          by draws e = (v, closed-is (ruled_by rule g) l.end (token_at text l.end) e)
          by skips e = gap-leads l.end (length_at text l.end) refl v e
          by ends e = cc
          by other e = cc

      brace-leads : (place : ℕ) (t : Result Lexeme Fault) → rule_verdict P m g ≡ None → opened_at text meaning P count wide m g place t ≡ Ok r
          → Leads text meaning P count wide m (brace_calls text meaning P t) g r.ledger
      brace-leads place (Err f) v e = cc
      brace-leads place (Ok l) v e = by (piece_of l.token) e
        where
          by : (p : Piece) → opened_by text meaning P count wide m g place l.end p ≡ Ok r → Leads text meaning P count wide m (bare_calls text meaning P (token_at text l.end)) g r.ledger
          by opens e = bare-leads l.end (token_at text l.end) v e
          by closes e = cc
          by draws e = cc
          by skips e = cc
          by ends e = cc
          by other e = cc

      noalign-leads : (v : Option Fault) (place end : ℕ) → rule_verdict P m g ≡ v → noalign_by text meaning P count wide m v g place end ≡ Ok r
          → Leads text meaning P count wide m (brace_calls text meaning P (token_at text end)) g r.ledger
      noalign-leads None place end is e = brace-leads end (token_at text end) is e
      noalign-leads (Some f) place end is e = cc

      -- a row, from its first token on
      taken-leads : (v : Option Fault) (place : ℕ) (l : Lexeme) → take_verdict P m g ≡ v → token_at text place ≡ Ok l
          → onward (first_step text meaning P count wide m v g place l) (row_by text meaning P count wide m (length text)) ≡ Ok r
          → Leads text meaning P count wide m (takes ∷ row_calls text meaning P (suc (length text)) false 0 place) g r.ledger
      unfolding Leads row_calls
      taken-leads (Some f) place l is t e = cc
      taken-leads None place l is t e = (
        is,
        subst (λ (x : Result Lexeme Fault). Leads text meaning P count wide m (token_calls text meaning P (row_calls text meaning P (length text)) false 0 place x) (opened g) r.ledger) (sym t)
            (lexed-leads (length text) (row-leads (length text)) place g.lines r (record { column = 0; begun = false; omitted = false; first = 0; done = []; items = [] }) (Ok l) t e),
      )

      first-leads : (b : Bool) (place : ℕ) (l : Lexeme) → token_at text place ≡ Ok l → line_by text meaning P count wide m b g place l ≡ Ok r
          → Leads text meaning P count wide m (first_calls text meaning P b place l.end) g r.ledger
      first-leads true place l t e = noalign-leads (rule_verdict P m g) place l.end refl e
      first-leads false place l t e = taken-leads (take_verdict P m g) place l refl t e

      from-leads : (place : ℕ) (t : Result Lexeme Fault) → token_at text place ≡ t → line_from text meaning P count wide m g place t ≡ Ok r
          → Leads text meaning P count wide m (calls_from text meaning P place t) g r.ledger
      from-leads place (Err f) t e = cc
      from-leads place (Ok l) t e = first-leads (is_noalign l.token) place l t e

    -- an accepted line leaves the ledger that the calls it spells leave
    pub line-leads : (g : Ledger) → LeadsTo text meaning P count wide m g (line_of text meaning P count wide m g)
    line-leads g = by (is_open g.hand) (nat_le (length text) (spaces_end text 0)) (line_from text meaning P count wide m g (spaces_end text 0) (token_at text (spaces_end text 0))) refl
      where
        by : (o n : Bool) (x : Result LineRead Fault) → line_from text meaning P count wide m g (spaces_end text 0) (token_at text (spaces_end text 0)) ≡ x
            → LeadsTo text meaning P count wide m g (cond o (Err foreign_cell) (cond n (Ok None) (some_line text meaning P count wide m x)))
        by true n x e = tt
        by false true x e = tt
        by false false (Err f) e = tt
        by false false (Ok r) e = from-leads g r (spaces_end text 0) (token_at text (spaces_end text 0)) refl e
