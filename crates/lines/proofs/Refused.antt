-- A refusal is the first fault of the leftmost token that is at fault. Assumes nothing.
use Rattle.std.proofs.Common.{◌≡◌, ℕ, zero, suc, inl, inr, nat_le, ◌+◌, ◌<◌, ◌≤◌, Bool, true, false, cond, List, [], ◌∷◌, length, ℤ, pos, int_le, Some, None, Ok, Err, Option, Result, sym, refl, ap, ◌∙◌, subst, arith}
use Rattle.faults.specs.declared.Fault.{Fault}
use Rattle.faults.specs.declared.Cause.TheVariants as cause
use Rattle.faults.specs.Faults.{fault_at}
use Rattle.reader.specs.declared.tokens.Lexeme.{Lexeme}
use Rattle.reader.specs.declared.tokens.Token.{Token}
use Rattle.reader.specs.declared.tokens.Token.TheVariants as token
use Rattle.reader.specs.Tokens.{token_at, spaces_end}
use Rattle.reader.specs.Reads.{Reaches, Onward}
use Rattle.reader.proofs.Reaching.{token-onward}
use Rattle.lengths.specs.declared.length.Length.{Length}
use Rattle.lengths.specs.Lengths.{length_at}
use Rattle.lengths.proofs.Within.{length-within}
use Rattle.ledger.specs.declared.records.Room.{Room}
use Rattle.ledger.specs.Ledger.{Item, rule, gap, OpenRow, Ledger}
use Rattle.ledger.specs.Refusals.{foreign_cell}
use Rattle.ledger.specs.Calls.{Template, first_of, is_open, opened, ruled_by, take_verdict, rule_verdict}
use Rattle.std.proofs.lemmas.Bool.Decides.{nat_tests}
use Rattle.ledger.specs.Naturals.{start_verdict}
use Rattle.lines.specs.Lines.{Act, adds, kerns, tabs_on, spans_on, lays_row, Lead, drops, bares, begins, lead_of, Outcome, goes_on, lies, refuses, LineRead, moved_to, unless_at, onward, column_of, started, act_of, kern_step, act_step, begun_step, start_step, fresh_by, hand_step, lexed_step, row_step, row_by, the_fault, crowded_act, crowded_by, first_step, is_noalign, line_by, line_from, some_line, line_of, Piece, opens, closes, draws, skips, ends, other, piece_of, closed_by, closed_at, gap_by, bare_by, bare_at, opened_by, opened_at, noalign_by}
use Rattle.lines.specs.Bares.{fault_amiss}
use Rattle.lines.specs.Refused.{closed_by_tests, closed_tests, gap_tests, bare_by_tests, bare_tests, opened_by_tests, opened_tests, crowded_acts, crowded_tests, RowRefused, FirstRefused, LexedRefused, RefusesAt, at_place, length_tests, own_tests, begun_tests, start_tests, fresh_tests, hand_tests, lexed_tests, token_tests, Refused, here, later}

-- what tests say of an outcome: a refusal by the first that fails, and else none
abbrev Says : Option Fault → Outcome → Type 0
Says None (goes_on p g) = Unit {0}
Says None (lies p g) = Unit {0}
Says None (refuses f) = ⊥
Says (Some e) (goes_on p g) = ⊥
Says (Some e) (lies p g) = ⊥
Says (Some e) (refuses f) = e ≡ f

unless-says : (p : ℕ) (v : Option Fault) (o : Outcome) (ts : List (Option Fault)) → Says (first_of ts) o → Says (first_of (at_place p v ∷ ts)) (unless_at p v o)
unless-says p None o ts s = s
unless-says p (Some f) o ts s = refl

drops-begins : drops ≡ begins → ⊥
drops-begins e = cc

bares-begins : bares ≡ begins → ⊥
bares-begins e = cc

-- what does not begin a cell is no end of the text
lead-further : (text : List ℕ) (place e : ℕ) (t : Token) → (lead_of t ≡ begins → ⊥) → Reaches text place e t → (place < e) × (e ≤ length text)
lead-further text place e token.End never f = absurd (never refl)
lead-further text place e token.Space never f = (f.further, f.inside)
lead-further text place e (token.Word w n) never f = (f.further, f.inside)
lead-further text place e (token.Control w) never f = (f.further, f.inside)
lead-further text place e token.Ampersand never f = (f.further, f.inside)
lead-further text place e token.Hash never f = (f.further, f.inside)
lead-further text place e token.OpenBrace never f = (f.further, f.inside)
lead-further text place e token.CloseBrace never f = (f.further, f.inside)

module _ {X : Type 0} (text : List ℕ) (meaning : List ℕ → Result X ℕ) (P : List Template) (count : ℕ) (wide : Item → ℕ → ℤ) (m : Room) where
  kern-says : (g : Ledger) (end : ℕ) (l : Result Length Fault) → Says (first_of (length_tests text meaning P count wide m g end l)) (kern_step text meaning P count wide m g end l)
  kern-says g end (Ok l) = unless-says end _ (goes_on l.end _) [] tt
  kern-says g end (Err f) = refl

  own-says : (g : Ledger) (place end : ℕ) (a : Act) → Says (first_of (own_tests text meaning P count wide m g place end a)) (act_step text meaning P count wide m g place end a)
  own-says g place end (adds i) = unless-says place _ (goes_on end _) [] tt
  own-says g place end kerns = kern-says g end (length_at text end)
  own-says g place end tabs_on = unless-says place _ (goes_on end _) [] tt
  own-says g place end spans_on = unless-says place _ (goes_on end _) [] tt
  own-says g place end lays_row = tt

  begun-says : (g : Ledger) (place end : ℕ) (a : Result Act Fault) → Says (first_of (begun_tests text meaning P count wide m g place end a)) (begun_step text meaning P count wide m g place end a)
  begun-says g place end (Ok a) = own-says g place end a
  begun-says g place end (Err f) = refl

  start-says : (g : Ledger) (place end : ℕ) (a : Result Act Fault) → Says (first_of (start_tests text meaning P count wide m g place end a)) (start_step text meaning P count wide m g place end a)
  start-says g place end (Ok a) = unless-says place (start_verdict count wide P g (column_of g.hand)) (act_step text meaning P count wide m (started P g) place end a) (own_tests text meaning P count wide m (started P g) place end a) (own-says (started P g) place end a)
  start-says g place end (Err f) = refl

  fresh-says : (g : Ledger) (place end : ℕ) (l : Lead) (a : Result Act Fault) → Says (first_of (fresh_tests text meaning P count wide m l g place end a)) (fresh_by text meaning P count wide m l g place end a)
  fresh-says g place end drops a = tt
  fresh-says g place end bares a = tt
  fresh-says g place end begins a = start-says g place end a

  cond-says : (b : Bool) (ts us : List (Option Fault)) (o q : Outcome) → Says (first_of ts) o → Says (first_of us) q → Says (first_of (cond b ts us)) (cond b o q)
  cond-says true ts us o q s t = s
  cond-says false ts us o q s t = t

  hand-says : (g : Ledger) (place : ℕ) (l : Lexeme) (h : Option OpenRow) → Says (first_of (hand_tests text meaning P count wide m g place l h)) (hand_step text meaning P count wide m g place l h)
  hand-says g place l None = refl
  hand-says g place l (Some h) =
      cond-says h.begun _ _ _ _ (begun-says g place l.end (act_of text meaning P place h.column l.token)) (fresh-says g place l.end (lead_of l.token) (act_of text meaning P place h.column l.token))

  lexed-says : (g : Ledger) (place : ℕ) (t : Result Lexeme Fault) → Says (first_of (lexed_tests text meaning P count wide m g place t)) (lexed_step text meaning P count wide m g place t)
  lexed-says g place (Ok l) = hand-says g place l g.hand
  lexed-says g place (Err f) = refl

  -- where a token goes on, it takes a byte
  abbrev Goes : ℕ → Outcome → Type 0
  Goes p (goes_on q h) = (p < q) × (q ≤ length text)
  Goes p (lies q h) = Unit {0}
  Goes p (refuses f) = Unit {0}

  unless-goes : (p at : ℕ) (v : Option Fault) (o : Outcome) → Goes p o → Goes p (unless_at at v o)
  unless-goes p at None o k = k
  unless-goes p at (Some f) o k = tt

  kern-goes : (p : ℕ) (g : Ledger) (end : ℕ) (l : Result Length Fault) → length_at text end ≡ l → p < end → Goes p (kern_step text meaning P count wide m g end l)
  kern-goes p g end (Ok l) is far = let w = length-within text end l is in unless-goes p end _ (goes_on l.end _) (omega (arith, w.1), w.2)
  kern-goes p g end (Err f) is far = tt

  own-goes : (p : ℕ) (g : Ledger) (end : ℕ) (a : Act) → (p < end) × (end ≤ length text) → Goes p (act_step text meaning P count wide m g p end a)
  own-goes p g end (adds i) far = unless-goes p p _ (goes_on end _) far
  own-goes p g end kerns far = kern-goes p g end (length_at text end) refl far.0
  own-goes p g end tabs_on far = unless-goes p p _ (goes_on end _) far
  own-goes p g end spans_on far = unless-goes p p _ (goes_on end _) far
  own-goes p g end lays_row far = tt

  -- only the text's end takes none, and that is no act
  token-far : (p e c : ℕ) (t : Token) (a : Act) → Reaches text p e t → act_of text meaning P p c t ≡ Ok a → (p < e) × (e ≤ length text)
  token-far p e c token.End a r is = cc
  token-far p e c token.Space a r is = (r.further, r.inside)
  token-far p e c (token.Word w n) a r is = (r.further, r.inside)
  token-far p e c (token.Control w) a r is = (r.further, r.inside)
  token-far p e c token.Ampersand a r is = (r.further, r.inside)
  token-far p e c token.Hash a r is = (r.further, r.inside)
  token-far p e c token.OpenBrace a r is = (r.further, r.inside)
  token-far p e c token.CloseBrace a r is = (r.further, r.inside)

  begun-goes : (p : ℕ) (g : Ledger) (end : ℕ) (a : Result Act Fault) → ((b : Act) → a ≡ Ok b → (p < end) × (end ≤ length text)) → Goes p (begun_step text meaning P count wide m g p end a)
  begun-goes p g end (Ok a) far = own-goes p g end a (far a refl)
  begun-goes p g end (Err f) far = tt

  start-goes : (p : ℕ) (g : Ledger) (end : ℕ) (a : Result Act Fault) → ((b : Act) → a ≡ Ok b → (p < end) × (end ≤ length text)) → Goes p (start_step text meaning P count wide m g p end a)
  start-goes p g end (Ok a) far = unless-goes p p _ _ (own-goes p (started P g) end a (far a refl))
  start-goes p g end (Err f) far = tt

  fresh-goes : (p : ℕ) (g : Ledger) (l : Lexeme) (x : Lead) (a : Result Act Fault) → lead_of l.token ≡ x → Reaches text p l.end l.token → ((b : Act) → a ≡ Ok b → (p < l.end) × (l.end ≤ length text))
      → Goes p (fresh_by text meaning P count wide m x g p l.end a)
  fresh-goes p g l drops a is r far = lead-further text p l.end l.token (λ e. drops-begins (sym is ∙ e)) r
  fresh-goes p g l bares a is r far = lead-further text p l.end l.token (λ e. bares-begins (sym is ∙ e)) r
  fresh-goes p g l begins a is r far = start-goes p g l.end a far

  cond-goes : (p : ℕ) (b : Bool) (o q : Outcome) → Goes p o → Goes p q → Goes p (cond b o q)
  cond-goes p true o q s t = s
  cond-goes p false o q s t = t

  hand-goes : (p : ℕ) (g : Ledger) (l : Lexeme) (h : Option OpenRow) → Reaches text p l.end l.token → Goes p (hand_step text meaning P count wide m g p l h)
  hand-goes p g l None r = tt
  hand-goes p g l (Some h) r =
      let a = act_of text meaning P p h.column l.token in
      let far : (b : Act) → a ≡ Ok b → (p < l.end) × (l.end ≤ length text) = λ b is. token-far p l.end h.column l.token b r is in
      cond-goes p h.begun _ _ (begun-goes p g l.end a far) (fresh-goes p g l (lead_of l.token) a refl r far)

  lexed-goes : (p : ℕ) (g : Ledger) (t : Result Lexeme Fault) → token_at text p ≡ t → Goes p (lexed_step text meaning P count wide m g p t)
  lexed-goes p g (Ok l) is = hand-goes p g l g.hand (subst (Onward text p) is (token-onward text p))
  lexed-goes p g (Err f) is = tt

  -- a row that is refused from a place on
  pub row-refused : (n p : ℕ) (g : Ledger) (f : Fault) → length text < p + n → p ≤ length text → row_by text meaning P count wide m n p g ≡ Err f → Refused text meaning P count wide m p g f
  unfolding row_by
  row-refused zero p g f many in' e = absurd (omega arith)
  row-refused (suc n) p g f many in' e =
      by (row_step text meaning P count wide m g p) (first_of (token_tests text meaning P count wide m g p)) refl refl (lexed-says g p (token_at text p)) (lexed-goes p g (token_at text p) refl)
      (λ q h far k. row-refused n q h f (omega (arith, far.0)) far.1 k) e
    where
      by : (o : Outcome) (v : Option Fault) → row_step text meaning P count wide m g p ≡ o → first_of (token_tests text meaning P count wide m g p) ≡ v → Says v o → Goes p o
          → ((q : ℕ) (h : Ledger) → (p < q) × (q ≤ length text) → row_by text meaning P count wide m n q h ≡ Err f → Refused text meaning P count wide m q h f)
          → onward o (row_by text meaning P count wide m n) ≡ Err f → Refused text meaning P count wide m p g f
      by (goes_on q h) None on fine s far ih e = later p g q h f (record { fine = fine; on = on }) (ih q h far e)
      by (goes_on q h) (Some x) on fine s far ih e = absurd s
      by (lies q h) v on fine s far ih e = cc
      by (refuses x) None on fine s far ih e = absurd s
      by (refuses x) (Some y) on fine s far ih e = let same : x ≡ f = cc in here p g f (fine ∙ ap (λ (z : Fault). Some z) (s ∙ same))

  -- the first fault of a crowded row's first token
  placed-first : (p : ℕ) (v w : Option Fault) (full : Fault) → first_of (at_place p v ∷ at_place p w ∷ Some (moved_to p full) ∷ []) ≡ Some (moved_to p (the_fault text meaning P count wide m (first_of (v ∷ w ∷ [])) full))
  placed-first p None None full = refl
  placed-first p None (Some y) full = refl
  placed-first p (Some x) w full = refl

  crowded-acts : (full : Fault) (g : Ledger) (place : ℕ) (a : Result Act Fault) → first_of (crowded_acts text meaning P count wide m full g place a) ≡ Some (crowded_act text meaning P count wide m full g place a)
  crowded-acts full g place (Ok a) = placed-first place _ _ full
  crowded-acts full g place (Err f) = refl

  crowded-first : (x : Lead) (full : Fault) (g : Ledger) (place : ℕ) (a : Result Act Fault) → first_of (crowded_tests text meaning P count wide m x full g place a) ≡ Some (crowded_by text meaning P count wide m x full g place a)
  crowded-first drops full g place a = crowded-acts full g place a
  crowded-first bares full g place a = refl
  crowded-first begins full g place a = crowded-acts full g place a

  -- a row, from its first token on
  taken-refused : (v : Option Fault) (g : Ledger) (place : ℕ) (l : Lexeme) (f : Fault) → place ≤ length text → token_at text place ≡ Ok l
      → onward (first_step text meaning P count wide m v g place l) (row_by text meaning P count wide m (length text)) ≡ Err f → RowRefused text meaning P count wide m v g place l f
  unfolding row_by
  taken-refused None g place l f in' t e =
      row-refused (suc (length text)) place (opened g) f (omega arith) in'
      (ap (λ (x : Result Lexeme Fault). onward (lexed_step text meaning P count wide m (opened g) place x) (row_by text meaning P count wide m (length text))) t ∙ e)
  taken-refused (Some full) g place l f in' t e =
      let same : crowded_by text meaning P count wide m (lead_of l.token) full g place (act_of text meaning P place 0 l.token) ≡ f = cc in
      crowded-first (lead_of l.token) full g place (act_of text meaning P place 0 l.token) ∙ ap (λ (z : Fault). Some z) same

  -- \noalign, token by token
  module _ (f : Fault) where
    closed-refused : (g : Ledger) (place end : ℕ) (p : Piece) → closed_by text meaning P count wide m g place end p ≡ Err f → first_of (closed_by_tests text meaning P count wide m place p) ≡ Some f
    closed-refused g place end opens e = let same : fault_amiss text place opens ≡ f = cc in ap (λ (z : Fault). Some z) same
    closed-refused g place end closes e = cc
    closed-refused g place end draws e = let same : fault_amiss text place draws ≡ f = cc in ap (λ (z : Fault). Some z) same
    closed-refused g place end skips e = let same : fault_amiss text place skips ≡ f = cc in ap (λ (z : Fault). Some z) same
    closed-refused g place end ends e = let same : fault_amiss text place ends ≡ f = cc in ap (λ (z : Fault). Some z) same
    closed-refused g place end other e = let same : fault_amiss text place other ≡ f = cc in ap (λ (z : Fault). Some z) same

    close-refused : (g : Ledger) (place : ℕ) (t : Result Lexeme Fault) → closed_at text meaning P count wide m g place t ≡ Err f → first_of (closed_tests text meaning P count wide m place t) ≡ Some f
    close-refused g place (Ok l) e = closed-refused g place l.end (piece_of l.token) e
    close-refused g place (Err x) e = cc

    low-refused : (b : Bool) (g : Ledger) (place end : ℕ) → cond b (closed_at text meaning P count wide m g end (token_at text end)) (Err (fault_at cause.BadLength place)) ≡ Err f
        → first_of (cond b (closed_tests text meaning P count wide m end (token_at text end)) (Some (fault_at cause.BadLength place) ∷ [])) ≡ Some f
    low-refused true g place end e = close-refused g end (token_at text end) e
    low-refused false g place end e = let same : fault_at cause.BadLength place ≡ f = cc in ap (λ (z : Fault). Some z) same

    gap-refused : (g : Ledger) (place : ℕ) (l : Result Length Fault) → gap_by text meaning P count wide m g place l ≡ Err f → first_of (gap_tests text meaning P count wide m place l) ≡ Some f
    gap-refused g place (Ok l) e = low-refused (int_le (pos 0) l.sp) (ruled_by (gap l.sp) g) place l.end e
    gap-refused g place (Err x) e = cc

    bared-refused : (g : Ledger) (place end : ℕ) (p : Piece) → bare_by text meaning P count wide m g place end p ≡ Err f → first_of (bare_by_tests text meaning P count wide m place end p) ≡ Some f
    bared-refused g place end opens e = let same : fault_amiss text place opens ≡ f = cc in ap (λ (z : Fault). Some z) same
    bared-refused g place end closes e = let same : fault_amiss text place closes ≡ f = cc in ap (λ (z : Fault). Some z) same
    bared-refused g place end draws e = close-refused (ruled_by rule g) end (token_at text end) e
    bared-refused g place end skips e = gap-refused g end (length_at text end) e
    bared-refused g place end ends e = let same : fault_amiss text place ends ≡ f = cc in ap (λ (z : Fault). Some z) same
    bared-refused g place end other e = let same : fault_amiss text place other ≡ f = cc in ap (λ (z : Fault). Some z) same

    bare-refused : (g : Ledger) (place : ℕ) (t : Result Lexeme Fault) → bare_at text meaning P count wide m g place t ≡ Err f → first_of (bare_tests text meaning P count wide m place t) ≡ Some f
    bare-refused g place (Ok l) e = bared-refused g place l.end (piece_of l.token) e
    bare-refused g place (Err x) e = cc

    opened-refused : (g : Ledger) (place end : ℕ) (p : Piece) → opened_by text meaning P count wide m g place end p ≡ Err f → first_of (opened_by_tests text meaning P count wide m place end p) ≡ Some f
    opened-refused g place end opens e = bare-refused g end (token_at text end) e
    opened-refused g place end closes e = let same : fault_amiss text place closes ≡ f = cc in ap (λ (z : Fault). Some z) same
    opened-refused g place end draws e = let same : fault_amiss text place draws ≡ f = cc in ap (λ (z : Fault). Some z) same
    opened-refused g place end skips e = let same : fault_amiss text place skips ≡ f = cc in ap (λ (z : Fault). Some z) same
    opened-refused g place end ends e = let same : fault_amiss text place ends ≡ f = cc in ap (λ (z : Fault). Some z) same
    opened-refused g place end other e = let same : fault_amiss text place other ≡ f = cc in ap (λ (z : Fault). Some z) same

    open-refused : (g : Ledger) (place : ℕ) (t : Result Lexeme Fault) → opened_at text meaning P count wide m g place t ≡ Err f → first_of (opened_tests text meaning P count wide m place t) ≡ Some f
    open-refused g place (Ok l) e = opened-refused g place l.end (piece_of l.token) e
    open-refused g place (Err x) e = cc

    noalign-refused : (v : Option Fault) (g : Ledger) (place end : ℕ) → noalign_by text meaning P count wide m v g place end ≡ Err f
        → first_of (at_place place v ∷ opened_tests text meaning P count wide m end (token_at text end)) ≡ Some f
    noalign-refused None g place end e = open-refused g end (token_at text end) e
    noalign-refused (Some x) g place end e = let same : moved_to place x ≡ f = cc in ap (λ (z : Fault). Some z) same

  first-refused : (b : Bool) (g : Ledger) (place : ℕ) (l : Lexeme) (f : Fault) → place ≤ length text → token_at text place ≡ Ok l → line_by text meaning P count wide m b g place l ≡ Err f → FirstRefused text meaning P count wide m b g place l f
  first-refused true g place l f in' t e = noalign-refused f (rule_verdict P m g) g place l.end e
  first-refused false g place l f in' t e = taken-refused (take_verdict P m g) g place l f in' t e

  lexed-refused : (g : Ledger) (place : ℕ) (t : Result Lexeme Fault) (f : Fault) → place ≤ length text → token_at text place ≡ t → line_from text meaning P count wide m g place t ≡ Err f → LexedRefused text meaning P count wide m g place t f
  lexed-refused g place (Ok l) f in' t e = first-refused (is_noalign l.token) g place l f in' t e
  lexed-refused g place (Err x) f in' t e = cc

  -- every refusal is the first fault of the leftmost token that is at fault
  pub line-refused : (g : Ledger) → RefusesAt text meaning P count wide m g (line_of text meaning P count wide m g)
  line-refused g = by (is_open g.hand) (nat_le (length text) (spaces_end text 0)) refl refl (line_from text meaning P count wide m g (spaces_end text 0) (token_at text (spaces_end text 0))) refl
    where
      by : (o n : Bool) → is_open g.hand ≡ o → nat_le (length text) (spaces_end text 0) ≡ n → (x : Result LineRead Fault)
          → line_from text meaning P count wide m g (spaces_end text 0) (token_at text (spaces_end text 0)) ≡ x
          → RefusesAt text meaning P count wide m g (cond o (Err foreign_cell) (cond n (Ok None) (some_line text meaning P count wide m x)))
      by true n is at x e = inl (is, refl)
      by false true is at x e = tt
      by false false is at (Ok r) e = tt
      by false false is at (Err f) e = inr (is, lexed-refused g (spaces_end text 0) (token_at text (spaces_end text 0)) f (grind (arith, nat_tests, at)) refl e)
