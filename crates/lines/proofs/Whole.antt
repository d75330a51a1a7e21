-- A row from its first token to its last. Assumes nothing.
use Rattle.std.proofs.Common.{◌≡◌, ℕ, zero, suc, ◌-◌, ◌<◌, ◌≤◌, true, List, length, ℤ, Ok, Err, Result, Continue, Break, refl, sym, ap, ◌∙◌, subst, arith}
use Rattle.std.specs.declared.ops.ControlFlow.{ControlFlow}
use Rattle.faults.specs.declared.Fault.{Fault}
use Rattle.ledger.specs.declared.records.Room.{Room}
use Rattle.ledger.specs.Ledger.{Item, Ledger}
use Rattle.ledger.specs.Calls.{Template}
use Rattle.rows.specs.declared.rows.Rows.{Rows}
use Rattle.rows.specs.Good.{open_in}
use Rattle.rows.specs.Views.{templates_at, room_at, ledger_at, SoundAt, Stays}
use Rattle.lines.specs.Lines.{Outcome, goes_on, lies, refuses, LineRead, onward, row_step, row_by}
use Rattle.lines.specs.Steps.{Turns, Lines, Reads}
use Rattle.lines.proofs.Calling.{stays-templates, stays-room}

-- one token more
module _ {X : Type 0} (text : List ℕ) (meaning : List ℕ → Result X ℕ) (P : List Template) (count : ℕ) (wide : Item → ℕ → ℤ) (m : Room) (R : Result LineRead Fault) where
  pub row-on : (n p q : ℕ) (g h : Ledger) → 0 < n → row_step text meaning P count wide m g p ≡ goes_on q h → row_by text meaning P count wide m n p g ≡ R → row_by text meaning P count wide m (n - 1) q h ≡ R
  unfolding row_by
  row-on zero p q g h lt e s = absurd (omega arith)
  row-on (suc n) p q g h lt e s =
      let less : suc n - 1 ≡ n = omega arith in
      ap (λ (i : ℕ). row_by text meaning P count wide m i q h) less ∙ ap (λ (o : Outcome). onward o (row_by text meaning P count wide m n)) (sym e) ∙ s

  pub row-lies : (n p q : ℕ) (g h : Ledger) → 0 < n → row_step text meaning P count wide m g p ≡ lies q h → row_by text meaning P count wide m n p g ≡ R → Ok (record { bytes = q; ledger = h }) ≡ R
  unfolding row_by
  row-lies zero p q g h lt e s = absurd (omega arith)
  row-lies (suc n) p q g h lt e s = ap (λ (o : Outcome). onward o (row_by text meaning P count wide m n)) (sym e) ∙ s

  pub row-refuses : (n p : ℕ) (g : Ledger) (f : Fault) → 0 < n → row_step text meaning P count wide m g p ≡ refuses f → row_by text meaning P count wide m n p g ≡ R → Err f ≡ R
  unfolding row_by
  row-refuses zero p g f lt e s = absurd (omega arith)
  row-refuses (suc n) p g f lt e s = ap (λ (o : Outcome). onward o (row_by text meaning P count wide m n)) (sym e) ∙ s

pub stays-on : {E : Type 0} (r r' r2 : Rows E) → Stays r r' → Stays r' r2 → Stays r r2
stays-on r r' r2 a b = record { preamble = b.preamble ∙ a.preamble; lens = b.lens ∙ a.lens }

pub reads-to : {E : Type 0} (count : ℕ) (num : E → ℕ → ℤ) (wide : Item → ℕ → ℤ) (r : Rows E) (l l' : Result LineRead Fault) (r' : Rows E) (s : Result ℕ Fault) → l ≡ l' → Reads count num wide r l r' s → Reads count num wide r l' r' s
reads-to count num wide r l l' r' s e t = record { is = λ a. t.is a ∙ e; sound = t.sound; stays = t.stays; lines = t.lines }

-- what is said of the templates and the room that rows have now holds of those that they had
module _ {E : Type 0} (r r' : Rows E) (stays : Stays r r') where
  pub as-before : {A : Type 0} (F : List Template → Room → A) → F (templates_at r') (room_at r') ≡ F (templates_at r) (room_at r)
  as-before F = ap (λ (P : List Template). F P (room_at r')) (stays-templates r r' stays) ∙ ap (F (templates_at r)) (stays-room r r' stays)

-- a row on its way: with enough tokens left to take, it gives the line that is meant
pub record Underway {E X : Type 0} (count : ℕ) (num : E → ℕ → ℤ) (wide : Item → ℕ → ℤ) (text : List ℕ) (meaning : List ℕ → Result X ℕ) (r : Rows E) (R : Result LineRead Fault) (r' : Rows E) (place : ℕ) : Type 0 where
  pub tokens : ℕ
  pub enough : length text - place < tokens
  pub same : SoundAt count num wide r → row_by text meaning (templates_at r) count wide (room_at r) tokens place (ledger_at r') ≡ R
  pub sound : SoundAt count num wide r → SoundAt count num wide r'
  pub stays : Stays r r'
  pub lines : (ledger_at r').lines ≡ (ledger_at r).lines
  pub open' : open_in r'.draft.state.stage ≡ true
  pub inside : place ≤ length text

module _ {E X : Type 0} (count : ℕ) (num : E → ℕ → ℤ) (wide : Item → ℕ → ℤ) (text : List ℕ) (meaning : List ℕ → Result X ℕ) where
  abbrev pub Row : Rows E → ℕ → ℕ → Result LineRead Fault
  Row r n place = row_by text meaning (templates_at r) count wide (room_at r) n place (ledger_at r)

  abbrev pub Step : Rows E → ℕ → Outcome
  Step r place = row_step text meaning (templates_at r) count wide (room_at r) (ledger_at r) place

  pub begins-row : (r : Rows E) (place : ℕ) → open_in r.draft.state.stage ≡ true → 0 < place → place ≤ length text → Underway count num wide text meaning r (Row r (length text) place) r place
  begins-row r place o lt le = record {
    tokens = length text;
    enough = omega arith;
    same = λ a. refl;
    sound = λ a. a;
    stays = record { preamble = refl; lens = refl };
    lines = refl;
    open' = o;
    inside = le;
  }

  module _ (r : Rows E) (R : Result LineRead Fault) (r1 : Rows E) (place : ℕ) (way : Underway count num wide text meaning r R r1 place) (r2 : Rows E) where
    -- the step, by the templates and the room of the start
    step-is : Step r1 place ≡ row_step text meaning (templates_at r) count wide (room_at r) (ledger_at r1) place
    step-is = as-before r r1 way.stays (λ P m. row_step text meaning P count wide m (ledger_at r1) place)

    module _ (q : ℕ) (s : ControlFlow ℕ ℕ) (is : s ≡ Continue q) (turns : Turns count num wide text place r1 (Step r1 place) r2 (Ok s)) where
      turn : Turns count num wide text place r1 (Step r1 place) r2 (Ok (Continue q))
      turn = subst (λ (x : ControlFlow ℕ ℕ). Turns count num wide text place r1 (Step r1 place) r2 (Ok x)) is turns

      pub goes : Underway count num wide text meaning r R r2 q
      goes =
          let e = way.enough in
          let on = turn.further in
          record {
            tokens = way.tokens - 1;
            enough = omega (arith, e, on.0, on.1);
            same = λ a. row-on text meaning (templates_at r) count wide (room_at r) R way.tokens place q (ledger_at r1) (ledger_at r2) (omega arith) (sym (turn.is (way.sound a) ∙ step-is)) (way.same a);
            sound = λ a. turn.sound (way.sound a);
            stays = stays-on r r1 r2 way.stays turn.stays;
            lines = turn.hand.0 ∙ way.lines;
            open' = turn.hand.1;
            inside = on.1;
          }

      pub nearer : length text - q < length text - place
      nearer = let on = turn.further in omega (arith, on.0, on.1)

    pub laid-row : (b : ℕ) (s : ControlFlow ℕ ℕ) → s ≡ Break b → Turns count num wide text place r1 (Step r1 place) r2 (Ok s) → Reads count num wide r R r2 (Ok b)
    laid-row b s is turns =
        let turn = subst (λ (x : ControlFlow ℕ ℕ). Turns count num wide text place r1 (Step r1 place) r2 (Ok x)) is turns in
        let e = way.enough in
        record {
          is = λ a. row-lies text meaning (templates_at r) count wide (room_at r) R way.tokens place b (ledger_at r1) (ledger_at r2) (omega arith) (sym (turn.is (way.sound a) ∙ step-is)) (way.same a);
          sound = λ a. turn.sound (way.sound a);
          stays = stays-on r r1 r2 way.stays turn.stays;
          lines = tt;
        }

    pub refused-row : (f : Fault) → Turns count num wide text place r1 (Step r1 place) r2 (Err f) → Reads count num wide r R r2 (Err f)
    refused-row f turn =
        let e = way.enough in
        record {
          is = λ a. row-refuses text meaning (templates_at r) count wide (room_at r) R way.tokens place (ledger_at r1) f (omega arith) (sym (turn.is (way.sound a) ∙ step-is)) (way.same a);
          sound = λ a. turn.sound (way.sound a);
          stays = stays-on r r1 r2 way.stays turn.stays;
          lines = turn.hand ∙ way.lines;
        }

  -- the first token, and the rest of the row
  module _ (r : Rows E) (o : Outcome) (place : ℕ) (r1 : Rows E) where
    abbrev Rest : ℕ → ℕ → Ledger → Result LineRead Fault
    Rest n = row_by text meaning (templates_at r) count wide (room_at r) n

    pub goes-reads : (q : ℕ) (s : ControlFlow ℕ ℕ) → s ≡ Continue q → Turns count num wide text place r o r1 (Ok s) → (r2 : Rows E) (w : Result ℕ Fault) → Reads count num wide r1 (Row r1 (length text) q) r2 w
        → Reads count num wide r (onward o (Rest (length text))) r2 w
    goes-reads q s is turns r2 w reads =
        let turn = subst (λ (x : ControlFlow ℕ ℕ). Turns count num wide text place r o r1 (Ok x)) is turns in
        record {
          is = λ a. reads.is (turn.sound a) ∙ as-before r r1 turn.stays (λ P m. row_by text meaning P count wide m (length text) q (ledger_at r1)) ∙ ap (λ (x : Outcome). onward x (Rest (length text))) (turn.is a);
          sound = λ a. reads.sound (turn.sound a);
          stays = stays-on r r1 r2 turn.stays reads.stays;
          lines = kept w reads.lines turn.hand.0;
        }
      where
        kept : (w : Result ℕ Fault) → Lines r1 r2 w → (ledger_at r1).lines ≡ (ledger_at r).lines → Lines r r2 w
        kept (Ok b) x e = tt
        kept (Err f) x e = x ∙ e

    pub lies-reads : (b : ℕ) (s : ControlFlow ℕ ℕ) → s ≡ Break b → Turns count num wide text place r o r1 (Ok s) → Reads count num wide r (onward o (Rest (length text))) r1 (Ok b)
    lies-reads b s is turns =
        let turn = subst (λ (x : ControlFlow ℕ ℕ). Turns count num wide text place r o r1 (Ok x)) is turns in
        record {
          is = λ a. ap (λ (x : Outcome). onward x (Rest (length text))) (turn.is a);
          sound = turn.sound;
          stays = turn.stays;
          lines = tt;
        }

    pub refuses-reads : (f : Fault) → Turns count num wide text place r o r1 (Err f) → Reads count num wide r (onward o (Rest (length text))) r1 (Err f)
    refuses-reads f turn = record {
      is = λ a. ap (λ (x : Outcome). onward x (Rest (length text))) (turn.is a);
      sound = turn.sound;
      stays = turn.stays;
      lines = turn.hand;
    }
