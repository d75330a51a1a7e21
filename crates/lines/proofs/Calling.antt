-- A token that is a row call. Assumes nothing.
use Rattle.std.proofs.Common.{◌≡◌, ℕ, true, min, List, length, ℤ, Option, Some, None, Ok, Err, Result, Continue, Break, refl, sym, ap, ◌∙◌, subst}
use Rattle.std.specs.declared.ops.ControlFlow.{ControlFlow}
use Rattle.faults.specs.declared.Fault.{Fault}
use Rattle.ledger.specs.declared.records.Room.{Room}
use Rattle.ledger.specs.Ledger.{Item, Ledger}
use Rattle.ledger.specs.Calls.{Template, is_open}
use Rattle.rows.specs.declared.rows.Rows.{Rows}
use Rattle.rows.specs.declared.preamble.Preamble.{Preamble}
use Rattle.rows.specs.Held.{held_of}
use Rattle.rows.specs.Good.{Lens, open_in, template_of, templates_of}
use Rattle.rows.specs.Columns.{columns_in}
use Rattle.std.proofs.lemmas.List.{length-map}
use Rattle.rows.specs.Answers.{unless, followed}
use Rattle.rows.specs.Views.{templates_at, room_at, ledger_at, SoundAt, Stays}
use Rattle.lines.specs.Lines.{Outcome, goes_on, lies, refuses, moved_to, unless_at}
use Rattle.lines.specs.Steps.{placed_at, stepped_by, outcome_by, Further, Hand, Turns}
use Rattle.lines.proofs.Hands.{hand-open}

-- a row call: its verdict, and the ledger where it is accepted
pub record Called {E : Type 0} (count : ℕ) (num : E → ℕ → ℤ) (wide : Item → ℕ → ℤ) (r : Rows E) (v : Option Fault) (h : Ledger) (r' : Rows E) (w : Result (Unit {0}) Fault) : Type 0 where
  pub answer : SoundAt count num wide r → w ≡ unless v tt
  pub ledger : ledger_at r' ≡ followed w (ledger_at r) h
  pub sound : SoundAt count num wide r → SoundAt count num wide r'
  pub stays : Stays r r'

-- where it goes on, no line is added and a row stays in hand
abbrev pub Keeps : Ledger → Ledger → ControlFlow ℕ ℕ → Type 0
Keeps g h (Continue p) = (h.lines ≡ g.lines) × (is_open h.hand ≡ true)
Keeps g h (Break p) = Unit {0}

pub yes-outcome : (at : ℕ) (v : Option Fault) (o : Outcome) → ◌≡◌ {A = Result (Unit {0}) Fault} (Ok tt) (unless v tt) → o ≡ unless_at at v o
yes-outcome at None o e = refl
yes-outcome at (Some f) o e = cc

pub no-outcome : (at : ℕ) (v : Option Fault) (o : Outcome) (f : Fault) → ◌≡◌ {A = Result (Unit {0}) Fault} (Err f) (unless v tt) → refuses (moved_to at f) ≡ unless_at at v o
no-outcome at None o f e = cc
no-outcome at (Some x) o f e = let same : f ≡ x = cc in ap (λ (y : Fault). refuses (moved_to at y)) same

module _ {E : Type 0} (r r' : Rows E) (stays : Stays r r') where
  pub stays-templates : templates_at r' ≡ templates_at r
  stays-templates = ap (λ (q : Preamble E). templates_of q) stays.preamble

  pub stays-room : room_at r' ≡ room_at r
  stays-room = ap room_by stays.lens
    where
      room_by : Lens → Room
      room_by l = record { items = min 16384 l.items; entries = min 8192 l.entries; lines = min 1024 l.lines; text = min 65535 l.text }

pub rows-open : {E : Type 0} (r : Rows E) → is_open (ledger_at r).hand ≡ true → open_in r.draft.state.stage ≡ true
rows-open r o = sym (hand-open r.draft.state.row.column r.draft.state.row.first (held_of r.preamble.text.now r.draft.state r.draft.memory) r.draft.state.stage) ∙ o

pub open-rows : {E : Type 0} (r : Rows E) → open_in r.draft.state.stage ≡ true → is_open (ledger_at r).hand ≡ true
open-rows r o = hand-open r.draft.state.row.column r.draft.state.row.first (held_of r.preamble.text.now r.draft.state r.draft.memory) r.draft.state.stage ∙ o

module _ {E : Type 0} (count : ℕ) (num : E → ℕ → ℤ) (wide : Item → ℕ → ℤ) (text : List ℕ) (place at : ℕ) (r : Rows E) (v : Option Fault) (h : Ledger) (r' : Rows E) where
  pub step-turns : (next : ControlFlow ℕ ℕ) (w : Result (Unit {0}) Fault) → Called count num wide r v h r' w → Keeps (ledger_at r) h next → Further text place (Ok next)
      → Turns count num wide text place r (unless_at at v (outcome_by next h)) r' (stepped_by at next w)
  step-turns (Continue p) (Ok x) d k on = record {
    is = λ s. ap (goes_on p) d.ledger ∙ yes-outcome at v (goes_on p h) (d.answer s);
    sound = d.sound;
    stays = d.stays;
    hand = (ap (λ (g : Ledger). g.lines) d.ledger ∙ k.0, rows-open r' (ap (λ (g : Ledger). is_open g.hand) d.ledger ∙ k.1));
    further = on;
  }
  step-turns (Break p) (Ok x) d k on = record {
    is = λ s. ap (lies p) d.ledger ∙ yes-outcome at v (lies p h) (d.answer s);
    sound = d.sound;
    stays = d.stays;
    hand = tt;
    further = tt;
  }
  step-turns next (Err f) d k on = record {
    is = λ s. no-outcome at v (outcome_by next h) f (d.answer s);
    sound = d.sound;
    stays = d.stays;
    hand = ap (λ (g : Ledger). g.lines) d.ledger;
    further = tt;
  }

  -- an accepted call, and what comes after it
  pub then-turns : Called count num wide r v h r' (Ok tt) → h.lines ≡ (ledger_at r).lines → (F : List Template → Room → Ledger → Outcome) (r2 : Rows E) (s : Result (ControlFlow ℕ ℕ) Fault)
      → Turns count num wide text place r' (F (templates_at r') (room_at r') (ledger_at r')) r2 s
      → Turns count num wide text place r (unless_at at v (F (templates_at r) (room_at r) h)) r2 s
  then-turns d same F r2 s t =
      let p = stays-templates r r' d.stays in
      let m = stays-room r r' d.stays in
      let lines : (ledger_at r').lines ≡ (ledger_at r).lines = ap (λ (g : Ledger). g.lines) d.ledger ∙ same in
      record {
        is = λ o. t.is (d.sound o) ∙ ap (λ (x : List Template). F x (room_at r') (ledger_at r')) p ∙ ap (λ (x : Room). F (templates_at r) x (ledger_at r')) m ∙ ap (F (templates_at r) (room_at r)) d.ledger ∙ yes-outcome at v (F (templates_at r) (room_at r) h) (d.answer o);
        sound = λ o. t.sound (d.sound o);
        stays = record { preamble = t.stays.preamble ∙ d.stays.preamble; lens = t.stays.lens ∙ d.stays.lens };
        hand = on-hand s t.hand lines;
        further = t.further;
      }
    where
      on-hand : (s : Result (ControlFlow ℕ ℕ) Fault) → Hand r' r2 s → (ledger_at r').lines ≡ (ledger_at r).lines → Hand r r2 s
      on-hand (Ok (Continue p)) x e = (x.0 ∙ e, x.1)
      on-hand (Ok (Break p)) x e = tt
      on-hand (Err f) x e = x ∙ e

module _ {E : Type 0} (count : ℕ) (num : E → ℕ → ℤ) (wide : Item → ℕ → ℤ) (text : List ℕ) (place : ℕ) (r : Rows E) where
  pub turns-to : (o o' : Outcome) (r' : Rows E) (s : Result (ControlFlow ℕ ℕ) Fault) → o ≡ o' → Turns count num wide text place r o r' s → Turns count num wide text place r o' r' s
  turns-to o o' r' s e t = record { is = λ a. t.is a ∙ e; sound = t.sound; stays = t.stays; hand = t.hand; further = t.further }

  -- a token that changes nothing, and is refused
  pub refusal-turns : (o : Outcome) (f : Fault) → refuses f ≡ o → Turns count num wide text place r o r (Err f)
  refusal-turns o f e = record { is = λ a. e; sound = λ a. a; stays = record { preamble = refl; lens = refl }; hand = refl; further = tt }

-- how many columns there are
pub columns-length : {E : Type 0} (r : Rows E) → length (templates_at r) ≡ length (columns_in r.preamble.columns.now)
columns-length r = length-map (columns_in r.preamble.columns.now) (template_of r.preamble)

-- what a placed answer says of the call's
pub placed-ok : (p : ℕ) (w : Result (Unit {0}) Fault) (x : Unit {0}) → Ok x ≡ placed_at p w → w ≡ Ok tt
placed-ok p (Ok y) x e = refl
placed-ok p (Err f) x e = cc

pub placed-err : (p : ℕ) (w : Result (Unit {0}) Fault) (f : Fault) → Err f ≡ placed_at p w → (x : Fault) × (w ≡ Err x) × (f ≡ moved_to p x)
placed-err p (Ok y) f e = cc
placed-err p (Err x) f e = (x, refl, cc)

module _ {E : Type 0} (count : ℕ) (num : E → ℕ → ℤ) (wide : Item → ℕ → ℤ) (text : List ℕ) (place at : ℕ) (r : Rows E) (v : Option Fault) (h : Ledger) (r' : Rows E) where
  -- a call that is refused for f
  pub refused-turns : (w : Result (Unit {0}) Fault) (f : Fault) (o : Outcome) → Called count num wide r v h r' w → Err f ≡ placed_at at w → Turns count num wide text place r (unless_at at v o) r' (Err f)
  refused-turns (Ok x) f o d e = cc
  refused-turns (Err x) f o d e =
      let same : f ≡ moved_to at x = cc in
      record {
        is = λ s. ap refuses same ∙ no-outcome at v o x (d.answer s);
        sound = d.sound;
        stays = d.stays;
        hand = ap (λ (g : Ledger). g.lines) d.ledger;
        further = tt;
      }

  -- a call that is accepted
  pub accepted-call : (w : Result (Unit {0}) Fault) (x : Unit {0}) → Called count num wide r v h r' w → Ok x ≡ placed_at at w → Called count num wide r v h r' (Ok tt)
  accepted-call w x d e = subst (Called count num wide r v h r') (placed-ok at w x e) d
