-- The row in hand: what its stage says of the ledger's, and what the steps leave of it. Assumes nothing.
use Rattle.std.proofs.Common.{◌≡◌, ℕ, Bool, true, false, List, Option, Some, None, refl}
use Rattle.ledger.specs.Ledger.{Item, OpenRow, Ledger}
use Rattle.ledger.specs.Calls.{Template, is_open, on_open, starts, puts, tabs, carries}
use Rattle.rows.specs.declared.state.Stage.{Stage}
use Rattle.rows.specs.declared.state.Stage.TheVariants.{Closed, Fresh, Begun, Omitted}
use Rattle.rows.specs.Held.{Held}
use Rattle.rows.specs.Good.{hand_by, open_in}
use Rattle.lines.specs.Lines.{column_of}

module _ (c f : ℕ) (h : Held) where
  pub hand-open : (st : Stage) → is_open (hand_by st c f h) ≡ open_in st
  hand-open Closed = refl
  hand-open Fresh = refl
  hand-open Begun = refl
  hand-open Omitted = refl

  pub hand-column : (st : Stage) → open_in st ≡ true → column_of (hand_by st c f h) ≡ c
  hand-column Closed o = let z : ◌≡◌ {A = Bool} false true = o in cc
  hand-column Fresh o = refl
  hand-column Begun o = refl
  hand-column Omitted o = refl

-- a step on a row in hand adds no line, and leaves one
module _ (P : List Template) (i : Item) (g : Ledger) where
  pub starts-lines : (x : Option OpenRow) → (on_open (starts P g) g x).lines ≡ g.lines
  starts-lines None = refl
  starts-lines (Some y) = refl

  pub puts-lines : (x : Option OpenRow) → (on_open (puts i g) g x).lines ≡ g.lines
  puts-lines None = refl
  puts-lines (Some y) = refl

  pub tabs-lines : (x : Option OpenRow) → (on_open (tabs P g) g x).lines ≡ g.lines
  tabs-lines None = refl
  tabs-lines (Some y) = refl

  pub carries-lines : (x : Option OpenRow) → (on_open (carries P g) g x).lines ≡ g.lines
  carries-lines None = refl
  carries-lines (Some y) = refl

  pub puts-open : (x : Option OpenRow) → is_open x ≡ true → is_open (on_open (puts i g) g x).hand ≡ true
  puts-open None o = let z : ◌≡◌ {A = Bool} false true = o in cc
  puts-open (Some y) o = refl

  pub tabs-open : (x : Option OpenRow) → is_open x ≡ true → is_open (on_open (tabs P g) g x).hand ≡ true
  tabs-open None o = let z : ◌≡◌ {A = Bool} false true = o in cc
  tabs-open (Some y) o = refl

  pub carries-open : (x : Option OpenRow) → is_open x ≡ true → is_open (on_open (carries P g) g x).hand ≡ true
  carries-open None o = let z : ◌≡◌ {A = Bool} false true = o in cc
  carries-open (Some y) o = refl
