-- Rows as their calls speak of them: preamble, room, ledger, and the widths that they keep.
use Rattle.std.specs.Prelude.{◌≡◌, ℕ, Bool, List, ℤ, Option}
use Rattle.ledger.specs.declared.records.Room.{Room}
use Rattle.ledger.specs.Ledger.{Item, OpenRow, Ledger}
use Rattle.ledger.specs.Calls.{Template, fresh_at, begun_at}
use Rattle.rows.specs.declared.rows.Rows.{Rows}
use Rattle.rows.specs.declared.state.Cell.{Cell}
use Rattle.rows.specs.declared.state.Cell.TheVariants.{Fresh, Begun}
use Rattle.rows.specs.Good.{room_in, templates_of, ledger_of, lens_of}
use Rattle.rows.specs.Sound.{Sound}

abbrev pub templates_at : {E : Type 0} → Rows E → List Template
templates_at r = templates_of r.preamble

abbrev pub room_at : {E : Type 0} → Rows E → Room
room_at r = room_in r.draft.memory

abbrev pub ledger_at : {E : Type 0} → Rows E → Ledger
ledger_at r = ledger_of r.preamble r.draft.state r.draft.memory

-- the cell is the one in hand
abbrev pub in_hand : Cell → Option OpenRow → Bool
in_hand (Fresh c) h = fresh_at c h
in_hand (Begun c) h = begun_at c h

-- the widths that are kept are those of the ledger's items
abbrev pub SoundAt : {E : Type 0} → ℕ → (E → ℕ → ℤ) → (Item → ℕ → ℤ) → Rows E → Type 0
SoundAt count num wide r = Sound count num wide r.preamble r.draft.state r.draft.memory

-- what no call changes
pub record Stays {E : Type 0} (r r' : Rows E) : Type 0 where
  pub preamble : r'.preamble ≡ r.preamble
  pub lens : lens_of r'.draft.memory ≡ lens_of r.draft.memory

-- .. and widths that are right stay right
abbrev pub StaysSound : {E : Type 0} → ℕ → (E → ℕ → ℤ) → Rows E → Rows E → Type 0
StaysSound count num r r' = (wide : Item → ℕ → ℤ) → SoundAt count num wide r → SoundAt count num wide r'
