-- What holds of a ledger whatever calls led to it. Assumes nothing.
use Rattle.std.specs.Prelude.{◌≡◌, ℕ, ◌^◌, ◌<◌, ◌≤◌, Bool, true, List, [], length, take, ℤ, ◌+ℤ◌, Result, is_ok, slice_index_or}
use Rattle.std.specs.List.{list_all}
use Rattle.extent.specs.Sizes.{Within}
use Rattle.measure.specs.Asked.{measured_by}
use Rattle.lengths.specs.Gaps.{natural_fits}
use Rattle.ledger.specs.Ledger.{Item, cell_word, template_word, space, kern, hfil, Entry, Line, row, rule, gap, Ledger}
use Rattle.ledger.specs.Calls.{Template, template_at, done_of, all_items, laid_entries, gap_fits}
use Rattle.ledger.specs.Naturals.{natural, owed_of, items_now}

-- an item that a table may have: of words those that are measured, of kerns those in their range
abbrev pub fine : {X : Type 0} → (List ℕ → Result X ℕ) → Item → Bool
fine meaning (cell_word w) = is_ok (measured_by meaning w)
fine meaning (template_word a w) = is_ok (measured_by meaning w)
fine meaning space = true
fine meaning (kern z) = natural_fits z
fine meaning hfil = true

abbrev pub all_fine : {X : Type 0} → (List ℕ → Result X ℕ) → List Item → Bool
all_fine meaning is = list_all (fine meaning) is

-- a template with such items, at most 64 in each part
pub record FineTemplate {X : Type 0} (meaning : List ℕ → Result X ℕ) (t : Template) : Type 0 where
  pub u : all_fine meaning t.u ≡ true
  pub v : all_fine meaning t.v ≡ true
  pub few-u : length t.u ≤ 64
  pub few-v : length t.v ≤ 64

abbrev pub FineTemplates : {X : Type 0} → (List ℕ → Result X ℕ) → List Template → Type 0
FineTemplates meaning P = (c : ℕ) → FineTemplate meaning (template_at P c)

-- no item of these is wider than a word may be
abbrev pub FineSized : {X : Type 0} → (List ℕ → Result X ℕ) → ℕ → (Item → ℕ → ℤ) → Type 0
FineSized meaning count wide = (i : Item) (k : ℕ) → fine meaning i ≡ true → k < count → Within 1073741823 (wide i k)

-- however many of the items are taken from the front, they are within ±2^38 wide
abbrev pub Steady : ℕ → (Item → ℕ → ℤ) → List Item → Type 0
Steady count wide is = (j k : ℕ) → k < count → Within (2 ^ 38) (natural wide (take j is) k)

-- the items of an entry
abbrev pub items_at : List Entry → ℕ → List Item
items_at es t = (slice_index_or es t (record { first = 0; last = 0; items = [] })).items

-- a gap's length is in its range
abbrev pub low : Line → Bool
low (row es) = true
low rule = true
low (gap z) = gap_fits z

pub record Lawful {X : Type 0} (meaning : List ℕ → Result X ℕ) (count : ℕ) (wide : Item → ℕ → ℤ) (P : List Template) (g : Ledger) : Type 0 where
  pub items : all_fine meaning (all_items g) ≡ true
  pub low_gaps : list_all low g.lines ≡ true
  pub laid : (t : ℕ) → Steady count wide (items_at (laid_entries g) t)
  pub done : (t : ℕ) → Steady count wide (items_at (done_of g.hand) t)
  pub hand : Steady count wide (items_now g.hand)
  -- with what is owed of v the entry in hand is within the range of widths
  pub near : (k : ℕ) → k < count → Within 1073741823 (natural wide (items_now g.hand) k +ℤ natural wide (owed_of P g.hand) k)
