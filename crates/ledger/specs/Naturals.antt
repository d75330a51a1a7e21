-- Natural widths by the measurer's meaning, on each side, and the calls that look at them.
use Rattle.std.specs.Prelude.{ℕ, zero, suc, ◌+◌, Bool, true, false, cond, not, List, [], ◌∷◌, ℤ, pos, negsuc, ◌+ℤ◌, Some, None, Ok, Err, Option, Result, int_lt}
use Rattle.widths.specs.declared.Entry.{Entry as Sized}
use Rattle.measure.specs.declared.measurer.Metrics.{Metrics}
use Rattle.faults.specs.declared.Fault.{Fault}
use Rattle.measure.specs.declared.measurer.Measurer.{Ghosts as Meaning}
use Rattle.extent.specs.declared.Extent.{Ghosts as Sides}
use Rattle.measure.specs.Asked.{measured_by}
use Rattle.lengths.specs.Gaps.{natural_fits}
use Rattle.ledger.specs.Refusals.{entry_wide, table_full, foreign_cell, out_of_range}
use Rattle.ledger.specs.declared.records.Room.{Room}
use Rattle.ledger.specs.Ledger.{Item, cell_word, template_word, space, kern, hfil, Entry, OpenRow, Ledger}
use Rattle.ledger.specs.Calls.{Template, template_at, first_of, when, lacking, used_items, used_entries, used_lines, used_text, v_owed, bytes_in, begun_at, fresh_at}

-- outside ±K
abbrev pub out_z : ℤ → Bool
out_z z = cond (int_lt (pos 1073741823) z) true (int_lt z (negsuc 1073741822))

-- on a side below n
unfoldable pub beyond : ℕ → (ℕ → ℤ) → Bool
beyond zero f = false
beyond (suc n) f = cond (out_z (f n)) true (beyond n f)

-- an item's width, by what words, spaces and kerns measure
abbrev pub word_by : {E : Type 0} → (E → ℕ → ℤ) → Result (Metrics E) ℕ → ℕ → ℤ
word_by num (Ok x) k = num x.width k
word_by num (Err a) k = pos 0

abbrev pub wide_by : {E : Type 0} → (E → ℕ → ℤ) → (ℕ → ℤ → ℤ) → (List ℕ → Result (Metrics E) ℕ) → E → Item → ℕ → ℤ
wide_by num entered meaning blank (cell_word w) k = word_by num (meaning w) k
wide_by num entered meaning blank (template_word a w) k = word_by num (meaning w) k
wide_by num entered meaning blank space k = num blank k
wide_by num entered meaning blank (kern z) k = entered k z
wide_by num entered meaning blank hfil k = pos 0

-- .. by a measurer's meaning and what its extents are on their sides
abbrev pub wide_of : {X E : Type 0} → Meaning X E → Sides E → X → Item → ℕ → ℤ
wide_of m s x = wide_by s.num s.entered (m.meaning x) (m.blank x)

unfoldable pub natural : (Item → ℕ → ℤ) → List Item → ℕ → ℤ
natural wide [] k = pos 0
natural wide (a ∷ xs) k = wide a k +ℤ natural wide xs k

-- an entry with its natural width on a side
abbrev pub natural_by : (Item → ℕ → ℤ) → ℕ → Entry → Sized ℤ
natural_by wide k x = record { first = x.first; last = x.last; width = natural wide x.items k }

-- what is owed of v, in a row that is begun or fresh
abbrev pub owed_of : List Template → Option OpenRow → List Item
owed_of P None = []
owed_of P (Some h) = cond h.begun (v_owed P h) []

abbrev pub items_now : Option OpenRow → List Item
items_now None = []
items_now (Some h) = h.items

-- the verdict on one more item: 10, then 22
abbrev pub add_verdict : ℕ → (Item → ℕ → ℤ) → List Template → Room → Ledger → Item → Option Fault
add_verdict count wide P r g a = first_of (when (beyond count (λ k. (natural wide (items_now g.hand) k +ℤ wide a k) +ℤ natural wide (owed_of P g.hand) k)) entry_wide
    ∷ when (lacking r (used_items P g + 1) (used_entries g) (used_lines g) (used_text g + bytes_in a)) table_full ∷ [])

-- why there is no answer
abbrev pub fault_in : {X : Type 0} → Result X Fault → Option Fault
fault_in (Ok x) = None
fault_in (Err f) = Some f

-- what is wrong with an item by itself: bytes that are no word or have no character (1, 9, 41), a kern out of its range (27)
abbrev pub item_fault : {X : Type 0} → (List ℕ → Result X ℕ) → Item → Option Fault
item_fault meaning (cell_word w) = fault_in (measured_by meaning w)
item_fault meaning (template_word a w) = None
item_fault meaning space = None
item_fault meaning (kern z) = when (not (natural_fits z)) out_of_range
item_fault meaning hfil = None

-- put: 21, what is wrong with the item, 10, 22
abbrev pub put_verdict : {X : Type 0} → ℕ → (Item → ℕ → ℤ) → (List ℕ → Result X ℕ) → List Template → Room → Ledger → ℕ → Item → Option Fault
put_verdict count wide meaning P r g c a = first_of (when (not (begun_at c g.hand)) foreign_cell ∷ item_fault meaning a ∷ add_verdict count wide P r g a ∷ [])

-- start: 21, 10
abbrev pub start_verdict : ℕ → (Item → ℕ → ℤ) → List Template → Ledger → ℕ → Option Fault
start_verdict count wide P g c = first_of (when (not (fresh_at c g.hand)) foreign_cell
    ∷ when (beyond count (λ k. (natural wide (items_now g.hand) k +ℤ natural wide (template_at P c).u k) +ℤ natural wide (template_at P c).v k)) entry_wide ∷ [])
