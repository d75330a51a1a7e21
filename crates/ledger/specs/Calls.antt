-- What each call makes of a ledger, and what it is refused for.
use Rattle.std.specs.Prelude.{ℕ, ◌+◌, Bool, true, false, cond, not, ◌&&◌, List, [], ◌∷◌, ◌++◌, length, ℤ, pos, Some, None, Option, ◌==◌, int_le, nat_le, nat_lt, slice_index_or}
use Rattle.std.specs.List.{flat_map}
use Rattle.faults.specs.declared.Fault.{Fault}
use Rattle.ledger.specs.Refusals.{columns_over, foreign_cell, table_full, out_of_range}
use Rattle.ledger.specs.declared.records.Room.{Room}
use Rattle.ledger.specs.Chunks.{total}
use Rattle.ledger.specs.Ledger.{Item, cell_word, template_word, space, kern, hfil, Entry, Line, row, rule, gap, OpenRow, Ledger}

-- a column's parts
pub record Template : Type 0 where
  pub u : List Item
  pub v : List Item

abbrev pub template_at : List Template → ℕ → Template
template_at P c = slice_index_or P c (record { u = []; v = [] })

-- the first fault of a list of tests
abbrev pub first_of : List (Option Fault) → Option Fault
first_of [] = None
first_of (Some f ∷ os) = Some f
first_of (None ∷ os) = first_of os

abbrev pub when : Bool → Fault → Option Fault
when true f = Some f
when false f = None

-- a refused call changes nothing
abbrev pub after : Option Fault → Ledger → Ledger → Ledger
after (Some f) g g' = g
after None g g' = g'

-- counts
abbrev pub entries_in : Line → List Entry
entries_in (row es) = es
entries_in rule = []
entries_in (gap z) = []

abbrev pub items_in : Entry → List Item
items_in e = e.items

abbrev pub bytes_in : Item → ℕ
bytes_in (cell_word w) = length w
bytes_in (template_word a w) = 0
bytes_in space = 0
bytes_in (kern z) = 0
bytes_in hfil = 0

abbrev pub done_of : Option OpenRow → List Entry
done_of None = []
done_of (Some h) = h.done

abbrev pub items_of : Option OpenRow → List Item
items_of None = []
items_of (Some h) = h.items

abbrev pub one_of : Option OpenRow → ℕ
one_of None = 0
one_of (Some h) = 1

abbrev pub owing : Bool → Bool → Template → ℕ
owing false o t = length t.u + length t.v
owing true false t = length t.v
owing true true t = 0

abbrev pub owes : List Template → Option OpenRow → ℕ
owes P None = 0
owes P (Some h) = owing h.begun h.omitted (template_at P h.column)

abbrev pub laid_entries : Ledger → List Entry
laid_entries g = flat_map entries_in g.lines

abbrev pub all_items : Ledger → List Item
all_items g = flat_map items_in (laid_entries g ++ done_of g.hand) ++ items_of g.hand

abbrev pub used_items : List Template → Ledger → ℕ
used_items P g = length (all_items g) + owes P g.hand

abbrev pub used_entries : Ledger → ℕ
used_entries g = length (laid_entries g ++ done_of g.hand) + one_of g.hand

abbrev pub used_lines : Ledger → ℕ
used_lines g = length g.lines + one_of g.hand

abbrev pub used_text : Ledger → ℕ
used_text g = total bytes_in (all_items g)

-- whether that many are too many
abbrev pub lacking : Room → ℕ → ℕ → ℕ → ℕ → Bool
lacking m i e l t = cond (nat_lt m.items i) true (cond (nat_lt m.entries e) true (cond (nat_lt m.lines l) true (nat_lt m.text t)))

-- tests on the row in hand
abbrev pub is_open : Option OpenRow → Bool
is_open None = false
is_open (Some h) = true

abbrev pub fresh_at : ℕ → Option OpenRow → Bool
fresh_at c None = false
fresh_at c (Some h) = cond h.begun false (h.column == c)

abbrev pub begun_at : ℕ → Option OpenRow → Bool
begun_at c None = false
begun_at c (Some h) = cond h.begun (h.column == c) false

-- a step on the row in hand
abbrev pub on_open : (OpenRow → Ledger) → Ledger → Option OpenRow → Ledger
on_open f g None = g
on_open f g (Some h) = f h

abbrev pub v_owed : List Template → OpenRow → List Item
v_owed P h = cond h.omitted [] (template_at P h.column).v

abbrev pub finished : List Template → OpenRow → Entry
finished P h = record { first = h.first; last = h.column; items = h.items ++ v_owed P h }

abbrev pub opened : Ledger → Ledger
opened g = record { lines = g.lines; hand = Some (record { column = 0; begun = false; omitted = false; first = 0; done = []; items = [] }) }

abbrev pub omits : Ledger → OpenRow → Ledger
omits g h = record { lines = g.lines; hand = Some (record { column = h.column; begun = true; omitted = true; first = h.first; done = h.done; items = h.items }) }

abbrev pub starts : List Template → Ledger → OpenRow → Ledger
starts P g h = record { lines = g.lines; hand = Some (record { column = h.column; begun = true; omitted = false; first = h.first; done = h.done; items = h.items ++ (template_at P h.column).u }) }

abbrev pub puts : Item → Ledger → OpenRow → Ledger
puts a g h = record { lines = g.lines; hand = Some (record { column = h.column; begun = h.begun; omitted = h.omitted; first = h.first; done = h.done; items = h.items ++ a ∷ [] }) }

abbrev pub tabs : List Template → Ledger → OpenRow → Ledger
tabs P g h = record { lines = g.lines; hand = Some (record { column = h.column + 1; begun = false; omitted = false; first = h.column + 1; done = h.done ++ finished P h ∷ []; items = [] }) }

abbrev pub carries : List Template → Ledger → OpenRow → Ledger
carries P g h = record { lines = g.lines; hand = Some (record { column = h.column + 1; begun = false; omitted = false; first = h.first; done = h.done; items = h.items ++ v_owed P h }) }

abbrev pub lays : List Template → Ledger → OpenRow → Ledger
lays P g h = record { lines = g.lines ++ row (h.done ++ finished P h ∷ []) ∷ []; hand = None }

-- verdicts, in the order of the tests
abbrev pub take_verdict : List Template → Room → Ledger → Option Fault
take_verdict P m g = first_of (when (is_open g.hand) foreign_cell
    ∷ when (lacking m (used_items P g + (length (template_at P 0).u + length (template_at P 0).v)) (used_entries g + 1) (used_lines g + 1) (used_text g)) table_full ∷ [])

abbrev pub omit_verdict : Ledger → ℕ → Option Fault
omit_verdict g c = first_of (when (not (fresh_at c g.hand)) foreign_cell ∷ [])

abbrev pub lay_verdict : Ledger → ℕ → Option Fault
lay_verdict g c = first_of (when (not (begun_at c g.hand)) foreign_cell ∷ [])

-- on to the next column, with x entries more than now: 21, 7, 22
abbrev pub next_verdict : ℕ → List Template → Room → Ledger → ℕ → Option Fault
next_verdict x P m g c = first_of (when (not (begun_at c g.hand)) foreign_cell ∷ when (nat_le (length P) (c + 1)) columns_over
    ∷ when (lacking m (used_items P g + (length (template_at P (c + 1)).u + length (template_at P (c + 1)).v)) (used_entries g + x) (used_lines g) (used_text g)) table_full ∷ [])

-- tab begins an entry, span carries one on
abbrev pub tab_verdict : List Template → Room → Ledger → ℕ → Option Fault
tab_verdict = next_verdict 1

abbrev pub span_verdict : List Template → Room → Ledger → ℕ → Option Fault
span_verdict = next_verdict 0

abbrev pub rule_verdict : List Template → Room → Ledger → Option Fault
rule_verdict P m g = first_of (when (is_open g.hand) foreign_cell ∷ when (lacking m (used_items P g) (used_entries g) (used_lines g + 1) (used_text g)) table_full ∷ [])

-- a gap's length, from 0 to 16,777,215
abbrev pub gap_fits : ℤ → Bool
gap_fits z = int_le (pos 0) z && int_le z (pos 16777215)

abbrev pub gap_verdict : List Template → Room → Ledger → ℤ → Option Fault
gap_verdict P m g z = first_of (when (is_open g.hand) foreign_cell ∷ when (not (gap_fits z)) out_of_range
    ∷ when (lacking m (used_items P g) (used_entries g) (used_lines g + 1) (used_text g)) table_full ∷ [])

-- no row is in hand
abbrev pub closed_up : Ledger → Ledger
closed_up g = record { lines = g.lines; hand = None }

abbrev pub ruled_by : Line → Ledger → Ledger
ruled_by s g = record { lines = g.lines ++ s ∷ []; hand = g.hand }

-- give up drops the open row if its cell has that column and stage, and is never refused
abbrev pub gives_up : Bool → Ledger → Ledger
gives_up here g = cond here (closed_up g) g
