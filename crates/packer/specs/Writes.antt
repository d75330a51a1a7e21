-- Lines whose list of boxes may be written. Assumes nothing.
use Rattle.std.specs.Prelude.{◌≡◌, ℕ, ◌+◌, ◌^◌, ◌<◌, ◌≤◌, Bool, true, List, [], length, take, ℤ, pos, slice_index_or}
use Rattle.std.specs.List.{flat_map, list_all, AllByRecursion}
use Rattle.extent.specs.Sizes.{Within}
use Rattle.boxlist.specs.Lists.{Writable}
use Rattle.sharing.specs.Columns.{left_of}
use Rattle.measure.specs.Ranges.{Upto}
use Rattle.ledger.specs.Ledger.{Item, cell_word, template_word, space, kern, hfil, Entry, Line}
use Rattle.ledger.specs.Calls.{items_in, entries_in}
use Rattle.ledger.specs.Lawful.{low}
use Rattle.packer.specs.Looks.{Look}
use Rattle.packer.specs.Boxes.{Columns, wide_in, fills_of}
use Rattle.packer.specs.Lines.{table_boxes, total_height}
use Rattle.packer.specs.Laws.{lines_items, line_text}

-- an item's width, height and depth are in their ranges
pub record ItemSized (l : Look) (a : Item) : Type 0 where
  pub wide : Within 1073741823 (l.wide a)
  pub high : Upto 16777215 (l.high a)
  pub deep : Upto 16777215 (l.deep a)

-- .. of each item that passes a test; and a length from 0 to 16,777,215 enters as such a one
pub record LookSized (test : Item → Bool) (l : Look) : Type 0 where
  pub items : (a : Item) → test a ≡ true → ItemSized l a
  pub entered : (z : ℤ) → Upto 16777215 z → Upto 16777215 (l.entered z)

-- an entry between columns
pub record EntrySized (l : Look) (c : Columns) (e : Entry) : Type 0 where
  -- however many of its items are taken from the front, they are within ±2^38 wide
  pub near : (j : ℕ) → Within (2 ^ 38) (wide_in l (take j e.items))
  -- it begins within ±2^38
  pub starts : Within (2 ^ 38) (left_of c.widths c.first c.gaps e.first)
  -- its fills share at most 2^38
  pub shares : (fills_of l c e).surplus ≤ 2 ^ 38

abbrev pub entry_at : List Entry → ℕ → Entry
entry_at es i = slice_index_or es i (record { first = 0; last = 0; items = [] })

-- a template's word ends at most 2^40 bytes behind the front of its text
abbrev pub EndsLow : Item → Type 0
EndsLow (cell_word w) = Unit {0}
EndsLow (template_word a w) = a + length w ≤ 2 ^ 40
EndsLow space = Unit {0}
EndsLow (kern z) = Unit {0}
EndsLow hfil = Unit {0}

-- lines in a table t wide, whose items pass a test
pub record Drawable (test : Item → Bool) (l : Look) (c : Columns) (t : ℤ) (ss : List Line) : Type 0 where
  -- what passes the test is in its ranges
  pub looks : LookSized test l
  -- all items pass it
  pub known : list_all test (flat_map items_in (flat_map entries_in ss)) ≡ true
  -- each entry is near
  pub entries : (i : ℕ) → i < length (flat_map entries_in ss) → EntrySized l c (entry_at (flat_map entries_in ss) i)
  -- each gap's length is from 0 to 16,777,215
  pub gaps : list_all low ss ≡ true
  -- the table's width is from 0 to 1,073,741,823
  pub width : Upto 1073741823 t
  -- there are few lines ..
  pub few_lines : length ss ≤ 1024
  -- .. and few items
  pub few_items : length (lines_items ss) ≤ 16384
  -- the line text is at most 2^40 long
  pub text : length (line_text ss) ≤ 2 ^ 40
  -- .. and of the preamble text no more is named
  pub ends : AllByRecursion EndsLow (lines_items ss)

-- the list of such lines may be written
abbrev pub MayBeWritten : Type 0
MayBeWritten = (test : Item → Bool) (l : Look) (c : Columns) (t : ℤ) (ss : List Line) → Drawable test l c t ss → Writable t (total_height l ss) (table_boxes l c t (pos 0) 0 ss)
