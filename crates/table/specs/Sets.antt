-- What an accepted set is, in the words of its subject. Assumes nothing.
use Rattle.std.specs.Prelude.{◌≡◌, ℕ, suc, ◌+◌, ◌-◌, ◌^◌, ◌<◌, ◌≤◌, ◌⊎◌, List, [], ◌∷◌, ◌++◌, map, length, take, ℤ, pos, ◌<ℤ◌, slice_index_or, Some, None, Ok, Err, Option, Result}
use Rattle.std.specs.List.{AllByRecursion, flat_map}
use Rattle.faults.specs.declared.Fault.{Fault}
use Rattle.faults.specs.declared.Cause.TheVariants as cause
use Rattle.faults.specs.Faults.{fault_at}
use Rattle.measure.specs.declared.measurer.Measurer.{Ghosts as Meaning}
use Rattle.measure.specs.Words.{IsWord}
use Rattle.extent.specs.declared.Extent.{Ghosts as Sides}
use Rattle.boxlist.specs.declared.BoxRecord.{BoxRecord}
use Rattle.boxlist.specs.Lists.{Writable}
use Rattle.boxlist.specs.Parts.{named_part}
use Rattle.widths.specs.Entries.{Holds}
use Rattle.widths.specs.Settling.{Settled}
use Rattle.spans.specs.Tables.{after}
use Rattle.sharing.specs.declared.Aim.{Aim}
use Rattle.sharing.specs.Gaps.{all_sharers}
use Rattle.sharing.specs.Columns.{first_natural, naturals, natural_width, aimed}
use Rattle.sharing.specs.Laws.{SetTo}
use Rattle.sharing.specs.Views.{widths_on, gaps_on}
use Rattle.packer.specs.declared.Laid.{Laid}
use Rattle.ledger.specs.Ledger.{Item, Entry, Line, row, rule}
use Rattle.ledger.specs.Calls.{items_in}
use Rattle.packer.specs.Boxes.{box_of}
use Rattle.packer.specs.Lines.{rule_box, total_height}
use Rattle.packer.specs.Laws.{line_text, words_in, drawn_in, top_of, spot_in}
use Rattle.table.specs.declared.table.Table.{Table}
use Rattle.table.specs.Views.{columns_in, lengths_in, ledger_in, laid_in}
use Rattle.table.specs.Promises.{ask_on}
use Rattle.table.specs.Setting.{widths_of, side_gaps, look_on, columns_at}

-- the bytes of a word, of those that are drawn
abbrev pub DrawnWord : Option (List ℕ) → Type 0
DrawnWord (Some w) = IsWord w
DrawnWord None = Unit {0}

-- a table that is set on side k: its width, its height, and its boxes
pub record SetAs {X E : Type 0} {m : Meaning X E} {s : Sides E} (t : Table X E m s) (k : ℕ) (a : Aim) (l : Laid) (boxes : List BoxRecord) : Type 0 where
  -- the widths are those that ask answers on that side, ..
  pub asked : (j : ℕ) → j < columns_in t → Ok (widths_on (widths_of t k) j) ≡ ask_on (laid_in t k) (after s.entered k (lengths_in t)) (columns_in t) (suc j)
  -- .. and they are settled between the gaps
  pub settled : Settled (laid_in t k) (first_natural (gaps_on (side_gaps t k))) (naturals (gaps_on (side_gaps t k))) (columns_in t) (widths_on (widths_of t k))
  -- the gaps share what is over by the rule, and columns and gaps add up exactly to the width
  pub set : SetTo (widths_on (widths_of t k)) (gaps_on (side_gaps t k)) (columns_in t) a l.width
  -- every laid entry gets at least its natural width
  pub holds : Holds (widths_on (widths_of t k)) (columns_at t k a).gaps (laid_in t k)
  -- the height is that of all lines, and so many boxes are answered as there are
  pub height : l.height ≡ total_height (look_on t k) (ledger_in t).lines
  pub count : l.boxes ≡ length boxes
  -- a word's box stands where its line, its entry and the items before it put it, ..
  pub places : (before after : List Line) (left right : List Entry) (e : Entry) (front back : List Item) (i : Item) (box : BoxRecord)
      → (ledger_in t).lines ≡ before ++ row (left ++ e ∷ right) ∷ after → e.items ≡ front ++ i ∷ back
      → box_of (look_on t k) (spot_in (look_on t k) (columns_at t k a) before left (left ++ e ∷ right) e front) i ≡ box ∷ []
      → (d : BoxRecord) → slice_index_or boxes (length (drawn_in before) + length (words_in (flat_map items_in left ++ front))) d ≡ box
  -- .. and a rule's is as wide as the table, below the lines before it
  pub rules : (before after : List Line) (d : BoxRecord) → (ledger_in t).lines ≡ before ++ rule ∷ after
      → slice_index_or boxes (length (drawn_in before)) d ≡ rule_box (look_on t k) l.width (top_of (look_on t k) before)
  -- there is a box for each word and each rule of the lines, in their order; a word's names its bytes in the table's own texts
  pub named : map (λ r. named_part r t.rows.preamble.text.now (line_text (ledger_in t).lines)) boxes ≡ drawn_in (ledger_in t).lines
  -- .. which are 1 to 255 bytes from 33 to 126
  pub words : AllByRecursion DrawnWord (drawn_in (ledger_in t).lines)
  -- the list may be written, unless the preamble text is longer than 2^40 bytes
  pub writable : length t.rows.preamble.text.now ≤ 2 ^ 40 → Writable l.width l.height boxes

-- why a natural width n is not set to t: no gap shrinks, none grows where nothing stretches
abbrev pub Unattainable : ℤ → ℤ → ℕ → Type 0
Unattainable n t stretch = (n <ℤ pos 0) ⊎ ((t <ℤ n) ⊎ ((pos 1073741823 <ℤ t) ⊎ ((n <ℤ t) × (stretch ≡ 0))))

-- the natural width on side k, and the stretch that would share what is over
abbrev pub natural_on : {X E : Type 0} {m : Meaning X E} {s : Sides E} → Table X E m s → ℕ → ℤ
natural_on t k = natural_width (widths_on (widths_of t k)) (gaps_on (side_gaps t k)) (columns_in t)

abbrev pub stretch_on : {X E : Type 0} {m : Meaning X E} {s : Sides E} → Table X E m s → ℕ → ℕ
stretch_on t k = all_sharers (widths_on (widths_of t k)) (gaps_on (side_gaps t k)) (columns_in t)

-- why set is refused: no such side; the width cannot be had; fewer records than words and rules
pub data Barred {X E : Type 0} {m : Meaning X E} {s : Sides E} (t : Table X E m s) (side : ℕ) (a : Aim) (room : ℕ) : Fault → Type 0 where
  no_side : (side ≡ 0) ⊎ (s.count < side) → Barred t side a room (fault_at cause.NoSuchSide 0)
  no_width : 1 ≤ side → side ≤ s.count → Unattainable (natural_on t (side - 1)) (aimed a (natural_on t (side - 1))) (stretch_on t (side - 1)) → Barred t side a room (fault_at cause.CannotSet 0)
  no_room : 1 ≤ side → side ≤ s.count → room < length (drawn_in (ledger_in t).lines) → Barred t side a room (fault_at cause.TooLittleRoom 0)

-- .. by the answer of set and what the records then hold; sides are counted from 1
abbrev pub Sets : {X E : Type 0} {m : Meaning X E} {s : Sides E} → Table X E m s → ℕ → Aim → List BoxRecord → Result Laid Fault → Type 0
Sets {s = s} t side a records (Ok l) = (1 ≤ side) × (side ≤ s.count) × SetAs t (side - 1) a l (take l.boxes records)
Sets t side a records (Err f) = Barred t side a (length records) f
