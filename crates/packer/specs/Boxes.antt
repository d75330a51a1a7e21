-- The boxes of items, entries and rows, on one side, between columns as they are set. Assumes nothing.
use Rattle.std.specs.Prelude.{ℕ, ◌+◌, List, [], ◌∷◌, ◌++◌, length, ℤ, pos, ◌+ℤ◌, ◌-ℤ◌, Option}
use Rattle.boxlist.specs.declared.Kind.TheVariants as kinds
use Rattle.boxlist.specs.declared.Store.{Store}
use Rattle.boxlist.specs.declared.Store.TheVariants as stores
use Rattle.boxlist.specs.declared.BoxRecord.{BoxRecord}
use Rattle.widths.specs.Formula.{reach}
use Rattle.sharing.specs.Rule.{portion}
use Rattle.sharing.specs.Gaps.{upward}
use Rattle.sharing.specs.Columns.{left_of}
use Rattle.ledger.specs.Chunks.{total}
use Rattle.ledger.specs.Ledger.{Item, cell_word, template_word, space, kern, hfil, Entry}
use Rattle.ledger.specs.Calls.{bytes_in}
use Rattle.packer.specs.Looks.{Look, fill_in}

-- columns on one side: widths, and the gaps as they are set
pub record Columns : Type 0 where
  pub widths : ℕ → Option ℤ
  pub first : ℤ
  pub gaps : ℕ → ℤ

-- where an item's box goes: left edge, baseline, and the place of its bytes in the line text
pub record Spot : Type 0 where
  pub x : ℤ
  pub y : ℤ
  pub place : ℕ

abbrev pub word_box : Look → Item → ℤ → ℤ → Store → ℕ → ℕ → BoxRecord
word_box l a x y s p n = record { kind = kinds.Word; x = x; y = y; width = l.wide a; height = l.high a; depth = l.deep a; store = s; place = pos p; len = pos n }

-- a word has a box, any other item none
abbrev pub box_of : Look → Spot → Item → List BoxRecord
box_of l s (cell_word w) = word_box l (cell_word w) s.x s.y stores.Lines s.place (length w) ∷ []
box_of l s (template_word a w) = word_box l (template_word a w) s.x s.y stores.Preamble a (length w) ∷ []
box_of l s space = []
box_of l s (kern z) = []
box_of l s hfil = []

-- the fills of an entry share a surplus
pub record Fills : Type 0 where
  pub surplus : ℕ
  pub count : ℕ

-- an item stands behind the items before it, and behind what the fills among these have grown by
abbrev pub shifted : Fills → ℕ → Spot → Spot
shifted f p s = record { x = s.x +ℤ pos (portion f.surplus p f.count); y = s.y; place = s.place }

abbrev pub behind : Look → Item → Spot → Spot
behind l a s = record { x = s.x +ℤ l.wide a; y = s.y; place = s.place + bytes_in a }

-- the boxes of items, behind p fills
unfoldable pub item_boxes : Look → Fills → ℕ → Spot → List Item → List BoxRecord
item_boxes l f p s [] = []
item_boxes l f p s (a ∷ rest) = box_of l (shifted f p s) a ++ item_boxes l f (p + fill_in a) (behind l a s) rest

-- the natural width of items
unfoldable pub wide_in : Look → List Item → ℤ
wide_in l [] = pos 0
wide_in l (a ∷ rest) = l.wide a +ℤ wide_in l rest

-- the set width of an entry is its columns with the set gaps between; its fills share what that leaves of its natural width
abbrev pub set_width : Columns → Entry → ℤ
set_width c e = reach c.widths c.gaps e.first e.last

abbrev pub fills_of : Look → Columns → Entry → Fills
fills_of l c e = record { surplus = upward (set_width c e -ℤ wide_in l e.items); count = total fill_in e.items }

-- an entry begins at the left edge of its first column
abbrev pub start_of : Columns → ℤ → ℕ → Entry → Spot
start_of c y t e = record { x = left_of c.widths c.first c.gaps e.first; y = y; place = t }

abbrev pub entry_boxes : Look → Columns → ℤ → ℕ → Entry → List BoxRecord
entry_boxes l c y t e = item_boxes l (fills_of l c e) 0 (start_of c y t e) e.items

abbrev pub entry_bytes : Entry → ℕ
entry_bytes e = total bytes_in e.items

-- the boxes of entries on a baseline, the line text of the first from t on
unfoldable pub row_boxes : Look → Columns → ℤ → ℕ → List Entry → List BoxRecord
row_boxes l c y t [] = []
row_boxes l c y t (e ∷ es) = entry_boxes l c y t e ++ row_boxes l c y (t + entry_bytes e) es
