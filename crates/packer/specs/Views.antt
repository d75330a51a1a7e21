-- What lent records and texts say of a table that is drawn. Assumes nothing.
use Rattle.std.specs.Prelude.{◌≡◌, ℕ, ◌+◌, ◌<◌, ◌≤◌, List, [], ◌∷◌, length, take, drop, ℤ, slice_index_or}
use Rattle.measure.specs.declared.measurer.Measurer.{Ghosts as Meaning}
use Rattle.extent.specs.declared.Extent.{Ghosts as Sides}
use Rattle.boxlist.specs.declared.BoxRecord.{BoxRecord}
use Rattle.boxlist.specs.Over.{over}
use Rattle.sharing.specs.declared.Edges.{Edges}
use Rattle.sharing.specs.Columns.{edges_of}
use Rattle.ledger.specs.declared.records.ItemRecord.{ItemRecord}
use Rattle.ledger.specs.Ledger.{Item}
use Rattle.ledger.specs.Items.{taken, meant, decoded_items}
use Rattle.rows.specs.declared.state.EntryRecord.{EntryRecord}
use Rattle.packer.specs.declared.source.Source.{Source}
use Rattle.packer.specs.declared.source.Measures.{Measures}
use Rattle.packer.specs.declared.pen.Pen.{Pen}
use Rattle.packer.specs.Looks.{Look, look_of}
use Rattle.packer.specs.Boxes.{Columns, wide_in}

-- what items are on the side that is drawn
abbrev pub look_in : {X E : Type 0} → Meaning X E → Sides E → Source X E → Look
look_in m s src = look_of m s src.measurer.now src.side

-- the item of a record, its bytes from a place in the line text on, and the items of several
abbrev pub item_in : {X E : Type 0} → Source X E → ItemRecord → ℕ → Item
item_in src i p = meant src.preamble.now i (take (taken i) (drop p src.lines.now))

abbrev pub items_from : {X E : Type 0} → Source X E → List ItemRecord → ℕ → List Item
items_from src is p = decoded_items src.preamble.now is (drop p src.lines.now)

abbrev pub measures_of : Look → Item → Measures
measures_of l a = record { wide = l.wide a; high = l.high a; deep = l.deep a }

-- the edges are those of the columns as they are set
abbrev pub EdgesAre : Columns → List Edges → Type 0
EdgesAre c es = (j : ℕ) (d : Edges) → j < length es → slice_index_or es j d ≡ edges_of c.widths c.first c.gaps j

-- entries lie in n columns, and their widths on side k are those of their items, within the range of widths
abbrev pub Stored : {E : Type 0} → (E → ℕ → ℤ) → Look → ℕ → ℕ → List (EntryRecord E) → List Item → Type 0
Stored num l k n [] xs = Unit {0}
Stored num l k n (e ∷ es) xs = (num e.entry.width k ≡ wide_in l (take e.count xs)) × (e.entry.first ≤ e.entry.last) × (e.entry.last < n) × Stored num l k n es (drop e.count xs)

-- so many records are left
abbrev pub HasRoom : Pen → List BoxRecord → Type 0
HasRoom o bs = o.next + length bs ≤ length o.records.now

-- the boxes stand from its place on, what lies before and behind them stays, and its place is behind them
pub record Drawn (old new : Pen) (bs : List BoxRecord) : Type 0 where
  pub same : new.records.ghost_name ≡ old.records.ghost_name
  pub next : new.next ≡ old.next + length bs
  pub records : new.records.now ≡ over old.records.now old.next bs
