-- What holds of the memory while a preamble is read, and when it is read. Assumes nothing.
use Rattle.std.specs.Prelude.{◌≡◌, ℕ, ◌+◌, ◌*◌, ◌+ℤ◌, ◌<◌, ◌≤◌, false, List, [], ◌∷◌, map, length, get_or, take, drop, ℤ, Ok, Err, Result, slice_index_or}
use Rattle.std.specs.List.{AllByRecursion}
use Rattle.std.specs.declared.ops.ControlFlow.{ControlFlow}
use Rattle.std.specs.declared.ops.ControlFlow.TheVariants.{Continue, Break}
use Rattle.faults.specs.declared.Fault.{Fault}
use Rattle.extent.specs.Sizes.{Within, Near}
use Rattle.measure.specs.Words.{IsWord}
use Rattle.lengths.specs.Gaps.{Parts, parts_of}
use Rattle.ledger.specs.declared.records.ItemRecord.{ItemRecord}
use Rattle.ledger.specs.declared.records.ItemRecord.TheVariants.{Space, CellWord, TemplateWord, Kern, Hfil}
use Rattle.ledger.specs.declared.records.Column.{Column}
use Rattle.ledger.specs.declared.records.ColumnRecord.{ColumnRecord}
use Rattle.ledger.specs.Chunks.{total}
use Rattle.ledger.specs.Ledger.{Item}
use Rattle.ledger.specs.Calls.{Template, template_at}
use Rattle.ledger.specs.Items.{taken, meant}
use Rattle.ledger.specs.Naturals.{natural}
use Rattle.ledger.specs.Preambles.{Outcome}
use Rattle.templates.specs.declared.memory.Templates.{Templates}
use Rattle.templates.specs.declared.memory.Read.{Read}
use Rattle.templates.specs.declared.memory.Hand.{Hand}
use Rattle.templates.specs.declared.memory.Piece.{Piece}
use Rattle.templates.specs.Readings.{templates_in, gaps_in, written, reading_of, next_in}

-- an item that the first b bytes of a text may give a template
abbrev pub Fine : List ℕ → ℕ → ItemRecord → Type 0
Fine text b Space = Unit {0}
Fine text b (CellWord n) = ⊥
Fine text b (TemplateWord a n) = IsWord (take n (drop a text)) × (a + n ≤ b)
Fine text b (Kern z) = Within 16777215 z
Fine text b Hfil = Unit {0}

-- a column whose parts have at most 64 items each, among the first p
pub record Lies (p : ℕ) (c : Column) : Type 0 where
  pub within : c.from + (c.u + c.v) ≤ p
  pub few-u : c.u ≤ 64
  pub few-v : c.v ≤ 64

abbrev pub LiesIn : {E : Type 0} → ℕ → ColumnRecord E → Type 0
LiesIn p c = Lies p c.template

-- a hand that the memory has room for
pub record Fits {E : Type 0} (h : Hand E) (t : Templates E) : Type 0 where
  pub columns : h.columns ≤ length t.columns
  pub pieces : written h ≤ length t.pieces
  pub few : h.columns < 32
  pub below : h.column.template.from ≤ 128 * h.columns
  pub few-u : h.column.template.u ≤ 64
  pub few-v : h.column.template.v ≤ 64
  pub bare : h.marked ≡ false → h.column.template.v ≡ 0
  pub lies : AllByRecursion (LiesIn h.column.template.from) (take h.columns t.columns)

-- no item of a template is wider than a word may be
abbrev pub Sized : ℕ → (Item → ℕ → ℤ) → List ℕ → Type 0
Sized count wide text = (it : ItemRecord) (b k : ℕ) → Fine text b it → k < count → Within 1073741823 (wide (meant text it []) k)

-- the widths of the parts on a side, as stored and as they are by the items
abbrev pub u_stored : {E : Type 0} → (E → ℕ → ℤ) → ℕ → ColumnRecord E → ℤ
u_stored num k c = num c.widths.u k

abbrev pub v_stored : {E : Type 0} → (E → ℕ → ℤ) → ℕ → ColumnRecord E → ℤ
v_stored num k c = num c.widths.v k

abbrev pub u_natural : (Item → ℕ → ℤ) → ℕ → Template → ℤ
u_natural wide k t = natural wide t.u k

abbrev pub v_natural : (Item → ℕ → ℤ) → ℕ → Template → ℤ
v_natural wide k t = natural wide t.v k

-- what holds of the first n columns with b bytes
pub record Holds {E : Type 0} (count : ℕ) (num : E → ℕ → ℤ) (wide : Item → ℕ → ℤ) (text : List ℕ) (start : Parts) (n b : ℕ) (t : Templates E) (ts : List Template) : Type 0 where
  pub first : parts_of t.start ≡ start
  pub us : (k : ℕ) → k < count → map (u_stored num k) (take n t.columns) ≡ map (u_natural wide k) ts
  pub vs : (k : ℕ) → k < count → map (v_stored num k) (take n t.columns) ≡ map (v_natural wide k) ts
  pub inside : b ≤ length text

-- .. while it is read
pub record Sound {E : Type 0} (count : ℕ) (num : E → ℕ → ℤ) (wide : Item → ℕ → ℤ) (text : List ℕ) (start : Parts) (h : Hand E) (t : Templates E) : Type 0 where
  pub fits : Fits h t
  pub holds : Holds count num wide text start h.columns h.place t (reading_of text h t).templates
  pub pieces : AllByRecursion (Fine text h.place) (take (written h) t.pieces)
  pub wide-u : (k : ℕ) → k < count → num h.column.widths.u k ≡ natural wide (reading_of text h t).u k
  pub wide-v : (k : ℕ) → k < count → num h.column.widths.v k ≡ natural wide (reading_of text h t).v k

-- .. when it is read
pub record Done {E : Type 0} (count : ℕ) (num : E → ℕ → ℤ) (wide : Item → ℕ → ℤ) (text : List ℕ) (start : Parts) (d : Read) (t : Templates E) : Type 0 where
  pub some : 1 ≤ d.columns
  pub few : d.columns ≤ 32
  pub room : d.pieces ≤ 4096
  pub columns : d.columns ≤ length t.columns
  pub enough : d.pieces ≤ length t.pieces
  pub lies : AllByRecursion (LiesIn d.pieces) (take d.columns t.columns)
  pub holds : Holds count num wide text start d.columns d.bytes t (templates_in text d.pieces d.columns t)
  pub pieces : AllByRecursion (Fine text d.bytes) (take d.pieces t.pieces)

-- after a token at a place
abbrev pub SoundNext : {E : Type 0} → ℕ → (E → ℕ → ℤ) → (Item → ℕ → ℤ) → List ℕ → Parts → ℕ → Templates E → Result (ControlFlow Read (Hand E)) Fault → Type 0
SoundNext count num wide text start place t (Ok (Continue h)) = (place < h.place) × Sound count num wide text start h t
SoundNext count num wide text start place t (Ok (Break d)) = Done count num wide text start d t
SoundNext count num wide text start place t (Err f) = Unit {0}

-- a token's outcome, and that all stays sound
pub record Turns {E : Type 0} (count : ℕ) (num : E → ℕ → ℤ) (wide : Item → ℕ → ℤ) (text : List ℕ) (h : Hand E) (t : Templates E) (o : Outcome) (t' : Templates E) (r : Result (ControlFlow Read (Hand E)) Fault) : Type 0 where
  pub is : next_in text t' r ≡ o
  pub keeps : (start : Parts) → Sound count num wide text start h t → SoundNext count num wide text start h.place t' r

-- the sum of two extents, unless one is large
abbrev pub Adds : {E : Type 0} → ℕ → (E → ℕ → ℤ) → E → E → E → Type 0
Adds count num a b w = (k : ℕ) → k < count → Near (num a k) → Near (num b k) → num w k ≡ num a k +ℤ num b k

-- an item that a token at a place gives
pub record Suits {E : Type 0} (count : ℕ) (num : E → ℕ → ℤ) (wide : Item → ℕ → ℤ) (text : List ℕ) (place : ℕ) (p : Piece E) : Type 0 where
  pub sized : Sized count wide text
  pub fine : Fine text p.end p.item
  pub onward : place < p.end
  pub inside : p.end ≤ length text
  pub width : (k : ℕ) → k < count → num p.width k ≡ wide (meant text p.item []) k

-- what a caller may rely on in what was read
pub record Kept {E : Type 0} (text : List ℕ) (start : Parts) (t : Templates E) (d : Read) : Type 0 where
  pub some : 1 ≤ d.columns
  pub few : d.columns ≤ 32
  pub room : d.pieces ≤ 4096
  pub inside : d.bytes ≤ length text
  pub first : parts_of t.start ≡ start
  pub columns : (c : ℕ) (e : ColumnRecord E) → c < d.columns → Lies d.pieces (slice_index_or t.columns c e).template
  pub bare : total taken (take d.pieces t.pieces) ≡ 0
  pub words : (i a n : ℕ) (e : ItemRecord) → i < d.pieces → slice_index_or t.pieces i e ≡ TemplateWord a n → IsWord (take n (drop a text)) × (a + n ≤ d.bytes)
  pub gaps : AllByRecursion (λ g. Within 16777215 g.natural) (parts_of t.start ∷ gaps_in d.columns t)
  -- so much lies in the memory
  pub long-columns : d.columns ≤ length t.columns
  pub long-pieces : d.pieces ≤ length t.pieces

-- the stored widths are those of the templates' items, and none is large
pub record Widths {E : Type 0} (count : ℕ) (num : E → ℕ → ℤ) (wide : Item → ℕ → ℤ) (text : List ℕ) (t : Templates E) (d : Read) : Type 0 where
  pub us : (c k : ℕ) (e : ColumnRecord E) → k < count → c < d.columns → num (get_or t.columns c e).widths.u k ≡ natural wide (template_at (templates_in (take d.bytes text) d.pieces d.columns t) c).u k
  pub vs : (c k : ℕ) (e : ColumnRecord E) → k < count → c < d.columns → num (get_or t.columns c e).widths.v k ≡ natural wide (template_at (templates_in (take d.bytes text) d.pieces d.columns t) c).v k
  pub small_u : (c k : ℕ) → k < count → Within 68719476736 (natural wide (template_at (templates_in (take d.bytes text) d.pieces d.columns t) c).u k)
  pub small_v : (c k : ℕ) → k < count → Within 68719476736 (natural wide (template_at (templates_in (take d.bytes text) d.pieces d.columns t) c).v k)

-- where something was read
abbrev pub KeptIn : {E : Type 0} → List ℕ → Parts → Templates E → Result Read Fault → Type 0
KeptIn text start t (Ok d) = Kept text start t d
KeptIn text start t (Err f) = Unit {0}

abbrev pub WidthsIn : {E : Type 0} → ℕ → (E → ℕ → ℤ) → (Item → ℕ → ℤ) → List ℕ → Templates E → Result Read Fault → Type 0
WidthsIn count num wide text t (Ok d) = Widths count num wide text t d
WidthsIn count num wide text t (Err f) = Unit {0}
