-- What the marks and the lent memory say.
use Rattle.std.specs.Prelude.{◌≡◌, ℕ, ◌+◌, ◌≤◌, List, [], ◌∷◌, ◌++◌, length, take, drop}
use Rattle.ledger.specs.declared.records.ItemRecord.{ItemRecord}
use Rattle.rows.specs.declared.state.EntryRecord.{EntryRecord}
use Rattle.rows.specs.declared.state.LineRecord.{LineRecord}
use Rattle.rows.specs.declared.state.LineRecord.TheVariants.{Row, Rule, Gap}
use Rattle.rows.specs.declared.state.Marks.{Marks}
use Rattle.rows.specs.declared.state.Memory.{Memory}
use Rattle.rows.specs.declared.state.State.{State}
use Rattle.ledger.specs.Chunks.{chunks, total}
use Rattle.ledger.specs.Items.{taken, decoded_items}
use Rattle.ledger.specs.Ledger.{Item, Entry, Line, row, rule, gap}

-- d with w written over it from place at
abbrev pub over : {X : Type 0} → List X → ℕ → List X → List X
over d at w = take at d ++ (w ++ drop (at + length w) d)

-- the part of a list between two marks
abbrev pub part : {X : Type 0} → ℕ → ℕ → List X → List X
part a b xs = drop a (take b xs)

-- entries over items
abbrev pub counted : {E : Type 0} → EntryRecord E → ℕ
counted e = e.count

abbrev pub entry_of : {E : Type 0} → EntryRecord E → List Item → Entry
entry_of e xs = record { first = e.entry.first; last = e.entry.last; items = xs }

abbrev pub decoded_entries : {E : Type 0} → List (EntryRecord E) → List Item → List Entry
decoded_entries es xs = chunks counted entry_of es xs

-- lines over entries
abbrev pub rowed : LineRecord → ℕ
rowed (Row n) = n
rowed Rule = 0
rowed (Gap z) = 0

abbrev pub line_of : LineRecord → List Entry → Line
line_of (Row n) es = row es
line_of Rule es = rule
line_of (Gap z) es = gap z

abbrev pub decoded_lines : List LineRecord → List Entry → List Line
decoded_lines ls es = chunks rowed line_of ls es

-- what lies below marks k
abbrev pub laid_lines : {E : Type 0} → List ℕ → List LineRecord → List (EntryRecord E) → List ItemRecord → List ℕ → List Line
laid_lines p ls es is t = decoded_lines ls (decoded_entries es (decoded_items p is t))

-- the lines laid, the entries finished since, the items since
pub record Held : Type 0 where
  pub lines : List Line
  pub done : List Entry
  pub items : List Item

abbrev pub held_by : {E : Type 0} → List ℕ → ℕ → Marks → Marks → List LineRecord → List (EntryRecord E) → List ItemRecord → List ℕ → Held
held_by p n k m ls es is t = record {
  lines = laid_lines p (take n ls) (take k.entries es) (take k.items is) (take k.text t);
  done = decoded_entries (part k.entries m.entries es) (decoded_items p (part k.items m.items is) (part k.text m.text t));
  items = drop (total counted (part k.entries m.entries es)) (decoded_items p (part k.items m.items is) (part k.text m.text t));
}

abbrev pub held_of : {E : Type 0} → List ℕ → State E → Memory E → Held
held_of p s m = held_by p s.lines s.laid s.marks m.lines.now m.entries.now m.items.now m.text.now

-- the marks fit the memory and what it holds
pub record FitBy {E : Type 0} (n : ℕ) (k m : Marks) (b : ℕ) (ls : List LineRecord) (es : List (EntryRecord E)) (is : List ItemRecord) (t : List ℕ) : Type 0 where
  pub lines : n ≤ length ls
  pub items : m.items ≤ length is
  pub entries : m.entries ≤ length es
  pub text : m.text ≤ length t
  pub since_items : k.items ≤ b
  pub begin-items : b ≤ m.items
  pub since_entries : k.entries ≤ m.entries
  pub since_text : k.text ≤ m.text
  pub laid-entries : total rowed (take n ls) ≡ k.entries
  pub laid-items : total counted (take k.entries es) ≡ k.items
  pub laid-text : total taken (take k.items is) ≡ k.text
  pub hand-items : k.items + total counted (part k.entries m.entries es) ≡ b
  pub hand-text : k.text + total taken (part k.items m.items is) ≡ m.text

abbrev pub Fit : {E : Type 0} → State E → Memory E → Type 0
Fit s m = FitBy s.lines s.laid s.marks s.row.begin m.lines.now m.entries.now m.items.now m.text.now

-- one more item
abbrev pub pushed : Held → List Item → Held
pushed h xs = record { lines = h.lines; done = h.done; items = h.items ++ xs }

-- the items so far become an entry
abbrev pub closed : Held → ℕ → ℕ → Held
closed h a b = record { lines = h.lines; done = h.done ++ record { first = a; last = b; items = h.items } ∷ []; items = [] }

-- the entries so far become a row
abbrev pub laid_down : Held → Held
laid_down h = record { lines = h.lines ++ row h.done ∷ []; done = []; items = [] }

-- nothing since
abbrev pub emptied : Held → Held
emptied h = record { lines = h.lines; done = []; items = [] }

-- one more line without entries
abbrev pub ruled : Held → Line → Held
ruled h s = record { lines = h.lines ++ s ∷ []; done = h.done; items = h.items }
