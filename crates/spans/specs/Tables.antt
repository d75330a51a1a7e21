-- A span table in lent memory, and its sides. Assumes nothing.
use Rattle.std.specs.Prelude.{◌≡◌, ℕ, ◌+◌, ◌*◌, ◌<◌, ◌≤◌, List, [], ◌∷◌, length, map, get_or, ℤ, pos, None, Ok, Err, Option, Result, slice_index_or}
use Rattle.std.proofs.lemmas.List.{map-id}
use Rattle.spans.specs.declared.table.SpanTable.{SpanTable}
use Rattle.widths.specs.declared.Entry.{Entry}
use Rattle.widths.specs.Merging.{seen}
use Rattle.widths.specs.Entries.{widest, on_side, Proper}
use Rattle.widths.specs.Settling.{Tame, Sized, Settled}

-- the cell for the columns i to j
abbrev pub cell : {E : Type 0} → List (Option E) → ℕ → ℕ → Option E
cell table i j = slice_index_or table (i * 32 + j) None

-- the memory holds the larger-of of these entries: on each side, for each span of the n columns
pub record Tabled {E : Type 0} (count : ℕ) (num : E → ℕ → ℤ) (n : ℕ) (table : List (Option E)) (es : List (Entry E)) : Type 0 where
  pub proper : Proper n es
  pub widths : (k i j : ℕ) → k < count → i ≤ j → j < n → seen num k (cell table i j) ≡ widest (on_side num k es) i j

-- what lies from place n on stays
abbrev pub KeptFrom : {X : Type 0} → X → ℕ → List X → List X → Type 0
KeptFrom d n xs ys = (j : ℕ) → n ≤ j → slice_index_or ys j d ≡ slice_index_or xs j d

-- a step changes neither how many columns there are nor how many cells
pub record SameSize {E : Type 0} (t t' : SpanTable E) : Type 0 where
  pub columns : t'.columns ≡ t.columns
  pub room : length t'.cells.now ≡ length t.cells.now

-- the entry, where it was accepted
abbrev pub accepted : {E X Y : Type 0} → Result X Y → Entry E → List (Entry E)
accepted (Ok x) e = e ∷ []
accepted (Err y) e = []

-- side k of lent widths
abbrev pub column : {E : Type 0} → (E → ℕ → ℤ) → ℕ → List (Option E) → ℕ → Option ℤ
column num k ws j = seen num k (slice_index_or ws j None)

-- side k of gaps as they enter the kind: the starting gap comes first, then the gap after each column
abbrev pub starting : (ℕ → ℤ → ℤ) → ℕ → List ℤ → ℤ
starting entered k gaps = entered k (slice_index_or gaps 0 (pos 0))

abbrev pub after : (ℕ → ℤ → ℤ) → ℕ → List ℤ → ℕ → ℤ
after entered k gaps j = entered k (slice_index_or gaps (j + 1) (pos 0))

-- side k of n widths is settled for the entries between the gaps
abbrev pub SettledOn : {E : Type 0} → (E → ℕ → ℤ) → (ℕ → ℤ → ℤ) → ℕ → List (Entry E) → List ℤ → ℕ → List (Option E) → Type 0
SettledOn num entered k es gaps n ws = Settled (on_side num k es) (starting entered k gaps) (after entered k gaps) n (column num k ws)

-- side k of n widths and of the gaps lies in the range in which extents are exact
abbrev pub SizedOn : {E : Type 0} → (E → ℕ → ℤ) → (ℕ → ℤ → ℤ) → ℕ → List ℤ → ℕ → List (Option E) → Type 0
SizedOn num entered k gaps n ws = Sized (starting entered k gaps) (after entered k gaps) n (column num k ws)

-- side k of the entries and the gaps' lengths keep to a table's sizes
abbrev pub TameOn : {E : Type 0} → (E → ℕ → ℤ) → ℕ → List (Entry E) → List ℤ → Type 0
TameOn num k es gaps = Tame (on_side num k es) (slice_index_or gaps 0 (pos 0)) (λ j. get_or gaps (j + 1) (pos 0))

-- entries stand for themselves: what is promised of records that stand for entries is promised of entries
pub entries-themselves : {E : Type 0} (es : List (Entry E)) → map (λ e. e) es ≡ es
entries-themselves es = map-id es
