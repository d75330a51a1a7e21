-- Entries over columns, counted from 0, and what they ask of the widths. Assumes nothing.
use Rattle.std.specs.Prelude.{ℕ, ◌<◌, ◌≤◌, cond, ◌&&◌, List, [], ◌∷◌, map, ℤ, ◌≤ℤ◌, Some, None, Option, ◌==◌, ◌≢◌}
use Rattle.std.specs.List.{AllByRecursion}
use Rattle.widths.specs.declared.Entry.{Entry}
use Rattle.widths.specs.Merging.{join}
use Rattle.widths.specs.Formula.{reach}

-- side k of an entry, and of entries
abbrev pub sided : {E : Type 0} → (E → ℕ → ℤ) → ℕ → Entry E → Entry ℤ
sided num k e = record { first = e.first; last = e.last; width = num e.width k }

abbrev pub on_side : {E : Type 0} → (E → ℕ → ℤ) → ℕ → List (Entry E) → List (Entry ℤ)
on_side num k es = map (sided num k) es

-- what one entry says of the span from i to j
abbrev pub asked : Entry ℤ → ℕ → ℕ → Option ℤ
asked e i j = cond (e.first == i && e.last == j) (Some e.width) None

-- W(i,j): the larger-of of the natural widths of all entries over columns i to j
unfoldable pub widest : List (Entry ℤ) → ℕ → ℕ → Option ℤ
widest [] i j = None
widest (e ∷ es) i j = join (asked e i j) (widest es i j)

-- entries that lie in n columns
abbrev pub Proper : {E : Type 0} → ℕ → List (Entry E) → Type 0
Proper n es = AllByRecursion (λ e. (e.first ≤ e.last) × (e.last < n)) es

-- widths w between gaps g hold the entries: each one's columns with the gaps between reach its natural width
abbrev pub Holds : (ℕ → Option ℤ) → (ℕ → ℤ) → List (Entry ℤ) → Type 0
Holds w g es = AllByRecursion (λ e. e.width ≤ℤ reach w g e.first e.last) es

-- no entry ends in column j
abbrev pub NoneEnds : ℕ → List (Entry ℤ) → Type 0
NoneEnds j es = AllByRecursion (λ e. e.last ≢ j) es
