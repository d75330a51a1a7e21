-- What a span table refuses, in this order. Assumes nothing.
use Rattle.std.specs.Prelude.{◌≡◌, ℕ, ◌*◌, Bool, true, cond, ◌&&◌, List, [], ◌∷◌, Some, None, Ok, Err, Option, Result, nat_le, nat_lt}
use Rattle.widths.specs.declared.Entry.{Entry}
use Rattle.spans.specs.declared.table.Misfit.{Misfit}
use Rattle.spans.specs.declared.table.Misfit.TheVariants.{Columns, Memory, Span}

-- 1 to 32 columns, and 32 cells for each
abbrev pub table_fault : ℕ → ℕ → Option Misfit
table_fault n room = cond (nat_le 1 n && nat_le n 32) (cond (nat_le (n * 32) room) None (Some Memory)) (Some Columns)

abbrev pub or_else : Option Misfit → Option Misfit → Option Misfit
or_else (Some m) o = Some m
or_else None o = o

-- a span from column i to the same or a later one of the n
abbrev pub span_fault : ℕ → ℕ → ℕ → ℕ → Option Misfit
span_fault n room i j = or_else (table_fault n room) (cond (nat_le i j && nat_lt j n) None (Some Span))

-- a width for each column
abbrev pub row_fault : ℕ → ℕ → ℕ → Option Misfit
row_fault n room widths = or_else (table_fault n room) (cond (nat_le n widths) None (Some Memory))

-- and the starting gap with a gap after each
abbrev pub merge_fault : ℕ → ℕ → ℕ → ℕ → Option Misfit
merge_fault n room widths gaps = or_else (row_fault n room widths) (cond (nat_lt n gaps) None (Some Memory))

-- the turn of a column that the table has
abbrev pub turn_fault : ℕ → ℕ → ℕ → ℕ → Option Misfit
turn_fault n room widths q = or_else (row_fault n room widths) (cond (nat_lt q n) None (Some Span))

-- an entry, and each of several, lies in the n columns
abbrev pub lie : {E : Type 0} → ℕ → Entry E → Bool
lie n e = nat_le e.first e.last && nat_lt e.last n

abbrev pub all_lie : {E : Type 0} → ℕ → List (Entry E) → Bool
all_lie n [] = true
all_lie n (e ∷ es) = lie n e && all_lie n es

abbrev pub settle_fault : {E : Type 0} → ℕ → ℕ → ℕ → ℕ → List (Entry E) → Option Misfit
settle_fault n room widths gaps es = or_else (merge_fault n room widths gaps) (cond (all_lie n es) None (Some Span))

-- a width, a gap and an edge for each of 1 to 32 columns, and the starting gap
abbrev pub edges_fault : ℕ → ℕ → ℕ → ℕ → Option Misfit
edges_fault n widths gaps edges = cond (nat_le 1 n && nat_le n 32) (cond (nat_le n widths && (nat_lt n gaps && nat_le n edges)) None (Some Memory)) (Some Columns)

-- a refusal, or the answer
abbrev pub unless : {X : Type 0} → Option Misfit → X → Result X Misfit
unless None x = Ok x
unless (Some m) x = Err m

-- the answer is a refusal exactly as said
abbrev pub Refusing : {X : Type 0} → Option Misfit → Result X Misfit → Type 0
Refusing None (Ok x) = Unit {0}
Refusing None (Err m) = ⊥
Refusing (Some f) (Ok x) = ⊥
Refusing (Some f) (Err m) = m ≡ f
