use Rattle.std.proofs.Common.{◌≡◌, ℕ, ◌+◌, ◌<◌, ◌≤◌, get_or, None}
use Rattle.extent.specs.Sizes.{Near}
use Rattle.widths.specs.Merging.{seen, less, join, size}
use Rattle.spans.specs.Tables.{cell}
use Rattle.spans.proofs.table.SpanTable.carry_row.Given as goal

abbrev pub invariant-loop-j : goal.invariant-loop-j
invariant-loop-j g l = let m = g.E.Extent in
    ((i : ℕ) → i ≤ l.q → get_or l.row i None ≡ get_or l.initial.row i None)
    × ((i : ℕ) → l.j ≤ i → get_or l.row i None ≡ get_or l.initial.row i None)
    × ((k i : ℕ) → k < m.count → l.q < i → i < l.j → Near (size (seen m.num k (get_or l.initial.row i None))) → Near (m.num l.by k) →
    seen m.num k (get_or l.row i None) ≡ join (seen m.num k (cell l.self.cells.now (l.q + 1) i)) (less (seen m.num k (get_or l.initial.row i None)) (m.num l.by k)))
