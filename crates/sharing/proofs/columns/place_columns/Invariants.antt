use Rattle.std.proofs.Common.{◌≡◌, ℕ, ◌<◌, slice_index_or}
use Rattle.widths.specs.Formula.{natural}
use Rattle.sharing.specs.declared.Edges.{Edges}
use Rattle.sharing.specs.Columns.{edges_of}
use Rattle.sharing.specs.Views.{widths_on, first_on, behind_on}
use Rattle.sharing.proofs.columns.place_columns.Given as goal

abbrev pub invariant-loop-j : goal.invariant-loop-j
invariant-loop-j l = record {
  left : l.left ≡ natural (first_on l.set) (widths_on l.widths) (behind_on l.set) l.j;
  columns : (i : ℕ) → i < l.j → (d : Edges) → slice_index_or l.columns i d ≡ edges_of (widths_on l.widths) (first_on l.set) (behind_on l.set) i;
}
