use Rattle.std.proofs.Common.{◌≡◌, ℕ, ◌<◌, ◌≤◌, min, List, get_or, None}
use Rattle.widths.specs.declared.Entry.{Entry}
use Rattle.widths.specs.Merging.{row}
use Rattle.widths.specs.Entries.{widest, on_side}
use Rattle.spans.specs.Tables.{Tabled, column, after, TameOn}
use Rattle.spans.proofs.table.SpanTable.merge_rows.Given as goal

abbrev pub invariant-loop-q : goal.invariant-loop-q
invariant-loop-q g l = let m = g.E.Extent in
    ((es : List (Entry g.row.E.Denot)) → Tabled m.count m.num l.self.columns l.self.cells.now es → (k i : ℕ) → k < m.count → TameOn m.num k es l.gaps → i < l.self.columns →
    column m.num k l.widths i ≡ row (widest (on_side m.num k es)) (after m.entered k l.gaps) (min l.q i) i)
    × ((j : ℕ) → l.self.columns ≤ j → get_or l.widths j None ≡ get_or l.initial.widths j None)
