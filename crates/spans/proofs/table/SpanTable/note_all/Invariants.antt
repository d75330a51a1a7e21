use Rattle.std.proofs.Common.{◌≡◌, map, length, take}
use Rattle.spans.specs.Tables.{Tabled}
use Rattle.spans.proofs.table.SpanTable.note_all.Given as goal

abbrev pub invariant-loop-entry : goal.invariant-loop-entry
invariant-loop-entry g l = let m = g.E.Extent in
    (l.self.columns ≡ l.fn.self.columns)
    × (length l.self.cells.now ≡ length l.fn.self.cells.now)
    × Tabled {E = g.row.E.Denot} m.count m.num l.fn.self.columns l.self.cells.now (take l.entry-index (map g.R.Spanned.entry l.entries))
