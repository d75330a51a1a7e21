use Rattle.std.proofs.Common.{drop}
use Rattle.packer.proofs.RowLeft.{RowLeft}
use Rattle.packer.proofs.source.Source.draw_row.Given as goal

abbrev pub invariant-loop-entry : goal.invariant-loop-entry
invariant-loop-entry g l = RowLeft g.M.Measurer g.M.Extent.Extent l.self l.columns l.baseline l.entries l.items l.place-2 l.fn.pen (drop l.entry-index l.entries) l.rest l.place l.pen
