use Rattle.std.proofs.Common.{drop}
use Rattle.packer.proofs.TableLeft.{TableLeft}
use Rattle.packer.proofs.source.Source.draw_lines.Given as goal

abbrev pub invariant-loop-line : goal.invariant-loop-line
invariant-loop-line g l = TableLeft g.M.Measurer g.M.Extent.Extent l.self l.columns l.width l.lines l.entries l.items l.fn.pen (drop l.line-index l.lines) l.rest.entries.now l.rest.items.now l.rest.place l.top l.pen
