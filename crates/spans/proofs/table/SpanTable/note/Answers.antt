use Rattle.std.proofs.Common.{length}
use Rattle.spans.proofs.Refused.{span-lies}
use Rattle.spans.proofs.Tabling.{tabled_push}
use Rattle.spans.proofs.table.SpanTable.note.Goals as goal

pub returns-clause-noted : goal.returns-clause-noted
returns-clause-noted g c =
    let m = g.E.Extent in
    let t = c.args.self.now in
    let e = c.args.entry in
    let lies = span-lies t.columns (length t.cells.now) e.first e.last c.in_ok-check_span.ensures in
    tabled_push m.count m.num t.columns t.cells.now c.widen.new.self.cells.now e lies.fits.few lies.forward lies.within c.widen.ensures.here c.widen.ensures.others
