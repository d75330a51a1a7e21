use Rattle.std.proofs.Common.{length}
use Rattle.spans.proofs.Refused.{table_fits}
use Rattle.spans.proofs.Tabling.{tabled_none}
use Rattle.spans.proofs.table.SpanTable.clear.Goals as goal

pub returns-clause-empty : goal.returns-clause-empty
returns-clause-empty g c =
    let t = c.args.self.now in
    let fits = table_fits t.columns (length t.cells.now) (c.in_ok-check.ensures) in
    λ _. tabled_none g.E.Extent.count g.E.Extent.num t.columns c.empty.new.self.cells.now fits.few c.empty.ensures.emptied
