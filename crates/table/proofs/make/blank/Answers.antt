use Rattle.std.proofs.Common.{◌<◌, [], ◌∷◌, length, ap, ◌∙◌, rules}
use Rattle.ledger.specs.declared.records.ColumnRecord.{ColumnRecord}
use Rattle.table.proofs.Blanks.{first-set}
use Rattle.table.proofs.make.blank.Goals as goal

pub returns-clause-column : goal.returns-clause-column
returns-clause-column g c =
    let t = c.args.templates.now in
    let e = c.empty_column.ensures in
    let some : 0 < length t.columns = search rules in
    (c.empty_column.result.widths, (first-set t.columns c.empty_column.result some ∙ ap (λ (x : ColumnRecord g.row.E.Denot). x ∷ []) e.is, λ k kc. (e.u k kc, e.v k kc)))
