use Rattle.std.proofs.Common.{◌+◌, length, get_or, ℤ, pos}
use Rattle.widths.specs.Entries.{on_side}
use Rattle.widths.proofs.Settles.{merging_settles}
use Rattle.spans.specs.Tables.{starting, after, column}
use Rattle.spans.proofs.Refused.{merge-fits}
use Rattle.spans.proofs.Tabling.{proper-on}
use Rattle.spans.proofs.table.SpanTable.merge.Goals as goal

pub returns-clause-settled : goal.returns-clause-settled
returns-clause-settled g c =
    let m = g.E.Extent in
    let t = c.args.self.now in
    let ws = c.args.widths.now in
    let gaps = c.args.gaps.now in
    let fits = merge-fits t.columns (length t.cells.now) (length ws) (length gaps) c.in_ok-check_merge.ensures in
    λ _ es tabled k kc tame.
    let enter : (z : ℤ) → _ = λ z. g.met.E.Extent.bounded k 16777215 z kc in
    merging_settles (on_side m.num k es) (starting m.entered k gaps) (after m.entered k gaps) t.columns (column m.num k c.merge_rows.new.widths) fits.few
    (proper-on m.num k t.columns es tabled.proper)
    (record { entries = tame.entries; starting = enter (get_or gaps 0 (pos 0)) tame.starting; gaps = λ j. enter (get_or gaps (j + 1) (pos 0)) (tame.gaps j) })
    (λ j lt. c.merge_rows.ensures.merged es tabled k j kc tame lt)
