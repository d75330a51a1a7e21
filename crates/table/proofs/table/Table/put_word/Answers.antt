use Rattle.std.proofs.Common.{sym, ap}
use Rattle.std.specs.Result.{is_ok}
use Rattle.ledger.specs.Ledger.{cell_word}
use Rattle.ledger.specs.Naturals.{fault_in}
use Rattle.rows.proofs.Verdicts.{passed}
use Rattle.table.specs.Views.{wide_in}
use Rattle.table.proofs.Verdicts.{put-answer}
use Rattle.table.proofs.table.Table.put_word.Goals as goal

pub add-requires-clause-fine : goal.add-requires-clause-fine
add-requires-clause-fine g c = ap is_ok (sym c.in_ok-metrics.ensures.answer)

pub returns-clause-answer : goal.returns-clause-answer
returns-clause-answer g c =
    let t = c.args.self.now in
    put-answer g.M.Extent.Extent.count (wide_in t) (g.M.Measurer.meaning t.measurer.now) t.rows.preamble t.rows.draft.state t.rows.draft.memory c.args.cell.now.column (cell_word c.args.word.now) _ (passed _ _ c.in_ok-check_cell.ensures) (ap fault_in (sym c.in_ok-metrics.ensures.answer)) c.add.ensures.answer
