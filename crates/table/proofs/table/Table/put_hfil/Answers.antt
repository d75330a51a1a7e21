use Rattle.std.proofs.Common.{refl}
use Rattle.ledger.specs.Ledger.{hfil}
use Rattle.rows.proofs.Verdicts.{passed}
use Rattle.table.specs.Views.{wide_in}
use Rattle.table.proofs.Verdicts.{put-answer}
use Rattle.table.proofs.table.Table.put_hfil.Goals as goal

pub add-requires-clause-fine : goal.add-requires-clause-fine
add-requires-clause-fine g c = refl

pub returns-clause-answer : goal.returns-clause-answer
returns-clause-answer g c =
    let t = c.args.self.now in
    put-answer g.M.Extent.Extent.count (wide_in t) (g.M.Measurer.meaning t.measurer.now) t.rows.preamble t.rows.draft.state t.rows.draft.memory c.args.cell.now.column hfil _ (passed _ _ c.in_ok-check_cell.ensures) refl c.add.ensures.answer
