use Rattle.std.proofs.lemmas.Result.{err_from_is_err_and}
use Rattle.ledger.specs.Naturals.{wide_of}
use Rattle.lines.proofs.Whole.{begins-row, goes, nearer, laid-row, refused-row}
use Rattle.lines.proofs.row.read_rest.Goals as goal

pub loop-next-init : goal.loop-next-init
loop-next-init g c =
    let X = g.M.Extent.Extent in
    begins-row X.count X.num (wide_of g.M.Measurer X c.args.measurer.now) c.args.text.now (g.M.Measurer.meaning c.args.measurer.now) c.args.rows.now c.args.start c.requires.open c.requires.inside.0 c.requires.inside.1

pub loop-next-smaller : goal.loop-next-smaller
loop-next-smaller g c = nearer _ _ _ _ _ _ _ _ _ c.loop-next.invariant _ c.in-Continue.next c.in_ok-next.field-0 c.in-Continue.is c.in_ok-next.ensures

pub loop-next-preserved : goal.loop-next-preserved
loop-next-preserved g c = goes _ _ _ _ _ _ _ _ _ c.loop-next.invariant _ c.in-Continue.next c.in_ok-next.field-0 c.in-Continue.is c.in_ok-next.ensures

pub returns-in-Break : goal.returns-in-Break
returns-in-Break g c = laid-row _ _ _ _ _ _ _ _ _ c.loop-next.invariant _ c.in-Break.bytes c.in_ok-next.field-0 c.in-Break.is c.in_ok-next.ensures

pub returns-in_err-next : goal.returns-in_err-next
returns-in_err-next g c =
    let err = err_from_is_err_and c.from_residual.result c.from_residual.ensures.1 in
    rw (err.1, err.2) (refused-row _ _ _ _ _ _ _ _ _ c.loop-next.invariant _ c.in_err-next.field-0.0 c.in_err-next.ensures)
