use Rattle.std.proofs.lemmas.Result.{err_from_is_err_and}
use Rattle.lines.proofs.Whole.{goes-reads, lies-reads, refuses-reads}
use Rattle.lines.proofs.row.read_row.Goals as goal

pub returns-in-Continue : goal.returns-in-Continue
returns-in-Continue g c = goes-reads _ _ _ _ _ _ _ _ _ c.in-Continue.next _ c.in-Continue.is c.in_ok-next.ensures _ _ c.read_rest.ensures

pub returns-in-Break : goal.returns-in-Break
returns-in-Break g c = lies-reads _ _ _ _ _ _ _ _ _ c.in-Break.bytes _ c.in-Break.is c.in_ok-next.ensures

pub returns-in_err-next : goal.returns-in_err-next
returns-in_err-next g c =
    let err = err_from_is_err_and c.from_residual.result c.from_residual.ensures.1 in
    rw (err.1, err.2) (refuses-reads _ _ _ _ _ _ _ _ _ c.in_err-next.field-0.0 c.in_err-next.ensures)
