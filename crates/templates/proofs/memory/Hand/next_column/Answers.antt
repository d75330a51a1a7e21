use Rattle.std.proofs.Common.{arith}
use Rattle.templates.proofs.Finished.{parted-turns}
use Rattle.templates.proofs.memory.Hand.next_column.Goals as goal

pub returns : goal.returns
returns g c = λ text wide on le.
    let few = c.if-columns-ge-MOST_COLUMNS.false in
    let new = c.empty_column.ensures in
    rw (new.is, c.written.ensures, c.put_column.ensures.memory)
    (parted-turns _ _ _ _ c.args.self c.args.into.now c.requires c.put_column.ensures.room c.args.end on le c.in_ok-whole.ensures.ok (omega arith) c.empty_column.result.widths new.u new.v)
