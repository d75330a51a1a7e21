use Rattle.templates.proofs.Finished.{ended-turns}
use Rattle.templates.proofs.memory.Hand.last_column.Goals as goal

pub returns : goal.returns
returns g c = λ text wide on le.
    rw (c.written.ensures, c.put_column.ensures.memory)
    (ended-turns _ _ _ _ c.args.self c.args.into.now c.requires c.put_column.ensures.room c.args.end on le c.in_ok-whole.ensures.ok)
