use Rattle.rows.proofs.News.{new-good}
use Rattle.rows.proofs.rows.Rows.new.Goals as goal

pub invariant_of-result : goal.invariant_of-result
invariant_of-result g c = record { good = new-good c.args.preamble c.args.memory c.args.zero }
