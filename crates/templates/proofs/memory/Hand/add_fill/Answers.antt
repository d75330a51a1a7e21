use Rattle.std.proofs.Common.{sym, ◌∙◌}
use Rattle.templates.proofs.memory.Hand.add_fill.Goals as goal

pub returns : goal.returns
returns g c = λ text wide sized none on le.
    c.take_item.ensures text wide (record { sized = sized; fine = tt; onward = on; inside = le; width = λ k lt. c.zero.ensures k lt ∙ sym (none k) })
