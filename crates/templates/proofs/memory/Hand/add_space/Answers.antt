use Rattle.std.proofs.Common.{◌≡◌, ℕ, true, false, cond, leb, sym, ap, ◌∙◌}
use Rattle.ledger.specs.Preambles.{bare}
use Rattle.templates.specs.Readings.{reading_of}
use Rattle.templates.proofs.Taking.{length-u}
use Rattle.templates.proofs.Moves.{moved-turns}
use Rattle.templates.proofs.memory.Hand.add_space.Goals as goal

pub returns-then-is_bare : goal.returns-then-is_bare
returns-then-is_bare g c = λ text wide sized width on le.
    let h = c.args.self in
    let t = c.args.into.now in
    let yes : bare (reading_of text h t) ≡ true = ap (λ (n : ℕ). cond h.marked false (leb n 0)) (length-u text h t c.requires) ∙ sym c.if-is_bare.ensures in
    rw yes (moved-turns _ _ _ _ h t c.args.end h.marked h.column.gap on le (λ m. m))

pub returns : goal.returns
returns g c = λ text wide sized width on le.
    let h = c.args.self in
    let t = c.args.into.now in
    let none : bare (reading_of text h t) ≡ false = ap (λ (n : ℕ). cond h.marked false (leb n 0)) (length-u text h t c.requires) ∙ sym c.if-is_bare.ensures in
    rw none (c.take_item.ensures text wide (record { sized = sized; fine = tt; onward = on; inside = le; width = λ k lt. width k }))
