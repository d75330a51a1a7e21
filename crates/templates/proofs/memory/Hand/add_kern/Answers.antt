use Rattle.std.proofs.Common.{◌≡◌, sym, ◌∙◌, subst, arith, w64, to_z, of_z, ℤ}
use Rattle.std.proofs.lemmas.Int.{ints}
use Rattle.ledger.specs.Ledger.{kern}
use Rattle.ledger.specs.Preambles.{taking}
use Rattle.templates.specs.Kept.{Turns}
use Rattle.templates.specs.Readings.{reading_of}
use Rattle.templates.proofs.memory.Hand.add_kern.Goals as goal

pub returns : goal.returns
returns g c = λ wide sized by on.
    let X = g.E.Extent in
    let h = c.args.self in
    let t = c.args.into.now in
    let text = c.args.text.now in
    let l = c.in_ok-length.length in
    let w = c.in_ok-length.ensures.within in
    let z = to_z w64 (of_z w64 l.sp) in
    let back : z ≡ l.sp = omega (arith, ints, w.0.0, w.0.1) in
    rw (sym c.in_ok-length.ensures.answer)
    (subst (λ (n : ℤ). Turns X.count X.num wide text h t (taking (reading_of text h t) (kern n) c.args.end l.end) c.take_item.new.into c.take_item.result) back
    (c.take_item.ensures text wide (record {
      sized = sized;
      fine = (omega (arith, ints, w.0.0, back), omega (arith, ints, w.0.1, back));
      onward = omega (arith, w.1);
      inside = w.2;
      width = λ k lt. c.enter.ensures k lt ∙ sym (by k z);
    })))
