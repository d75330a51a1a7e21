use Rattle.std.proofs.Common.{◌≡◌, ℕ, to_z, of_z, w64, Result, ap, ◌∙◌, sym, arith}
use Rattle.std.proofs.lemmas.Int.{ints}
use Rattle.measure.specs.declared.measurer.Metrics.{Metrics}
use Rattle.ledger.specs.Naturals.{word_by}
use Rattle.packer.specs.Looks.{height_by, depth_by}
use Rattle.packer.proofs.Fine.{fine-known}
use Rattle.packer.proofs.source.Source.word.Goals as goal

pub returns-in-Ok : goal.returns-in-Ok
returns-in-Ok g c =
    let X = g.M.Extent.Extent in
    let m = c.args.self.now.measurer.now in
    let k = c.args.self.now.side in
    let q = fine-known (g.M.Measurer.meaning m) c.args.bytes.now c.requires.known in
    let ans = c.in-Ok.ensures.answer q.word in
    let b = g.met.M.Measurer.bounded m c.args.bytes.now c.in-Ok.metrics q.word (sym ans) k c.requires.side in
    let wide : to_z w64 (of_z w64 c.on_side.result) ≡ X.num c.in-Ok.metrics.width k = omega (arith, ints) in
    let high : to_z w64 (of_z w64 c.on_side-in-Ok.result) ≡ X.num c.in-Ok.metrics.height k = omega (arith, ints) in
    let deep : to_z w64 (of_z w64 c.on_side-in-Ok-2.result) ≡ X.num c.in-Ok.metrics.depth k = omega (arith, ints) in
    let wide-is = wide ∙ ap (λ (r : Result (Metrics g.row.M-Extent.Denot) ℕ). word_by X.num r k) ans in
    let high-is = high ∙ ap (λ (r : Result (Metrics g.row.M-Extent.Denot) ℕ). height_by X.num k r) ans in
    let deep-is = deep ∙ ap (λ (r : Result (Metrics g.row.M-Extent.Denot) ℕ). depth_by X.num k r) ans in
    record {
      is = λ i. record { wide = wide-is i; high = high-is i; deep = deep-is i };
      narrow = (omega (arith, ints), omega (arith, ints));
      high = (omega (arith, ints), omega (arith, ints));
      deep = (omega (arith, ints), omega (arith, ints));
    }

pub returns-in-Err : goal.returns-in-Err
returns-in-Err g c =
    let q = fine-known (g.M.Measurer.meaning c.args.self.now.measurer.now) c.args.bytes.now c.requires.known in
    let ans = c.in-Err.ensures.answer q.word in
    let meant = q.meant in
    absurd (cc)
