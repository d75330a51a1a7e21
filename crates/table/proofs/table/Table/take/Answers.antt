use Rattle.std.proofs.Common.{◌≡◌, Err, ◌∙◌, rules}
use Rattle.rows.proofs.Verdicts.{refusal-of}
use Rattle.ledger.proofs.Sized.{fine-sized}
use Rattle.table.proofs.Keeps.{after-take}
use Rattle.table.specs.Views.{wide_in}
use Rattle.table.proofs.table.Table.take.Goals as goal

pub returns-in_err-take-clause-answer : goal.returns-in_err-take-clause-answer
returns-in_err-take-clause-answer g c =
    let same : c.from_residual.result ≡ Err c.in_err-take.field-0.0 = search rules in
    same ∙ refusal-of _ _ tt _ c.in_err-take.ensures.answer

pub invariant_of-self : goal.invariant_of-self
invariant_of-self g c =
    let t = c.args.self.now in
    let x = t.measurer.now in
    let X = g.M.Extent.Extent in
    let e = c.take.ensures in
    let k = after-take t (fine-sized X.count X.num X.entered (g.M.Measurer.meaning x) (g.M.Measurer.blank x) (λ w y. g.met.M.Measurer.bounded x w y) (g.met.M.Measurer.spaced x) g.met.M.Extent.Extent.bounded) c.take.new.self e.stays (e.sound (wide_in t) t.meant) c.take.result e.answer e.ledger in
    record { few = k.few; meant = k.meant; fitting = k.fitting; lawful = k.lawful }
