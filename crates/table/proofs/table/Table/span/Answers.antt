use Rattle.std.proofs.Common.{rules}
use Rattle.table.proofs.Handings.{handed-answer}
use Rattle.ledger.proofs.Sized.{fine-sized}
use Rattle.table.proofs.Keeps.{after-span}
use Rattle.table.specs.Views.{wide_in}
use Rattle.table.proofs.table.Table.span.Goals as goal

pub returns-clause-answer : goal.returns-clause-answer
returns-clause-answer g c = handed-answer c.args.cell c.span.result _ _ c.handed.result _ c.span.ensures.answer c.handed.ensures.accepted c.handed.ensures.refused (λ d p. search rules)

pub invariant_of-self : goal.invariant_of-self
invariant_of-self g c =
    let t = c.args.self.now in
    let x = t.measurer.now in
    let X = g.M.Extent.Extent in
    let e = c.span.ensures in
    let k = after-span t (fine-sized X.count X.num X.entered (g.M.Measurer.meaning x) (g.M.Measurer.blank x) (λ w y. g.met.M.Measurer.bounded x w y) (g.met.M.Measurer.spaced x) g.met.M.Extent.Extent.bounded) c.span.new.self e.stays (e.sound (wide_in t) t.meant) c.args.cell.column c.span.result e.answer e.ledger in
    record { few = k.few; meant = k.meant; fitting = k.fitting; lawful = k.lawful }
