use Rattle.ledger.proofs.Sized.{fine-sized}
use Rattle.table.proofs.Keeps.{after-start}
use Rattle.table.specs.Views.{wide_in}
use Rattle.table.proofs.table.Table.start.Goals as goal

pub invariant_of-self : goal.invariant_of-self
invariant_of-self g c =
    let t = c.args.self.now in
    let x = t.measurer.now in
    let X = g.M.Extent.Extent in
    let e = c.start.ensures in
    let k = after-start t (fine-sized X.count X.num X.entered (g.M.Measurer.meaning x) (g.M.Measurer.blank x) (λ w y. g.met.M.Measurer.bounded x w y) (g.met.M.Measurer.spaced x) g.met.M.Extent.Extent.bounded) c.start.new.self e.stays (e.sound (wide_in t) t.meant) c.args.cell.column c.start.result (e.answer (wide_in t) t.meant) e.ledger in
    record { few = k.few; meant = k.meant; fitting = k.fitting; lawful = k.lawful }
