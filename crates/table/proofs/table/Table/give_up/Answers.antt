use Rattle.ledger.proofs.Sized.{fine-sized}
use Rattle.table.proofs.Keeps.{after-give_up}
use Rattle.table.specs.Views.{wide_in}
use Rattle.table.proofs.table.Table.give_up.Goals as goal

pub invariant_of-self : goal.invariant_of-self
invariant_of-self g c =
    let t = c.args.self.now in
    let x = t.measurer.now in
    let X = g.M.Extent.Extent in
    let e = c.give_up.ensures in
    let k = after-give_up t (fine-sized X.count X.num X.entered (g.M.Measurer.meaning x) (g.M.Measurer.blank x) (λ w y. g.met.M.Measurer.bounded x w y) (g.met.M.Measurer.spaced x) g.met.M.Extent.Extent.bounded) c.give_up.new.self e.stays (e.sound (wide_in t) t.meant) _ e.ledger in
    record { few = k.few; meant = k.meant; fitting = k.fitting; lawful = k.lawful }
