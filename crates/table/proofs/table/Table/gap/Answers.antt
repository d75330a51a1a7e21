use Rattle.std.proofs.Common.{sym, ◌∙◌}
use Rattle.ledger.proofs.Sized.{fine-sized}
use Rattle.table.proofs.Keeps.{after-gap}
use Rattle.table.specs.Views.{wide_in}
use Rattle.table.proofs.table.Table.gap.Goals as goal

pub invariant_of-self : goal.invariant_of-self
invariant_of-self g c =
    let t = c.args.self.now in
    let x = t.measurer.now in
    let X = g.M.Extent.Extent in
    let e = c.rule.ensures in
    let k = after-gap t (fine-sized X.count X.num X.entered (g.M.Measurer.meaning x) (g.M.Measurer.blank x) (λ w y. g.met.M.Measurer.bounded x w y) (g.met.M.Measurer.spaced x) g.met.M.Extent.Extent.bounded) c.rule.new.self e.stays (e.sound (wide_in t) t.meant) _ c.rule.result (sym c.gap_fits.ensures ∙ c.if-not-gap_fits.false) e.answer e.ledger in
    record { few = k.few; meant = k.meant; fitting = k.fitting; lawful = k.lawful }
