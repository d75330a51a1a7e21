use Rattle.ledger.proofs.Sized.{fine-sized}
use Rattle.table.proofs.Keeps.{line-read, after-line}
use Rattle.table.proofs.table.Table.line.Goals as goal

pub returns-clause-law : goal.returns-clause-law
returns-clause-law g c =
    let t = c.args.self.now in
    line-read t c.read_line.new.rows c.args.text.now c.read_line.result (c.read_line.ensures.answer t.meant) (c.read_line.ensures.ledger t.meant)

pub invariant_of-self : goal.invariant_of-self
invariant_of-self g c =
    let t = c.args.self.now in
    let x = t.measurer.now in
    let X = g.M.Extent.Extent in
    let e = c.read_line.ensures in
    let r = c.read_line.new.rows in
    let k = after-line t (fine-sized X.count X.num X.entered (g.M.Measurer.meaning x) (g.M.Measurer.blank x) (λ w y. g.met.M.Measurer.bounded x w y) (g.met.M.Measurer.spaced x) g.met.M.Extent.Extent.bounded) r e.stays (e.sound t.meant) c.args.text.now c.read_line.result
    (line-read t r c.args.text.now c.read_line.result (e.answer t.meant) (e.ledger t.meant)) in
    record { few = k.few; meant = k.meant; fitting = k.fitting; lawful = k.lawful }
