use Rattle.table.specs.Views.{wide_in}
use Rattle.table.proofs.table.Table.all_widths.Goals as goal

pub returns-clause-merged : goal.returns-clause-merged
returns-clause-merged g c = λ tame k j kc jn.
    let t = c.args.self.now in
    ((c.settle.ensures.settled (wide_in t) t.meant tame).1 k kc).merged j jn
