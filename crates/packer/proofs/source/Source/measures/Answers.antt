use Rattle.std.proofs.Common.{◌≡◌, true, to_z, of_z, w64, sym, ap, subst, arith}
use Rattle.std.proofs.lemmas.Int.{ints}
use Rattle.extent.specs.Sizes.{Within}
use Rattle.ledger.specs.declared.records.ItemRecord.{ItemRecord}
use Rattle.ledger.specs.Lawful.{fine}
use Rattle.packer.specs.declared.source.Measures.{Measures}
use Rattle.packer.specs.Views.{item_in}
use Rattle.packer.proofs.Fine.{kern-within}
use Rattle.packer.proofs.source.Source.measures.Goals as goal

pub returns-in-Kern-clause-narrow : goal.returns-in-Kern-clause-narrow
returns-in-Kern-clause-narrow g c =
    let s = c.args.self.now in
    let z = c.in-Kern.length in
    let known = subst (λ (i : ItemRecord). fine (g.M.Measurer.meaning s.measurer.now) (item_in s i c.args.place) ≡ true) c.in-Kern.is c.requires.known in
    let small = kern-within z known in
    let whole : to_z w64 (of_z w64 z) ≡ z = omega (arith, ints) in
    let entered = g.met.M.Extent.Extent.bounded s.side 16777215 _ c.requires.side (subst (Within 16777215) (sym whole) small) in
    let is = c.enter.ensures s.side c.requires.side in
    let wide = ap (λ (r : Measures). r.wide) c.flat-in-Kern.ensures in
    (omega (arith, ints), omega (arith, ints))
