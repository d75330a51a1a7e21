use Rattle.std.proofs.Common.{◌≡◌, ℕ, ◌^◌, ◌<◌, ◌≤◌, true, List, length, get_or, drop, ℤ, ◌-ℤ◌, to_z, of_z, w64, sym, ap, subst, ◌∙◌, arith}
use Rattle.std.proofs.lemmas.Int.{ints}
use Rattle.extent.specs.Sizes.{Within}
use Rattle.sharing.specs.Gaps.{upward}
use Rattle.ledger.specs.declared.records.ItemRecord.{ItemRecord}
use Rattle.ledger.specs.Items.{taken, meant}
use Rattle.ledger.specs.Lawful.{all_fine}
use Rattle.ledger.proofs.Cuts.{length-chunks}
use Rattle.rows.specs.Held.{entry_of}
use Rattle.packer.specs.declared.source.Source.{Source}
use Rattle.packer.specs.Boxes.{wide_in}
use Rattle.packer.specs.Views.{look_in, items_from, HasRoom, Drawn}
use Rattle.packer.proofs.Fine.{items-within}
use Rattle.packer.proofs.Walks.{fills-filled}
use Rattle.packer.proofs.Columns.{none, columns-between, edges-between, entry-is}
use Rattle.packer.proofs.source.Source.draw_entry.Given as given
use Rattle.packer.proofs.source.Source.draw_entry.Goals as goal

module _ (g : given.Over) (s : Source g.row.M.Denot g.row.M-Extent.Denot) (is : List ItemRecord) (p : ℕ) where
  natural-within : s.side < g.M.Extent.Extent.count → length is ≤ 16384 → all_fine (g.M.Measurer.meaning s.measurer.now) (items_from s is p) ≡ true → Within (2 ^ 45) (wide_in (look_in g.M.Measurer g.M.Extent.Extent s) (items_from s is p))
  natural-within side few known =
      let x = s.measurer.now in
      let w = items-within g.M.Measurer g.M.Extent.Extent x s.side side (g.met.M.Measurer.bounded x) (g.met.M.Measurer.spaced x) (λ b z. g.met.M.Extent.Extent.bounded s.side b z side) (items_from s is p) known in
      let n = length-chunks taken (meant s.preamble.now) is (drop p s.lines.now) in
      (omega (arith, ints), omega (arith, ints))

pub left_over-requires : goal.left_over-requires
left_over-requires g c =
    let e = c.args.entry.entry in
    let first = c.requires.near e.first none (omega arith) in
    let last = c.requires.near e.last none (omega arith) in
    let wide = natural-within g c.args.self.now c.args.items.now c.args.place c.requires.side c.requires.few c.requires.known in
    let natural = c.on_side-natural.ensures ∙ c.requires.stored in
    record { left = first.0; right = last.1; natural = (omega (arith, ints), omega (arith, ints)) }

pub draw_items-requires-clause-near : goal.draw_items-requires-clause-near
draw_items-requires-clause-near g c =
    let first = c.requires.near c.args.entry.entry.first none (omega arith) in
    (omega (arith, ints), omega (arith, ints))

pub draw_items-requires-clause-room : goal.draw_items-requires-clause-room
draw_items-requires-clause-room g c =
    let s = c.args.self.now in
    let e = c.args.entry.entry in
    let es = c.args.columns.now in
    let xs = items_from s c.args.items.now c.args.place in
    let look = look_in g.M.Measurer g.M.Extent.Extent s in
    let reach = (get_or es e.last none).right -ℤ (get_or es e.first none).left in
    let natural : to_z w64 (of_z w64 c.on_side-natural.result) ≡ wide_in look xs = omega (arith, ints, c.on_side-natural.ensures ∙ c.requires.stored) in
    let count = c.count_fills.ensures ∙ sym (fills-filled s c.args.items.now c.args.place) in
    let x-is : to_z w64 (of_z w64 (get_or es e.first none).left) ≡ (get_or es e.first none).left = let near = c.requires.near e.first none (omega arith) in omega (arith, ints) in
    let y-is : to_z w64 (of_z w64 c.args.baseline) ≡ c.args.baseline = omega (arith, ints) in
    subst (HasRoom c.args.pen.now)
    (sym (entry-is look (columns-between es) es c.args.baseline c.args.place (entry_of c.args.entry xs) _ _ (edges-between es) c.requires.lies.0 c.requires.lies.1 (c.left_over.ensures.is ∙ ap (λ (n : ℤ). upward (reach -ℤ n)) natural) count (λ i. record { x = x-is i; y = y-is i; place = c.args.place })))
    (c.requires.room (columns-between es) (edges-between es))

pub returns : goal.returns
returns g c = λ k are.
    let s = c.args.self.now in
    let e = c.args.entry.entry in
    let es = c.args.columns.now in
    let xs = items_from s c.args.items.now c.args.place in
    let look = look_in g.M.Measurer g.M.Extent.Extent s in
    let reach = (get_or es e.last none).right -ℤ (get_or es e.first none).left in
    let natural : to_z w64 (of_z w64 c.on_side-natural.result) ≡ wide_in look xs = omega (arith, ints, c.on_side-natural.ensures ∙ c.requires.stored) in
    let count = c.count_fills.ensures ∙ sym (fills-filled s c.args.items.now c.args.place) in
    let x-is : to_z w64 (of_z w64 (get_or es e.first none).left) ≡ (get_or es e.first none).left = let near = c.requires.near e.first none (omega arith) in omega (arith, ints) in
    let y-is : to_z w64 (of_z w64 c.args.baseline) ≡ c.args.baseline = omega (arith, ints) in
    subst (Drawn c.args.pen.now c.draw_items.new.pen)
    (entry-is look k es c.args.baseline c.args.place (entry_of c.args.entry xs) _ _ are c.requires.lies.0 c.requires.lies.1 (c.left_over.ensures.is ∙ ap (λ (n : ℤ). upward (reach -ℤ n)) natural) count (λ i. record { x = x-is i; y = y-is i; place = c.args.place }))
    c.draw_items.ensures
