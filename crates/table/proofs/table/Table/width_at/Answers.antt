use Rattle.std.proofs.Common.{◌≡◌, get_or, None, ap, ◌∙◌, arith}
use Rattle.std.proofs.lemmas.List.{get_or_default}
use Rattle.widths.specs.Merging.{seen}
use Rattle.table.proofs.table.Table.width_at.Goals as goal

pub returns : goal.returns
returns g c = record {
  merged = λ tame k kc.
      let X = g.M.Extent.Extent in
      let ws = c.all_widths.new.widths in
      let i = c.args.index in
      let here : get_or ws i c.index-widths-index.result ≡ get_or ws i None = get_or_default ws i c.index-widths-index.result None (omega arith) in
      ap (seen X.num k) (c.index-widths-index.is ∙ here) ∙ c.all_widths.ensures.merged tame k i kc c.requires.index;
}
