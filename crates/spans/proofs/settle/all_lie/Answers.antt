use Rattle.std.proofs.Common.{map, sym, ◌∙◌, rules, tests}
use Rattle.std.proofs.lemmas.Iterator.{YieldsList-from_slice}
use Rattle.std.proofs.lemmas.Iterator.Search.{all_from_yields_List}
use Rattle.std.proofs.lemmas.List.Folds.{list_all-map}
use Rattle.spans.specs.Refusals.{lie}
use Rattle.spans.proofs.Refused.{all_lie-each}
use Rattle.spans.proofs.settle.all_lie.Goals as goal

pub returns : goal.returns
returns g c =
    let f = g.R.Spanned.entry in
    let n = c.args.columns in
    let rs = c.args.entries.now in
    all_from_yields_List (λ r. lie n (f r)) _ _ c.all.result c.all.ensures.ran (YieldsList-from_slice rs cc) (λ x b q k. search (rules, tests))
    ∙ sym (all_lie-each n (map f rs) ∙ list_all-map (lie n) f rs)
