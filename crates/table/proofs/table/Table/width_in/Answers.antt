use Rattle.std.proofs.Common.{◌≡◌, ℕ, ◌+◌, ◌-◌, List, length, get_or, take, ℤ, pos, sym, ap, ◌∙◌, subst, arith}
use Rattle.std.proofs.lemmas.List.{length-map}
use Rattle.extent.specs.Sizes.{Within}
use Rattle.widths.specs.Merging.{width}
use Rattle.widths.specs.Entries.{widest}
use Rattle.spans.specs.Tables.{after}
use Rattle.ledger.specs.declared.records.ColumnRecord.{ColumnRecord}
use Rattle.table.specs.Views.{lengths_of, laid_in}
use Rattle.table.proofs.Askings.{lengths-within}
use Rattle.table.proofs.table.Table.width_in.Goals as goal

pub returns : goal.returns
returns g c = λ k kc.
    let X = g.M.Extent.Extent in
    let t = c.args.self.now in
    let q = t.rows.preamble in
    let n = length q.columns.now in
    let ls = c.naturals.new.lengths in
    let whole : (c.count.result + 1) - 0 ≡ n + 1 = let l = c.count.ensures ∙ length-map q.columns.now (λ (x : ColumnRecord g.row.M-Extent.Denot). x.template) in omega arith in
    let used : take ((c.count.result + 1) - 0) ls ≡ lengths_of q = ap (λ (i : ℕ). take i ls) whole ∙ c.naturals.ensures in
    let tame : (i : ℕ) → Within 16777215 (get_or (take ((c.count.result + 1) - 0) ls) i (pos 0)) = λ i. subst (λ (xs : List ℤ). Within 16777215 (get_or xs i (pos 0))) (sym used) (lengths-within q i) in
    c.width_at.ensures.merged tame k kc
    ∙ ap (λ (xs : List ℤ). width (widest (laid_in t k)) (after X.entered k xs) c.args.index) used
