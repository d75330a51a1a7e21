use Rattle.std.proofs.Common.{◌<◌, length, ℤ, ◌+ℤ◌, sym, ap, ◌∙◌, subst}
use Rattle.extent.specs.Sizes.{Near}
use Rattle.ledger.specs.declared.records.Owed.{Owed}
use Rattle.ledger.specs.Calls.{template_at}
use Rattle.ledger.specs.Naturals.{natural}
use Rattle.rows.specs.Columns.{columns_in}
use Rattle.rows.specs.Good.{templates_of}
use Rattle.ledger.proofs.Beyonds.{beyond-same}
use Rattle.rows.proofs.Adds.{first-sums}
use Rattle.rows.proofs.rows.Rows.first_exceeds.Goals as goal

pub returns : goal.returns
returns g c = λ wide sound small.
    let q = c.args.self.now.preamble in
    let P = templates_of q in
    let h : 0 < length (columns_in q.columns.now) = q.some in
    let X = g.E.Extent in
    let r = c.column-widths.result.widths in
    let more = c.args.more in
    c.outside.ensures ∙ beyond-same X.count (X.num c.sum.result) (λ k. (natural wide (template_at P 0).u k +ℤ X.num more k) +ℤ natural wide (template_at P 0).v k) (λ k kc.
    let U = natural wide (template_at P 0).u k in
    let V = natural wide (template_at P 0).v k in
    let eu = ap (λ (x : Owed g.row.E.Denot). X.num x.u k) (c.column-widths.ensures.widths r) ∙ sound.us 0 k r kc h in
    let ev = ap (λ (x : Owed g.row.E.Denot). X.num x.v k) (c.column-widths.ensures.widths r) ∙ sound.vs 0 k r kc h in
    let near = first-sums (X.num more k) U V (small k kc) (sound.small_u 0 k kc) (sound.small_v 0 k kc) in
    let e1 = c.sum-sum.ensures k kc (subst Near (sym eu) near.0) near.1 ∙ ap (λ (x : ℤ). x +ℤ X.num more k) eu in
    c.sum.ensures k kc (subst Near (sym e1) near.2) (subst Near (sym ev) near.3) ∙ ap (λ (x : ℤ). x +ℤ X.num r.v k) e1 ∙ ap (λ (x : ℤ). (U +ℤ X.num more k) +ℤ x) ev)
