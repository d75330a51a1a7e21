use Rattle.std.proofs.Common.{ℕ, Bool, ℤ, ◌+ℤ◌, ap, ◌∙◌}
use Rattle.ledger.specs.Refusals.{entry_wide}
use Rattle.ledger.specs.Calls.{template_at, when}
use Rattle.ledger.specs.Naturals.{natural}
use Rattle.ledger.specs.Items.{meant}
use Rattle.ledger.proofs.Beyonds.{beyond-same}
use Rattle.rows.specs.Views.{templates_at}
use Rattle.lines.proofs.acts.Action.exceeds.Goals as goal

pub returns-in-Add : goal.returns-in-Add
returns-in-Add g c = λ wide text sound fit.
    let X = g.E.Extent in
    let r = c.args.rows.now in
    let P = templates_at r in
    let p = r.preamble.text.now in
    let put = c.in-Add.put in
    let i = meant p put.item put.word.now in
    let U : ℕ → ℤ = λ k. natural wide (template_at P 0).u k in
    let V : ℕ → ℤ = λ k. natural wide (template_at P 0).v k in
    let fits = rw c.in-Add.is at fit in
    rw c.in-Add.is
    (ap (λ (b : Bool). when b entry_wide) (c.first_exceeds.ensures wide sound (λ k kc. (fits p k kc).1)
    ∙ beyond-same X.count (λ k. (U k +ℤ X.num put.width k) +ℤ V k) (λ k. (U k +ℤ wide i k) +ℤ V k) (λ k kc. ap (λ (z : ℤ). (U k +ℤ z) +ℤ V k) (fits p k kc).0)))
