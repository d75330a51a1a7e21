use Rattle.std.proofs.Common.{◌≡◌, ℕ, take, drop, Err, Result, sym, ap, ◌∙◌, subst}
use Rattle.measure.specs.declared.measurer.Metrics.{Metrics}
use Rattle.measure.specs.Words.{IsWord}
use Rattle.ledger.specs.Naturals.{word_by}
use Rattle.ledger.proofs.Words.{word-is, cut-is}
use Rattle.lines.proofs.acts.Site.word.Goals as goal

pub returns-in-Ok-clause-measured : goal.returns-in-Ok-clause-measured
returns-in-Ok-clause-measured g c = λ p k lt.
    let X = g.M.Extent.Extent in
    let text = c.args.text.now in
    let w = c.args.word in
    let m = c.args.measurer.now in
    let is = subst IsWord (sym (cut-is text w.place w.len)) (word-is text c.args.self.place w.place w.len w.end c.requires) in
    let ans = c.in-Ok.ensures.answer is in (
      ap (λ (x : Result (Metrics g.row.M-Extent.Denot) ℕ). word_by X.num x k) ans,
      (g.met.M.Measurer.bounded m _ c.in-Ok.metrics is (sym ans) k lt).0,
    )

pub returns-in-Err-clause-is : goal.returns-in-Err-clause-is
returns-in-Err-clause-is g c = λ p columns.
    let text = c.args.text.now in
    let w = c.args.word in
    let is = word-is text c.args.self.place w.place w.len w.end c.requires in
    let meaning = g.M.Measurer.meaning c.args.measurer.now in
    let ans : Err c.in-Err.missing ≡ meaning (take w.len (drop w.place text)) = c.in-Err.ensures.answer (subst IsWord (sym (cut-is text w.place w.len)) is) ∙ ap meaning (cut-is text w.place w.len) in
    rw (sym ans) (ap Err c.at.ensures)
