use Rattle.std.proofs.Common.{◌≡◌, ℕ, ◌<◌, length, take, drop, Ok, Err, Result, sym, ap, ◌∙◌, subst, arith, rules}
use Rattle.std.proofs.lemmas.List.{length-take}
use Rattle.measure.specs.declared.measurer.Metrics.{Metrics}
use Rattle.measure.specs.Words.{IsWord}
use Rattle.ledger.specs.Naturals.{word_by}
use Rattle.ledger.specs.Preambles.{refuses}
use Rattle.templates.proofs.Moves.{refusal}
use Rattle.ledger.proofs.Words.{word-is, cut-is}
use Rattle.templates.proofs.Sizing.{sized}
use Rattle.templates.proofs.memory.Hand.add_word.Goals as goal

pub overflow_add-place-in-Err : goal.overflow_add-place-in-Err
overflow_add-place-in-Err g c =
    let text = c.args.text.now in
    let w = c.args.word in
    let m = c.args.measurer.now in
    let i = c.requires.within in
    let is = subst IsWord (sym (cut-is text w.place w.len)) (word-is text c.args.self.place w.place w.len w.end i) in
    let p = g.met.M.Measurer.placed m _ c.in-Err.missing is (sym (c.in-Err.ensures.answer is)) in
    let n = length-take w.len (drop w.place text) in
    let e = ap length (cut-is text w.place w.len) in
    let less : c.in-Err.missing < w.len = omega (arith, p) in
    let a = i.upto in
    let b = i.inside in
    search rules

pub returns-in-Ok : goal.returns-in-Ok
returns-in-Ok g c =
    let X = g.E.Extent in
    let m = c.args.measurer.now in
    let text = c.args.text.now in
    let w = c.args.word in
    let i = c.requires.within in
    let is : IsWord (take w.len (drop w.place text)) = word-is text c.args.self.place w.place w.len w.end i in
    let meaning = g.M.Measurer.meaning m in
    let ans : Ok c.in-Ok.metrics ≡ meaning (take w.len (drop w.place text)) = c.in-Ok.ensures.answer (subst IsWord (sym (cut-is text w.place w.len)) is) ∙ ap meaning (cut-is text w.place w.len) in
    rw (sym ans) (c.take_item.ensures text _ (record {
      sized = sized X.count X.num X.entered meaning (g.M.Measurer.blank m) (λ b x. g.met.M.Measurer.bounded m b x) (g.met.M.Measurer.spaced m) g.met.E.Extent.bounded text;
      fine = (is, i.upto);
      onward = i.further;
      inside = i.inside;
      width = λ k lt. ap (λ (x : Result (Metrics g.row.E.Denot) ℕ). word_by X.num x k) ans;
    }))

pub returns-in-Err : goal.returns-in-Err
returns-in-Err g c =
    let text = c.args.text.now in
    let w = c.args.word in
    let is = word-is text c.args.self.place w.place w.len w.end c.requires.within in
    let meaning = g.M.Measurer.meaning c.args.measurer.now in
    let ans : Err c.in-Err.missing ≡ meaning (take w.len (drop w.place text)) = c.in-Err.ensures.answer (subst IsWord (sym (cut-is text w.place w.len)) is) ∙ ap meaning (cut-is text w.place w.len) in
    rw (sym ans) (refusal _ _ _ _ c.args.self c.args.into.now _ c.at.result (ap refuses c.at.ensures))
