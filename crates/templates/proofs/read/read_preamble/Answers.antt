use Rattle.std.proofs.Common.{false, ap, ◌∙◌, subst, sym}
use Rattle.std.proofs.lemmas.Result.{err_from_is_err_and}
use Rattle.lengths.specs.Gaps.{Parts, parts_of}
use Rattle.ledger.specs.declared.records.ColumnRecord.{ColumnRecord}
use Rattle.ledger.specs.Naturals.{wide_of}
use Rattle.ledger.specs.Preambles.{preamble_of}
use Rattle.templates.specs.Kept.{Kept}
use Rattle.templates.specs.Readings.{with_start}
use Rattle.templates.proofs.Sizing.{sized}
use Rattle.templates.proofs.Whole.{Underway, begins, goes, nearer, done-in, ends-in, refuses-in, kept, widths}
use Rattle.templates.proofs.read.read_preamble.Goals as goal

pub loop-next-init : goal.loop-next-init
loop-next-init g c =
    let X = g.M.Extent.Extent in
    let m = c.args.measurer.now in
    let meaning = g.M.Measurer.meaning m in
    let wide = wide_of g.M.Measurer X m in
    let new = c.empty_column.ensures in
    subst (λ (q : ColumnRecord g.row.M-Extent.Denot). Underway X.count X.num wide c.args.text.now meaning (parts_of q.gap) (record { place = 0; columns = 0; marked = false; column = q }) (with_start c.args.into.now c.args.start)) (sym new.is)
    (begins X.count X.num wide c.args.text.now meaning c.args.start c.empty_column.result.widths c.args.into.now new.u new.v)

pub loop-next-smaller : goal.loop-next-smaller
loop-next-smaller g c = nearer _ _ _ _ _ _ _ _ _ c.loop-next.invariant c.in-Continue.next c.in_ok-next.field-0 c.in-Continue.is c.in_ok-next.ensures

pub loop-next-preserved : goal.loop-next-preserved
loop-next-preserved g c = goes _ _ _ _ _ _ _ _ _ c.loop-next.invariant c.in-Continue.next c.in_ok-next.field-0 c.in-Continue.is c.in_ok-next.ensures

pub returns-in-Break : goal.returns-in-Break
returns-in-Break g c =
    let X = g.M.Extent.Extent in
    let m = c.args.measurer.now in
    let text = c.args.text.now in
    let done = done-in _ _ _ _ _ _ _ _ _ c.loop-next.invariant c.in-Break.read c.in_ok-next.field-0 c.in-Break.is c.in_ok-next.ensures in
    let same = ap (λ (q : ColumnRecord g.row.M-Extent.Denot). parts_of q.gap) c.empty_column.ensures.is in
    record {
      answer = ends-in _ _ _ _ _ _ _ _ _ c.loop-next.invariant c.in-Break.read c.in_ok-next.field-0 c.in-Break.is c.in_ok-next.ensures ∙ ap (preamble_of text (g.M.Measurer.meaning m)) same;
      kept = subst (λ (p : Parts). Kept text p c.step.new.into c.in-Break.read) same (kept _ _ _ _ _ _ _ done);
      widths = widths _ _ _ _ _ _ _ done (sized X.count X.num X.entered (g.M.Measurer.meaning m) (g.M.Measurer.blank m) (λ w x. g.met.M.Measurer.bounded m w x) (g.met.M.Measurer.spaced m) g.met.M.Extent.Extent.bounded text);
    }

pub returns-in_err-next-clause-answer : goal.returns-in_err-next-clause-answer
returns-in_err-next-clause-answer g c =
    let same = ap (λ (q : ColumnRecord g.row.M-Extent.Denot). parts_of q.gap) c.empty_column.ensures.is in
    let err = err_from_is_err_and c.from_residual.result c.from_residual.ensures.1 in
    rw (err.1, err.2) (refuses-in _ _ _ _ _ _ _ _ _ c.loop-next.invariant _ c.in_err-next.ensures) ∙ ap (preamble_of c.args.text.now (g.M.Measurer.meaning c.args.measurer.now)) same
