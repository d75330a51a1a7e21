use Rattle.std.proofs.Common.{ℕ, ◌<◌, refl, sym, ap, ◌∙◌, subst}
use Rattle.std.proofs.lemmas.Result.{err_from_is_err_and}
use Rattle.ledger.specs.Naturals.{wide_of}
use Rattle.rows.specs.Views.{templates_at, room_at, ledger_at}
use Rattle.lines.specs.declared.acts.Site.{Site}
use Rattle.lines.specs.Lines.{act_of, begun_step}
use Rattle.lines.specs.Steps.{act_in}
use Rattle.lines.proofs.Same.{act-same}
use Rattle.lines.proofs.Calling.{refusal-turns, turns-to, columns-length}
use Rattle.lines.proofs.cells.take_next.Goals as goal

pub returns-in_err-action : goal.returns-in_err-action
returns-in_err-action g c =
    let X = g.M.Extent.Extent in
    let wide = wide_of g.M.Measurer X c.args.measurer.now in
    let meaning = g.M.Measurer.meaning c.args.measurer.now in
    let r = c.args.rows.now in
    let P = templates_at r in
    let old = ledger_at r in
    let text = c.args.text.now in
    let place = c.args.place in
    let t = c.args.lexeme.token in
    let site = c.site_at-site.ensures.is in
    let e = c.in_err-action.ensures.is r.preamble.text.now P (columns-length r ∙ sym (ap (λ (x : Site). x.columns) site)) ∙ ap (λ (x : Site). act_of text meaning P x.place x.column t) site in
    let err = err_from_is_err_and c.from_residual.result c.from_residual.ensures.1 in
    rw (err.1, err.2)
    (refusal-turns X.count X.num wide text place r _ c.in_err-action.field-0.0 (ap (begun_step text meaning P X.count wide (room_at r) old place c.args.lexeme.end) e))

pub returns : goal.returns
returns g c =
    let X = g.M.Extent.Extent in
    let wide = wide_of g.M.Measurer X c.args.measurer.now in
    let meaning = g.M.Measurer.meaning c.args.measurer.now in
    let r = c.args.rows.now in
    let P = templates_at r in
    let old = ledger_at r in
    let text = c.args.text.now in
    let place = c.args.place in
    let t = c.args.lexeme.token in
    let end = c.args.lexeme.end in
    let p = r.preamble.text.now in
    let a = c.in_ok-action.action in
    let site = c.site_at-site.ensures.is in
    let e = c.in_ok-action.ensures.is p P (columns-length r ∙ sym (ap (λ (x : Site). x.columns) site)) ∙ ap (λ (x : Site). act_of text meaning P x.place x.column t) site in
    let further = c.in_ok-action.ensures.further in
    let on = subst (λ (n : ℕ). n < end) (ap (λ (x : Site). x.place) site) further.0 in
    turns-to X.count X.num wide text place r _ _ c.perform.new.rows c.perform.result
    (act-same text meaning P X.count wide (room_at r) old place end (act_in p a) ∙ ap (begun_step text meaning P X.count wide (room_at r) old place end) e)
    (c.perform.ensures wide (λ k z. refl) c.in_ok-action.ensures.measured on further.1)
