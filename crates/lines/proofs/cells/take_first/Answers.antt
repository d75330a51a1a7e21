use Rattle.std.proofs.Common.{◌≡◌, ℕ, ◌<◌, refl, sym, ap, ◌∙◌, subst}
use Rattle.std.proofs.lemmas.Result.{err_from_is_err_and}
use Rattle.ledger.specs.Naturals.{wide_of}
use Rattle.rows.specs.Views.{templates_at, room_at, ledger_at}
use Rattle.lines.specs.declared.acts.Site.{Site}
use Rattle.lines.specs.Lines.{Lead, begins, lead_of, act_of, fresh_by, start_step}
use Rattle.lines.specs.Steps.{act_in, lead_in}
use Rattle.lines.proofs.Same.{start-same}
use Rattle.lines.proofs.Calling.{refusal-turns, turns-to, columns-length}
use Rattle.lines.proofs.cells.take_first.Goals as goal

pub returns-in_err-action-in-Other : goal.returns-in_err-action-in-Other
returns-in_err-action-in-Other g c =
    let X = g.M.Extent.Extent in
    let wide = wide_of g.M.Measurer X c.args.measurer.now in
    let meaning = g.M.Measurer.meaning c.args.measurer.now in
    let r = c.args.rows.now in
    let P = templates_at r in
    let old = ledger_at r in
    let text = c.args.text.now in
    let place = c.args.place in
    let t = c.args.lexeme.token in
    let end = c.args.lexeme.end in
    let p = r.preamble.text.now in
    let site = c.site_at-site.ensures.is in
    let lead : begins ≡ lead_of t = ap lead_in (sym c.in-Other.is) ∙ c.opening_of.ensures in
    let e = c.in_err-action-in-Other.ensures.is p P (columns-length r ∙ sym (ap (λ (x : Site). x.columns) site)) ∙ ap (λ (x : Site). act_of text meaning P x.place x.column t) site in
    let A = act_of text meaning P place r.draft.state.row.column t in
    let err = err_from_is_err_and c.from_residual.result c.from_residual.ensures.1 in
    rw (err.1, err.2)
    (refusal-turns X.count X.num wide text place r _ c.in_err-action-in-Other.field-0.0
    (ap (start_step text meaning P X.count wide (room_at r) old place end) e ∙ ap (λ (l : Lead). fresh_by text meaning P X.count wide (room_at r) l old place end A) lead))

pub returns-in_ok-action-in-Other : goal.returns-in_ok-action-in-Other
returns-in_ok-action-in-Other g c =
    let X = g.M.Extent.Extent in
    let wide = wide_of g.M.Measurer X c.args.measurer.now in
    let meaning = g.M.Measurer.meaning c.args.measurer.now in
    let r = c.args.rows.now in
    let P = templates_at r in
    let old = ledger_at r in
    let text = c.args.text.now in
    let place = c.args.place in
    let t = c.args.lexeme.token in
    let end = c.args.lexeme.end in
    let p = r.preamble.text.now in
    let a = c.in_ok-action-in-Other.action in
    let site = c.site_at-site.ensures.is in
    let lead : begins ≡ lead_of t = ap lead_in (sym c.in-Other.is) ∙ c.opening_of.ensures in
    let e = c.in_ok-action-in-Other.ensures.is p P (columns-length r ∙ sym (ap (λ (x : Site). x.columns) site)) ∙ ap (λ (x : Site). act_of text meaning P x.place x.column t) site in
    let A = act_of text meaning P place r.draft.state.row.column t in
    let further = c.in_ok-action-in-Other.ensures.further in
    let on = subst (λ (n : ℕ). n < end) (ap (λ (x : Site). x.place) site) further.0 in
    turns-to X.count X.num wide text place r _ _ c.start_cell.new.rows c.start_cell.result
    (start-same text meaning P X.count wide (room_at r) old place end (act_in p a) ∙ ap (start_step text meaning P X.count wide (room_at r) old place end) e ∙ ap (λ (l : Lead). fresh_by text meaning P X.count wide (room_at r) l old place end A) lead)
    (c.start_cell.ensures wide (λ k z. refl) c.in_ok-action-in-Other.ensures.measured on further.1)
