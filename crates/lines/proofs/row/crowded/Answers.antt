use Rattle.std.proofs.Common.{ap, ◌∙◌, sym}
use Rattle.ledger.specs.Naturals.{wide_of}
use Rattle.rows.specs.Views.{templates_at, room_at, ledger_at}
use Rattle.lines.specs.Lines.{Lead, act_of, crowded_act, crowded_by}
use Rattle.lines.specs.Steps.{act_in}
use Rattle.lines.proofs.Calling.{columns-length}
use Rattle.lines.proofs.Crowding.{crowded-same, crowded-lead}
use Rattle.lines.proofs.row.crowded.Goals as goal

pub returns-in-Ok : goal.returns-in-Ok
returns-in-Ok g c = λ sound.
    let X = g.M.Extent.Extent in
    let wide = wide_of g.M.Measurer X c.args.measurer.now in
    let meaning = g.M.Measurer.meaning c.args.measurer.now in
    let r = c.args.rows.now in
    let P = templates_at r in
    let old = ledger_at r in
    let m = room_at r in
    let text = c.args.text.now in
    let place = c.args.place in
    let full = c.args.full in
    let t = c.args.lexeme.token in
    let p = r.preamble.text.now in
    let A = act_of text meaning P place 0 t in
    let e = c.in-Ok.ensures.is p P (columns-length r ∙ sym c.count.ensures) in
    c.crowded_cell.ensures wide text sound c.in-Ok.ensures.measured
    ∙ crowded-same text meaning P X.count wide m full old place (act_in p c.in-Ok.action)
    ∙ ap (crowded_act text meaning P X.count wide m full old place) e
    ∙ crowded-lead text meaning P X.count wide m full old place c.opening_of.result A c.in_default.not-Omit
    ∙ ap (λ (l : Lead). crowded_by text meaning P X.count wide m l full old place A) c.opening_of.ensures

pub returns-in-Err : goal.returns-in-Err
returns-in-Err g c = λ sound.
    let X = g.M.Extent.Extent in
    let wide = wide_of g.M.Measurer X c.args.measurer.now in
    let meaning = g.M.Measurer.meaning c.args.measurer.now in
    let r = c.args.rows.now in
    let P = templates_at r in
    let old = ledger_at r in
    let m = room_at r in
    let text = c.args.text.now in
    let place = c.args.place in
    let full = c.args.full in
    let t = c.args.lexeme.token in
    let A = act_of text meaning P place 0 t in
    let e = c.in-Err.ensures.is r.preamble.text.now P (columns-length r ∙ sym c.count.ensures) in
    ap (crowded_act text meaning P X.count wide m full old place) e
    ∙ crowded-lead text meaning P X.count wide m full old place c.opening_of.result A c.in_default.not-Omit
    ∙ ap (λ (l : Lead). crowded_by text meaning P X.count wide m l full old place A) c.opening_of.ensures
