use Rattle.std.proofs.Common.{Option, None, List, Ok, refl, ap, ◌∙◌}
use Rattle.faults.specs.declared.Fault.{Fault}
use Rattle.ledger.specs.declared.records.Room.{Room}
use Rattle.ledger.specs.Ledger.{Ledger}
use Rattle.ledger.specs.Calls.{Template, opened, take_verdict}
use Rattle.ledger.specs.Naturals.{wide_of}
use Rattle.rows.specs.Views.{templates_at, room_at, ledger_at}
use Rattle.lines.specs.Lines.{Outcome, refuses, act_of, crowded_by, first_step, hand_step, lead_of}
use Rattle.lines.proofs.Calling.{Called, then-turns, turns-to}
use Rattle.lines.proofs.Crowding.{none-verdict, some-verdict}
use Rattle.lines.proofs.Whole.{as-before}
use Rattle.lines.proofs.row.first_step.Goals as goal

pub returns-in-Ok : goal.returns-in-Ok
returns-in-Ok g c =
    let X = g.M.Extent.Extent in
    let wide = wide_of g.M.Measurer X c.args.measurer.now in
    let meaning = g.M.Measurer.meaning c.args.measurer.now in
    let r = c.args.rows.now in
    let P = templates_at r in
    let old = ledger_at r in
    let m = room_at r in
    let text = c.args.text.now in
    let place = c.args.place in
    let l = c.args.lexeme in
    let r1 = c.take.new.self in
    let v = take_verdict P m old in
    let F : List Template → Room → Ledger → Outcome = λ Q n k. hand_step text meaning Q X.count wide n k place l k.hand in
    let called : Called X.count X.num wide r None (opened old) r1 (Ok tt) = record { answer = λ s. refl; ledger = c.in-Ok.ensures.ledger; sound = c.in-Ok.ensures.sound wide; stays = c.in-Ok.ensures.stays } in
    turns-to X.count X.num wide text place r _ _ c.take_token.new.rows c.take_token.result
    (ap (λ (x : Option Fault). first_step text meaning P X.count wide m x old place l) (none-verdict v c.in-Ok.ensures.answer))
    (then-turns X.count X.num wide text place place r None (opened old) r1 called refl F c.take_token.new.rows c.take_token.result c.take_token.ensures)

pub returns-in-Err : goal.returns-in-Err
returns-in-Err g c =
    let X = g.M.Extent.Extent in
    let wide = wide_of g.M.Measurer X c.args.measurer.now in
    let meaning = g.M.Measurer.meaning c.args.measurer.now in
    let r = c.args.rows.now in
    let P = templates_at r in
    let old = ledger_at r in
    let m = room_at r in
    let text = c.args.text.now in
    let place = c.args.place in
    let l = c.args.lexeme in
    let r1 = c.take.new.self in
    let full = c.in-Err.full in
    let F : List Template → Room → Ledger → Fault = λ Q n k. crowded_by text meaning Q X.count wide n (lead_of l.token) full k place (act_of text meaning Q place 0 l.token) in
    record {
      is = λ s.
          ap refuses (c.crowded.ensures (c.in-Err.ensures.sound wide s) ∙ as-before r r1 c.in-Err.ensures.stays (λ Q n. F Q n (ledger_at r1)) ∙ ap (F P m) c.in-Err.ensures.ledger)
          ∙ ap (λ (x : Option Fault). first_step text meaning P X.count wide m x old place l) (some-verdict (take_verdict P m old) full c.in-Err.ensures.answer);
      sound = c.in-Err.ensures.sound wide;
      stays = c.in-Err.ensures.stays;
      hand = ap (λ (k : Ledger). k.lines) c.in-Err.ensures.ledger;
      further = tt;
    }
