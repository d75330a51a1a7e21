use Rattle.std.proofs.Common.{ℕ, List, sym, ap}
use Rattle.std.proofs.lemmas.Result.{err_from_is_err_and}
use Rattle.ledger.specs.declared.records.Room.{Room}
use Rattle.ledger.specs.Ledger.{Ledger, hfil}
use Rattle.ledger.specs.Calls.{Template}
use Rattle.ledger.specs.Naturals.{start_verdict}
use Rattle.rows.specs.declared.preamble.Preamble.{Preamble}
use Rattle.rows.specs.Held.{held_of}
use Rattle.rows.specs.Views.{templates_at, room_at, ledger_at}
use Rattle.lines.specs.Lines.{Outcome, act_step, started, unless_at}
use Rattle.lines.specs.Steps.{act_in, unmeant}
use Rattle.lines.proofs.Hands.{hand-column, starts-lines}
use Rattle.lines.proofs.Calling.{Called, refused-turns, accepted-call, then-turns, turns-to}
use Rattle.lines.proofs.cells.start_cell.Goals as goal

pub returns-in_err-placed : goal.returns-in_err-placed
returns-in_err-placed g c = λ wide by fit on le.
    let X = g.E.Extent in
    let r = c.args.rows.now in
    let s = r.draft.state in
    let P = templates_at r in
    let old = ledger_at r in
    let text = c.args.text.now in
    let place = c.args.place in
    let A = act_in r.preamble.text.now c.args.action in
    let F : List Template → Room → Ledger → Outcome = λ Q m k. act_step text unmeant Q X.count wide m k place c.args.end A in
    let column = hand-column s.row.column s.row.first (held_of r.preamble.text.now s r.draft.memory) s.stage c.requires in
    let called : Called X.count X.num wide r (start_verdict X.count wide P old s.row.column) (started P old) c.start.new.self c.start.result =
    record { answer = c.start.ensures.answer wide; ledger = c.start.ensures.ledger; sound = c.start.ensures.sound wide; stays = c.start.ensures.stays } in
    let err = err_from_is_err_and c.from_residual.result c.from_residual.ensures.1 in
    rw (err.1, err.2)
    (turns-to X.count X.num wide text place r _ _ c.start.new.self _ (ap (λ (n : ℕ). unless_at place (start_verdict X.count wide P old n) (F P (room_at r) (started P old))) (sym column))
    (refused-turns X.count X.num wide text place place r _ _ c.start.new.self c.start.result c.in_err-placed.field-0.0 (F P (room_at r) (started P old)) called c.in_err-placed.ensures))

pub returns : goal.returns
returns g c = λ wide by fit on le.
    let X = g.E.Extent in
    let r = c.args.rows.now in
    let s = r.draft.state in
    let P = templates_at r in
    let old = ledger_at r in
    let text = c.args.text.now in
    let place = c.args.place in
    let A = act_in r.preamble.text.now c.args.action in
    let F : List Template → Room → Ledger → Outcome = λ Q m k. act_step text unmeant Q X.count wide m k place c.args.end A in
    let column = hand-column s.row.column s.row.first (held_of r.preamble.text.now s r.draft.memory) s.stage c.requires in
    let r1 = c.start.new.self in
    let called : Called X.count X.num wide r (start_verdict X.count wide P old s.row.column) (started P old) r1 c.start.result =
    record { answer = c.start.ensures.answer wide; ledger = c.start.ensures.ledger; sound = c.start.ensures.sound wide; stays = c.start.ensures.stays } in
    let ok = accepted-call X.count X.num wide text place place r _ _ r1 c.start.result c.in_ok-placed.field-0 called c.in_ok-placed.ensures in
    let same = ap (λ (q : Preamble g.row.E.Denot). act_in q.text.now c.args.action) c.start.ensures.stays.preamble in
    let rest = turns-to X.count X.num wide text place r1 _ _ c.perform.new.rows c.perform.result (ap (act_step text unmeant (templates_at r1) X.count wide (room_at r1) (ledger_at r1) place c.args.end) same) (c.perform.ensures wide by fit on le) in
    turns-to X.count X.num wide text place r _ _ c.perform.new.rows c.perform.result (ap (λ (n : ℕ). unless_at place (start_verdict X.count wide P old n) (F P (room_at r) (started P old))) (sym column))
    (then-turns X.count X.num wide text place place r _ _ r1 ok (starts-lines P hfil old old.hand) F c.perform.new.rows c.perform.result rest)
