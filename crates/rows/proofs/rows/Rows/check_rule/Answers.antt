use Rattle.std.proofs.Common.{◌+◌, Option, refl, sym, ap, ◌∙◌}
use Rattle.faults.specs.declared.Fault.{Fault}
use Rattle.ledger.specs.Refusals.{table_full}
use Rattle.ledger.specs.Calls.{lacking}
use Rattle.rows.specs.Answers.{unless}
use Rattle.rows.specs.Good.{templates_of, room_in}
use Rattle.rows.proofs.Verdicts.{vacant}
use Rattle.rows.proofs.Rooms.{rule-verdict, enough}
use Rattle.rows.proofs.rows.Rows.check_rule.Goals as goal

pub returns : goal.returns
returns g c =
    let s = c.args.self.now.draft.state in
    let m = c.args.self.now.draft.memory in
    let q = c.args.self.now.preamble in
    let p = q.text.now in
    let fit = c.args.self.now.good.fit in
    let o = vacant _ _ c.in_ok-check_closed.ensures in
    let lacks = lacking (room_in m) s.laid.items s.laid.entries (s.lines + 1) s.laid.text in
    record {
      answer = c.check_room.ensures ∙ ap (λ (x : Option Fault). unless x tt) (rule-verdict (templates_of q) p s.lines s.laid s.marks s.row.begin m.lines.now m.entries.now m.items.now m.text.now fit s.row.column s.row.first (room_in m) s.stage lacks o refl);
      room = λ ok. (o, (enough (room_in m) s.laid.items s.laid.entries (s.lines + 1) s.laid.text (vacant lacks table_full (sym ok ∙ c.check_room.ensures))).lines);
    }
