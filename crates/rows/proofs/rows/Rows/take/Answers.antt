use Rattle.std.proofs.Common.{◌+◌, ◌<◌, true, false, length, take, sym, refl, ap, ◌∙◌, arith, ◌≡◌, rules, Err}
use Rattle.std.specs.List.{flat_map}
use Rattle.ledger.specs.declared.records.Column.{Column}
use Rattle.ledger.specs.Calls.{lacking, entries_in}
use Rattle.rows.specs.declared.state.State.{State}
use Rattle.rows.specs.declared.state.Stage.TheVariants.{Fresh}
use Rattle.rows.specs.Columns.{columns_in, column_at}
use Rattle.rows.specs.Held.{Held}
use Rattle.rows.specs.Good.{templates_of, room_in, ledger_by}
use Rattle.ledger.specs.Refusals.{table_full}
use Rattle.rows.proofs.Verdicts.{refused, accepted, vacant, stopped}
use Rattle.rows.proofs.Rooms.{take-verdict, u-length, v-length}
use Rattle.rows.proofs.Sounds.{fresh-sound}
use Rattle.rows.proofs.rows.Rows.take.Goals as goal

pub returns-in_err-check_room-clause-answer : goal.returns-in_err-check_room-clause-answer
returns-in_err-check_room-clause-answer g c =
    let s = c.args.self.now.draft.state in
    let m = c.args.self.now.draft.memory in
    let q = c.args.self.now.preamble in
    let p = q.text.now in
    let fit = c.args.self.now.good.fit in
    let h : 0 < length (columns_in q.columns.now) = q.some in
    let k = q.parts 0 h in
    let o = vacant _ _ c.in_ok-check_closed.ensures in
    let d = column_at (columns_in q.columns.now) 0 in
    let full = (stopped _ _ _ c.in_err-check_room.ensures).0
    ∙ ap (λ (x : Column). lacking (room_in m) (s.laid.items + (x.u + x.v)) (s.laid.entries + 1) (s.lines + 1) s.laid.text) c.column.ensures.template in
    let answered : c.from_residual-in_err-check_room.result ≡ Err c.in_err-check_room.field-0.0 = search rules in
    answered ∙ refused _ table_full _ tt (stopped _ _ _ c.in_err-check_room.ensures).1 (take-verdict (templates_of q) p s.lines s.laid s.marks s.row.begin m.lines.now m.entries.now m.items.now m.text.now fit s.row.column s.row.first (room_in m) d.u d.v s.stage true o (u-length q 0 h k) (v-length q 0 h k) full)

pub returns : goal.returns
returns g c =
    let s = c.args.self.now.draft.state in
    let m = c.args.self.now.draft.memory in
    let q = c.args.self.now.preamble in
    let p = q.text.now in
    let fit = c.args.self.now.good.fit in
    let h : 0 < length (columns_in q.columns.now) = q.some in
    let k = q.parts 0 h in
    let o = vacant _ _ c.in_ok-check_closed.ensures in
    let d = column_at (columns_in q.columns.now) 0 in
    let full = sym (vacant _ _ c.in_ok-check_room.ensures)
    ∙ ap (λ (x : Column). lacking (room_in m) (s.laid.items + (x.u + x.v)) (s.laid.entries + 1) (s.lines + 1) s.laid.text) c.column.ensures.template in
    let s' = c.go_back.new.self.state in
    let m' = c.go_back.new.self.memory in
    let a = c.go_back.ensures in
    let e-entries = ap (λ (x : State g.row.E.Denot). x.marks.entries) c.go_back.ensures.state in
    let e-laid = ap (λ (x : State g.row.E.Denot). x.laid.entries) c.go_back.ensures.state in
    let held = a.acts.held p in
    record {
      answer = accepted _ tt (take-verdict (templates_of q) p s.lines s.laid s.marks s.row.begin m.lines.now m.entries.now m.items.now m.text.now fit s.row.column s.row.first (room_in m) d.u d.v s.stage false o (u-length q 0 h k) (v-length q 0 h k) full);
      ledger = ap (ledger_by Fresh 0 0) held;
      sound = λ wide sound.
          fresh-sound g.E.Extent.count g.E.Extent.num wide q s (record { lines = s'.lines; laid = s'.laid; marks = s'.marks; stage = Fresh; row = record { column = 0; first = 0; begin = s'.marks.items; width = c.zero.result } }) m m' sound
          e-laid (ap (take s.laid.entries) a.acts.entries) (ap (λ (x : Held). flat_map entries_in x.lines) held)
          e-entries (ap (λ (x : Held). x.items) held) refl (ap (λ (x : Held). x.done) held) c.zero.ensures (omega arith);
      stays = record { preamble = refl; lens = a.acts.lens };
    }
