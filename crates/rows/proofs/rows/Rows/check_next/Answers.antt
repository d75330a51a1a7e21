use Rattle.std.proofs.Common.{◌≡◌, ℕ, ◌+◌, ◌<◌, false, eqb, leb, length, Option, sym, ap, ◌∙◌, arith, rules}
use Rattle.std.proofs.lemmas.List.{length-map}
use Rattle.std.proofs.lemmas.Bool.Decides.{nat_tests}
use Rattle.ledger.specs.declared.records.Column.{Column}
use Rattle.ledger.specs.Calls.{lacking}
use Rattle.rows.specs.Columns.{columns_in, column_at}
use Rattle.rows.specs.Held.{held_of}
use Rattle.rows.specs.Good.{templates_of, template_of, room_in, ledger_of, owed, begun_in}
use Rattle.ledger.specs.Refusals.{table_full}
use Rattle.faults.specs.declared.Fault.{Fault}
use Rattle.rows.specs.Answers.{unless}
use Rattle.rows.proofs.Verdicts.{passed, vacant}
use Rattle.rows.proofs.Rooms.{when-one, u-length, v-length, enough, begun-one, begun-at, both}
use Rattle.rows.proofs.Adds.{next-lacks, next-verdict, second}
use Rattle.rows.proofs.rows.Rows.check_next.Goals as goal

pub returns : goal.returns
returns g c =
    let s = c.args.self.now.draft.state in
    let m = c.args.self.now.draft.memory in
    let q = c.args.self.now.preamble in
    let p = q.text.now in
    let fit = c.args.self.now.good.fit in
    let col = s.row.column in
    let d = c.args.column in
    let t = passed _ _ c.in_ok-check_cell.ensures in
    let b = both (begun_in s.stage) (eqb col d) t in
    let same = second (begun_in s.stage) col d t in
    let at = begun-at s.stage col s.row.first d (held_of p s m) ∙ sym t in
    let o = begun-one s.stage b in
    let P = templates_of q in
    let G = ledger_of q s m in
    let pl = length-map (columns_in q.columns.now) (template_of q) in
    let lt : col < length (columns_in q.columns.now) = omega arith in
    let next : col + 1 < length (columns_in q.columns.now) = search rules in
    let past : false ≡ leb (length P) (col + 1) = grind (arith, nat_tests) in
    let k = q.parts col lt in
    let k2 = q.parts (col + 1) next in
    let h2 = column_at (columns_in q.columns.now) (col + 1) in
    let lacks = lacking (room_in m) (s.marks.items + c.owed-owed.result + (c.column.result.template.u + c.column.result.template.v)) (s.marks.entries + 1 + c.args.more) (s.lines + 1) s.marks.text in
    let full = ap (λ (x : Column). lacking (room_in m) (s.marks.items + c.owed-owed.result + (x.u + x.v)) (s.marks.entries + 1 + c.args.more) (s.lines + 1) s.marks.text) c.column.ensures.template
    ∙ ap (λ (i : ℕ). lacking (room_in m) (s.marks.items + i + (h2.u + h2.v)) (s.marks.entries + 1 + c.args.more) (s.lines + 1) s.marks.text) (c.owed-owed.ensures ∙ ap (owed s.stage) c.column-2.ensures.template) in
    let eqs = next-lacks q p s.lines s.laid s.marks s.row.begin m.lines.now m.entries.now m.items.now m.text.now fit col s.row.first lt k s.stage b (room_in m) c.args.more h2.u h2.v (u-length q (col + 1) next k2) (v-length q (col + 1) next k2) in
    record {
      answer = c.check_room.ensures ∙ ap (λ (v : Option Fault). unless v tt) (when-one lacks ∙ next-verdict c.args.more P (room_in m) G col d false lacks same at past (full ∙ sym eqs));
      goes = λ ok.
          let en = enough (room_in m) (s.marks.items + owed s.stage (column_at (columns_in q.columns.now) col) + (h2.u + h2.v)) (s.marks.entries + 1 + c.args.more) (s.lines + 1) s.marks.text (sym full ∙ vacant lacks table_full (sym ok ∙ c.check_room.ensures)) in
          record { begun = b; same = same; next = next; items = en.items; entries = en.entries };
    }
