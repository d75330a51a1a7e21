use Rattle.std.proofs.Common.{ℕ, ◌+◌, ◌<◌, true, false, length, sym, refl, ap, ◌∙◌, arith}
use Rattle.ledger.specs.Calls.{lacking, used_items, used_entries, used_lines, used_text, bytes_in}
use Rattle.ledger.specs.Items.{meant}
use Rattle.ledger.specs.declared.records.Owed.{Owed}
use Rattle.rows.specs.declared.state.State.{State}
use Rattle.rows.specs.Columns.{columns_in}
use Rattle.rows.specs.Held.{held_of}
use Rattle.rows.specs.Good.{templates_of, room_in, ledger_of, owed}
use Rattle.ledger.specs.Refusals.{table_full, entry_wide}
use Rattle.rows.proofs.Verdicts.{refused, accepted}
use Rattle.rows.proofs.Rooms.{begun-one, begun-open}
use Rattle.rows.proofs.Adds.{add_verdict_lem, put_ledger, add_lacks, all-is, sum_is, item-bytes, same-ledger, put_sound}
use Rattle.rows.proofs.rows.Rows.add.Goals as goal

pub returns-then-outside-clause-answer : goal.returns-then-outside-clause-answer
returns-then-outside-clause-answer g c =
    let s = c.args.self.now.draft.state in
    let m = c.args.self.now.draft.memory in
    let q = c.args.self.now.preamble in
    let p = q.text.now in
    let fit = c.args.self.now.good.fit in
    let a = meant p c.args.put.item c.args.put.word.now in
    let o = begun-one s.stage c.requires.begun in
    let lt : s.row.column < length (columns_in q.columns.now) = omega arith in
    let X = g.E.Extent in
    λ wide sound it. refused _ entry_wide _ tt c.at.ensures (add_verdict_lem X.count wide (templates_of q) (room_in m) (ledger_of q s m) a (X.num c.sum.result) true (lacking (room_in m) (used_items (templates_of q) (ledger_of q s m) + 1) (used_entries (ledger_of q s m)) (used_lines (ledger_of q s m)) (used_text (ledger_of q s m) + bytes_in a)) (all-is X.count X.num wide q s m sound c.requires.begun lt c.owed_width-behind.result (λ is d. c.owed_width-behind.ensures.begun is ∙ ap (λ (x : Owed g.row.E.Denot). x.v) (c.column-here.ensures.widths d)) c.owed_width-behind.ensures.rest c.args.put.width c.sum-sum.result c.sum.result a c.sum-sum.ensures c.sum.ensures it) c.if-outside.ensures refl)

pub returns-then-lacks-clause-answer : goal.returns-then-lacks-clause-answer
returns-then-lacks-clause-answer g c =
    let s = c.args.self.now.draft.state in
    let m = c.args.self.now.draft.memory in
    let q = c.args.self.now.preamble in
    let p = q.text.now in
    let fit = c.args.self.now.good.fit in
    let a = meant p c.args.put.item c.args.put.word.now in
    let o = begun-one s.stage c.requires.begun in
    let lt : s.row.column < length (columns_in q.columns.now) = omega arith in
    let X = g.E.Extent in
    let w = c.args.put.word.now in
    let k = q.parts s.row.column lt in
    let full = c.if-lacks.ensures
    ∙ ap (λ (i : ℕ). lacking (room_in m) (s.marks.items + i + 1) (s.marks.entries + 1) (s.lines + 1) (s.marks.text + length w)) (c.owed-owed.ensures ∙ ap (owed s.stage) c.column-here.ensures.template) in
    let same = add_lacks q p s.lines s.laid s.marks s.row.begin m.lines.now m.entries.now m.items.now m.text.now fit s.row.column s.row.first lt k s.stage c.requires.begun (room_in m) a (length w) (item-bytes p c.args.put.item w c.args.put.bytes) in
    λ wide sound it. refused _ table_full _ tt c.at-then-lacks.ensures (add_verdict_lem X.count wide (templates_of q) (room_in m) (ledger_of q s m) a (X.num c.sum.result) false true (all-is X.count X.num wide q s m sound c.requires.begun lt c.owed_width-behind.result (λ is d. c.owed_width-behind.ensures.begun is ∙ ap (λ (x : Owed g.row.E.Denot). x.v) (c.column-here.ensures.widths d)) c.owed_width-behind.ensures.rest c.args.put.width c.sum-sum.result c.sum.result a c.sum-sum.ensures c.sum.ensures it) c.if-outside.ensures (full ∙ sym same))

pub returns : goal.returns
returns g c =
    let s = c.args.self.now.draft.state in
    let m = c.args.self.now.draft.memory in
    let q = c.args.self.now.preamble in
    let p = q.text.now in
    let fit = c.args.self.now.good.fit in
    let a = meant p c.args.put.item c.args.put.word.now in
    let o = begun-one s.stage c.requires.begun in
    let lt : s.row.column < length (columns_in q.columns.now) = omega arith in
    let X = g.E.Extent in
    let w = c.args.put.word.now in
    let k = q.parts s.row.column lt in
    let full = c.if-lacks.ensures
    ∙ ap (λ (i : ℕ). lacking (room_in m) (s.marks.items + i + 1) (s.marks.entries + 1) (s.lines + 1) (s.marks.text + length w)) (c.owed-owed.ensures ∙ ap (owed s.stage) c.column-here.ensures.template) in
    let same = add_lacks q p s.lines s.laid s.marks s.row.begin m.lines.now m.entries.now m.items.now m.text.now fit s.row.column s.row.first lt k s.stage c.requires.begun (room_in m) a (length w) (item-bytes p c.args.put.item w c.args.put.bytes) in
    let s' = c.add_item.new.self.state in
    let m' = c.add_item.new.self.memory in
    let e-entries = ap (λ (x : State g.row.E.Denot). x.marks.entries) c.add_item.ensures.state in
    let e-column = ap (λ (x : State g.row.E.Denot). x.row.column) c.add_item.ensures.state in
    let e-stage = ap (λ (x : State g.row.E.Denot). x.stage) c.add_item.ensures.state in
    let e-first = ap (λ (x : State g.row.E.Denot). x.row.first) c.add_item.ensures.state in
    let e-laid = ap (λ (x : State g.row.E.Denot). x.laid.entries) c.add_item.ensures.state in
    let L = same-ledger s'.stage s.stage s'.row.column s.row.column s'.row.first s.row.first (held_of p s' m') e-stage e-column e-first
    ∙ put_ledger s.stage s.row.column s.row.first (held_of p s m) (held_of p s' m') a c.requires.begun (c.add_item.ensures.acts.held p) in
    record {
      sound = λ wide sound it. put_sound X.count X.num wide q s (record { lines = s'.lines; laid = s'.laid; marks = s'.marks; stage = s'.stage; row = record { column = s'.row.column; first = s'.row.first; begin = s'.row.begin; width = c.sum-sum.result } }) m m' sound c.requires.begun a (X.num c.sum.result) L
          (sum_is X.count X.num wide q s m sound c.requires.begun lt c.owed_width-behind.result (λ is d. c.owed_width-behind.ensures.begun is ∙ ap (λ (x : Owed g.row.E.Denot). x.v) (c.column-here.ensures.widths d)) c.owed_width-behind.ensures.rest c.args.put.width c.sum-sum.result c.sum.result a c.sum-sum.ensures c.sum.ensures it) (all-is X.count X.num wide q s m sound c.requires.begun lt c.owed_width-behind.result (λ is d. c.owed_width-behind.ensures.begun is ∙ ap (λ (x : Owed g.row.E.Denot). x.v) (c.column-here.ensures.widths d)) c.owed_width-behind.ensures.rest c.args.put.width c.sum-sum.result c.sum.result a c.sum-sum.ensures c.sum.ensures it)
          (sym c.if-outside.ensures) e-laid e-entries c.add_item.ensures.acts.entries (let bg = sound.begins (begun-open s.stage c.requires.begun) in omega arith);
      answer = λ wide sound it. accepted _ tt (add_verdict_lem X.count wide (templates_of q) (room_in m) (ledger_of q s m) a (X.num c.sum.result) false false (all-is X.count X.num wide q s m sound c.requires.begun lt c.owed_width-behind.result (λ is d. c.owed_width-behind.ensures.begun is ∙ ap (λ (x : Owed g.row.E.Denot). x.v) (c.column-here.ensures.widths d)) c.owed_width-behind.ensures.rest c.args.put.width c.sum-sum.result c.sum.result a c.sum-sum.ensures c.sum.ensures it) c.if-outside.ensures (full ∙ sym same));
      ledger = L;
      stays = record { preamble = refl; lens = c.add_item.ensures.acts.lens };
    }
