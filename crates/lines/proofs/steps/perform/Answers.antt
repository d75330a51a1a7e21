use Rattle.std.proofs.Common.{Continue, sym, subst, ℕ}
use Rattle.ledger.specs.Ledger.{hfil}
use Rattle.ledger.specs.Calls.{tab_verdict, span_verdict}
use Rattle.ledger.specs.Naturals.{add_verdict}
use Rattle.ledger.specs.Items.{meant}
use Rattle.rows.specs.Held.{held_of}
use Rattle.rows.specs.Views.{templates_at, room_at, ledger_at}
use Rattle.rows.proofs.Rooms.{begun-open}
use Rattle.lines.specs.Lines.{goes_on, unless_at, with_item, tabbed, spanned}
use Rattle.lines.specs.Steps.{stepped_by, Turns}
use Rattle.lines.proofs.Hands.{hand-column, puts-lines, puts-open, tabs-lines, tabs-open, carries-lines, carries-open}
use Rattle.lines.proofs.Calling.{Called, step-turns, open-rows}
use Rattle.lines.proofs.steps.perform.Goals as goal

pub returns-in-Add : goal.returns-in-Add
returns-in-Add g c = λ wide by fit on le.
    let X = g.E.Extent in
    let r = c.args.rows.now in
    let P = templates_at r in
    let old = ledger_at r in
    let put = c.in-Add.put in
    let p = r.preamble.text.now in
    let i = meant p put.item put.word.now in
    let fits = rw c.in-Add.is at fit in
    let called : Called X.count X.num wide r (add_verdict X.count wide P (room_at r) old i) (with_item i old) c.add.new.self c.add.result =
    record { answer = λ s. c.add.ensures.answer wide s (fits p); ledger = c.add.ensures.ledger; sound = λ s. c.add.ensures.sound wide s (fits p); stays = c.add.ensures.stays } in
    rw (c.in-Add.is, c.stepped.ensures)
    (step-turns X.count X.num wide c.args.text.now c.args.place c.args.place r _ _ c.add.new.self (Continue c.args.end) c.add.result called
    (puts-lines P i old old.hand, puts-open P i old old.hand (open-rows r (begun-open r.draft.state.stage c.requires))) (on, le))

pub returns-in-Kern : goal.returns-in-Kern
returns-in-Kern g c = λ wide by fit on le. rw c.in-Kern.is (c.add_kern.ensures wide c.args.place by on)

pub returns-in-Tab : goal.returns-in-Tab
returns-in-Tab g c = λ wide by fit on le.
    let X = g.E.Extent in
    let r = c.args.rows.now in
    let s = r.draft.state in
    let P = templates_at r in
    let old = ledger_at r in
    let o = begun-open s.stage c.requires in
    let column = hand-column s.row.column s.row.first (held_of r.preamble.text.now s r.draft.memory) s.stage o in
    let called : Called X.count X.num wide r (tab_verdict P (room_at r) old s.row.column) (tabbed P old) c.tab.new.self c.tab.result =
    record { answer = λ _. c.tab.ensures.answer; ledger = c.tab.ensures.ledger; sound = c.tab.ensures.sound wide; stays = c.tab.ensures.stays } in
    rw (c.in-Tab.is, c.stepped-in-Tab.ensures)
    (subst (λ (n : ℕ). Turns X.count X.num wide c.args.text.now c.args.place r (unless_at c.args.place (tab_verdict P (room_at r) old n) (goes_on c.args.end (tabbed P old))) c.tab.new.self (stepped_by c.args.place (Continue c.args.end) c.tab.result)) (sym column)
    (step-turns X.count X.num wide c.args.text.now c.args.place c.args.place r _ _ c.tab.new.self (Continue c.args.end) c.tab.result called
    (tabs-lines P hfil old old.hand, tabs-open P hfil old old.hand (open-rows r o)) (on, le)))

pub returns-in-Span : goal.returns-in-Span
returns-in-Span g c = λ wide by fit on le.
    let X = g.E.Extent in
    let r = c.args.rows.now in
    let s = r.draft.state in
    let P = templates_at r in
    let old = ledger_at r in
    let o = begun-open s.stage c.requires in
    let column = hand-column s.row.column s.row.first (held_of r.preamble.text.now s r.draft.memory) s.stage o in
    let called : Called X.count X.num wide r (span_verdict P (room_at r) old s.row.column) (spanned P old) c.span.new.self c.span.result =
    record { answer = λ _. c.span.ensures.answer; ledger = c.span.ensures.ledger; sound = c.span.ensures.sound wide; stays = c.span.ensures.stays } in
    rw (c.in-Span.is, c.stepped-in-Span.ensures)
    (subst (λ (n : ℕ). Turns X.count X.num wide c.args.text.now c.args.place r (unless_at c.args.place (span_verdict P (room_at r) old n) (goes_on c.args.end (spanned P old))) c.span.new.self (stepped_by c.args.place (Continue c.args.end) c.span.result)) (sym column)
    (step-turns X.count X.num wide c.args.text.now c.args.place c.args.place r _ _ c.span.new.self (Continue c.args.end) c.span.result called
    (carries-lines P hfil old old.hand, carries-open P hfil old old.hand (open-rows r o)) (on, le)))
