use Rattle.std.proofs.Common.{◌≡◌, ℕ, ◌<◌, ℤ, Continue, sym, ◌∙◌, subst, arith, w64, to_z, of_z}
use Rattle.std.proofs.lemmas.Int.{ints}
use Rattle.extent.specs.Sizes.{Within}
use Rattle.ledger.specs.Ledger.{kern}
use Rattle.ledger.specs.Naturals.{add_verdict}
use Rattle.ledger.proofs.Words.{within_more}
use Rattle.rows.specs.Views.{templates_at, room_at, ledger_at}
use Rattle.rows.proofs.Rooms.{begun-open}
use Rattle.lines.specs.Lines.{item_step, with_item}
use Rattle.lines.specs.Steps.{stepped_by, unmeant, Turns}
use Rattle.lines.proofs.Hands.{puts-lines, puts-open}
use Rattle.lines.proofs.Calling.{Called, step-turns, open-rows}
use Rattle.lines.proofs.steps.add_kern.Goals as goal

pub returns : goal.returns
returns g c = λ wide place by on.
    let X = g.E.Extent in
    let r = c.args.rows.now in
    let text = c.args.text.now in
    let P = templates_at r in
    let old = ledger_at r in
    let l = c.in_ok-length.length in
    let w = c.in_ok-length.ensures.within in
    let z = to_z w64 (of_z w64 l.sp) in
    let back : z ≡ l.sp = omega (arith, ints, w.0.0, w.0.1) in
    let small : Within 16777215 z = (omega (arith, ints, w.0.0, back), omega (arith, ints, w.0.1, back)) in
    let fit : (k : ℕ) → k < X.count → (X.num c.enter.result k ≡ wide (kern z) k) × Within 1073741823 (X.num c.enter.result k) =
    λ k kc. (c.enter.ensures k kc ∙ sym (by k z), subst (Within 1073741823) (sym (c.enter.ensures k kc)) (within_more 16777215 1073741823 (X.entered k z) (omega arith) (g.met.E.Extent.bounded k 16777215 z kc small))) in
    let called : Called X.count X.num wide r (add_verdict X.count wide P (room_at r) old (kern z)) (with_item (kern z) old) c.add.new.self c.add.result =
    record { answer = λ s. c.add.ensures.answer wide s fit; ledger = c.add.ensures.ledger; sound = λ s. c.add.ensures.sound wide s fit; stays = c.add.ensures.stays } in
    rw (sym c.in_ok-length.ensures.answer, c.stepped.ensures)
    (subst (λ (n : ℤ). Turns X.count X.num wide text place r (item_step text unmeant P X.count wide (room_at r) old (kern n) c.args.at l.end) c.add.new.self (stepped_by c.args.at (Continue l.end) c.add.result)) back
    (step-turns X.count X.num wide text place c.args.at r _ _ c.add.new.self (Continue l.end) c.add.result called
    (puts-lines P (kern z) old old.hand, puts-open P (kern z) old old.hand (open-rows r (begun-open r.draft.state.stage c.requires)))
    (omega (arith, w.1), w.2)))
