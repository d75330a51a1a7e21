use Rattle.std.proofs.Common.{ℕ, ◌<◌, Bool, true, false, refl, sym, ap, ◌∙◌, arith}
use Rattle.std.proofs.lemmas.Int.{ints}
use Rattle.extent.specs.Sizes.{Within}
use Rattle.ledger.specs.Refusals.{entry_wide}
use Rattle.ledger.specs.Calls.{when, opened}
use Rattle.rows.specs.Views.{templates_at, room_at, ledger_at}
use Rattle.lines.specs.Lines.{started, too_wide}
use Rattle.lines.specs.Steps.{act_in, unmeant}
use Rattle.lines.proofs.Crowding.{crowded-is}
use Rattle.lines.proofs.row.crowded_cell.Goals as goal

pub returns-then-first_exceeds : goal.returns-then-first_exceeds
returns-then-first_exceeds g c = λ wide text sound fit.
    let X = g.E.Extent in
    let r = c.args.rows.now in
    let P = templates_at r in
    let a = act_in r.preamble.text.now c.args.action in
    let small : (k : ℕ) → k < X.count → Within 1073741823 (X.num c.zero.result k) = λ k kc. let e = c.zero.ensures k kc in (omega (arith, ints), omega (arith, ints)) in
    c.at.ensures ∙ crowded-is text P X.count wide (room_at r) (ledger_at r) c.args.place c.args.full (X.num c.zero.result) c.zero.ensures true (too_wide text unmeant P X.count wide (room_at r) (started P (opened (ledger_at r))) a) a
    (sym c.if-first_exceeds.true ∙ c.first_exceeds.ensures wide sound small) refl

pub returns-then-exceeds : goal.returns-then-exceeds
returns-then-exceeds g c = λ wide text sound fit.
    let X = g.E.Extent in
    let r = c.args.rows.now in
    let P = templates_at r in
    let a = act_in r.preamble.text.now c.args.action in
    let small : (k : ℕ) → k < X.count → Within 1073741823 (X.num c.zero.result k) = λ k kc. let e = c.zero.ensures k kc in (omega (arith, ints), omega (arith, ints)) in
    c.at-then-exceeds.ensures ∙ crowded-is text P X.count wide (room_at r) (ledger_at r) c.args.place c.args.full (X.num c.zero.result) c.zero.ensures false (when true entry_wide) a
    (sym c.if-first_exceeds.false ∙ c.first_exceeds.ensures wide sound small) (ap (λ (b : Bool). when b entry_wide) (sym c.if-exceeds.true) ∙ c.exceeds.ensures wide text sound fit)

pub returns-else-exceeds : goal.returns-else-exceeds
returns-else-exceeds g c = λ wide text sound fit.
    let X = g.E.Extent in
    let r = c.args.rows.now in
    let P = templates_at r in
    let a = act_in r.preamble.text.now c.args.action in
    let small : (k : ℕ) → k < X.count → Within 1073741823 (X.num c.zero.result k) = λ k kc. let e = c.zero.ensures k kc in (omega (arith, ints), omega (arith, ints)) in
    c.at-else-exceeds.ensures ∙ crowded-is text P X.count wide (room_at r) (ledger_at r) c.args.place c.args.full (X.num c.zero.result) c.zero.ensures false (when false entry_wide) a
    (sym c.if-first_exceeds.false ∙ c.first_exceeds.ensures wide sound small) (ap (λ (b : Bool). when b entry_wide) (sym c.if-exceeds.false) ∙ c.exceeds.ensures wide text sound fit)
