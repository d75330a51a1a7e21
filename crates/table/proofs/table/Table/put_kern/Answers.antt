use Rattle.std.proofs.Common.{◌≡◌, Bool, true, not, ℤ, sym, ap, ◌∙◌, subst, arith, w64, to_z, of_z}
use Rattle.std.proofs.lemmas.Int.{ints}
use Rattle.extent.specs.Sizes.{Within}
use Rattle.ledger.specs.Ledger.{kern}
use Rattle.ledger.specs.Naturals.{add_verdict}
use Rattle.ledger.specs.Calls.{when}
use Rattle.ledger.specs.Refusals.{out_of_range}
use Rattle.lengths.specs.Gaps.{natural_fits}
use Rattle.rows.specs.Answers.{unless}
use Rattle.rows.specs.Good.{templates_of, room_in, ledger_of}
use Rattle.rows.proofs.Verdicts.{passed}
use Rattle.table.specs.Views.{wide_in}
use Rattle.table.proofs.Verdicts.{put-answer, kern-within}
use Rattle.table.proofs.table.Table.put_kern.Goals as goal

pub add-requires-clause-fits : goal.add-requires-clause-fits
add-requires-clause-fits g c = λ k kc.
    let z = c.args.sp in
    let whole : to_z w64 (of_z w64 z) ≡ z = let f = c.ranges.sp in omega (arith, ints) in
    let fits : natural_fits z ≡ true = ap natural_fits (sym whole) ∙ sym c.kern_fits.ensures ∙ c.if-not-kern_fits.false in
    (c.enter-width.ensures k kc, subst (Within 1073741823) (sym (c.enter-width.ensures k kc)) (g.met.M.Extent.Extent.bounded k 1073741823 (to_z w64 (of_z w64 z)) kc (subst (Within 1073741823) (sym whole) (kern-within z fits))))

pub add-requires-clause-fine : goal.add-requires-clause-fine
add-requires-clause-fine g c = sym c.kern_fits.ensures ∙ c.if-not-kern_fits.false

pub returns-clause-answer : goal.returns-clause-answer
returns-clause-answer g c =
    let t = c.args.self.now in
    let q = t.rows.preamble in
    let s = t.rows.draft.state in
    let m = t.rows.draft.memory in
    let X = g.M.Extent.Extent in
    let z = c.args.sp in
    let whole : to_z w64 (of_z w64 z) ≡ z = let f = c.ranges.sp in omega (arith, ints) in
    let fits : natural_fits z ≡ true = ap natural_fits (sym whole) ∙ sym c.kern_fits.ensures ∙ c.if-not-kern_fits.false in
    put-answer X.count (wide_in t) (g.M.Measurer.meaning t.measurer.now) q s m c.args.cell.now.column (kern z) _ (passed _ _ c.in_ok-check_cell.ensures) (ap (λ (y : Bool). when (not y) out_of_range) fits)
    (c.add.ensures.answer ∙ ap (λ (y : ℤ). unless (add_verdict X.count (wide_in t) (templates_of q) (room_in m) (ledger_of q s m) (kern y)) tt) whole)
