use Rattle.std.proofs.Common.{◌≡◌, ◌∙◌, sym, ap, length, suc, arith}
use Rattle.sharing.specs.Gaps.{sum_to, stretch_at, stretch_in}
use Rattle.sharing.specs.Views.{widths_on, gaps_on}
use Rattle.sharing.proofs.Sums.{sum_to-none, sum_to-more, sum_to-below}
use Rattle.sharing.proofs.Sizes.{stretch-small}
use Rattle.sharing.proofs.gaps.whole_in.Goals as goal

pub loop-place-init : goal.loop-place-init
loop-place-init c = sym (sum_to-none (stretch_at (widths_on c.args.widths.now) (gaps_on c.args.gaps.now) c.args.order))

at-place : (c : goal.After-stretch_in-whole) → c.stretch_in-whole.result ≡ stretch_at (widths_on c.args.widths.now) (gaps_on c.args.gaps.now) c.args.order c.loop-place.place
at-place c = c.stretch_in-whole.ensures ∙ ap (stretch_in c.args.order) c.gap_at.ensures

pub overflow_add-whole : goal.overflow_add-whole
overflow_add-whole c =
    let a = at-place c in
    let small = stretch-small c.args.widths.now c.args.gaps.now c.requires c.args.order in
    let b = small c.loop-place.place in
    let d = sum_to-below (stretch_at (widths_on c.args.widths.now) (gaps_on c.args.gaps.now) c.args.order) 16777215 c.loop-place.place small in
    omega arith

pub loop-place-preserved : goal.loop-place-preserved
loop-place-preserved c =
    let a = at-place c in
    let m = sum_to-more (stretch_at (widths_on c.args.widths.now) (gaps_on c.args.gaps.now) c.args.order) c.loop-place.place in
    omega arith

pub returns : goal.returns
returns c =
    let e : c.loop-place.place ≡ suc (length c.args.widths.now) = omega arith in
    c.loop-place.invariant ∙ ap (sum_to (stretch_at (widths_on c.args.widths.now) (gaps_on c.args.gaps.now) c.args.order)) e
