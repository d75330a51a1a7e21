use Rattle.std.proofs.Common.{◌≡◌, ◌+◌, ◌-◌, ◌≤◌, length, ℤ, ◌+ℤ◌, slice_index_or, slice_set, w64, to_z, of_z, sym, ap, ◌∙◌, ⊎_elim, arith}
use Rattle.std.proofs.lemmas.Int.{ints}
use Rattle.std.proofs.lemmas.Bool.{cases_eq}
use Rattle.std.proofs.lemmas.List.{get_or-set_same, get_or-set_other}
use Rattle.lengths.specs.Gaps.{Parts}
use Rattle.sharing.specs.Gaps.{gap_at, stretch_in, whole_in, sharing_order, sharers, all_sharers, set_gap}
use Rattle.sharing.specs.Views.{widths_on, gaps_on}
use Rattle.sharing.proofs.Sums.{sum_to-none, sum_to-below}
use Rattle.sharing.proofs.Growing.{given-none}
use Rattle.sharing.proofs.Sizes.{stretch-small, gap-near}
use Rattle.sharing.proofs.Turns.{GapTurn, gap-turn, product-small}
use Rattle.sharing.proofs.columns.share.Goals.{After-stretch_in-part, After-portion_of-given}
use Rattle.sharing.proofs.columns.share.Goals as goal

pub loop-place-init : goal.loop-place-init
loop-place-init c =
    let s = sharers (widths_on c.args.widths.now) (gaps_on c.args.gaps.now) (length c.args.widths.now) in
    record {
      part = sym (sum_to-none s);
      shared = sym (given-none c.args.surplus (all_sharers (widths_on c.args.widths.now) (gaps_on c.args.gaps.now) (length c.args.widths.now)) s);
      gaps = λ k lt d. absurd (omega arith);
    }

here-is : (c : After-stretch_in-part) → c.stretch_in-part.result ≡ sharers (widths_on c.args.widths.now) (gaps_on c.args.gaps.now) (length c.args.widths.now) c.loop-place.place
here-is c =
    c.stretch_in-part.ensures ∙ ap (stretch_in c.sharing_order-order.result) c.gap_at-gap.ensures
    ∙ ap (λ o. stretch_in o (gap_at (widths_on c.args.widths.now) (gaps_on c.args.gaps.now) c.loop-place.place)) c.sharing_order-order.ensures

part-small : (c : After-stretch_in-part) → c.loop-place.part + c.stretch_in-part.result ≤ 553648095
part-small c =
    let w = widths_on c.args.widths.now in
    let g = gaps_on c.args.gaps.now in
    let n = length c.args.widths.now in
    let few = c.requires.tame.few in
    let paired = c.requires.tame.paired in
    let a = here-is c in
    let small = stretch-small c.args.widths.now c.args.gaps.now c.requires.tame (sharing_order w g n) in
    let b = small c.loop-place.place in
    let d = sum_to-below (sharers w g n) 16777215 c.loop-place.place small in
    omega arith

pub overflow_add-part : goal.overflow_add-part
overflow_add-part c = let a = part-small c in omega arith

pub portion_of-given-requires : goal.portion_of-given-requires
portion_of-given-requires c = product-small c.args.surplus (c.loop-place.part + c.stretch_in-part.result) c.requires.few (part-small c)

turn : (c : After-portion_of-given) → GapTurn (sharers (widths_on c.args.widths.now) (gaps_on c.args.gaps.now) (length c.args.widths.now)) c.args.surplus (length c.args.widths.now) c.loop-place.place c.loop-place.part c.stretch_in-part.result c.loop-place.shared c.portion_of-given.result
turn c =
    let w = widths_on c.args.widths.now in
    let g = gaps_on c.args.gaps.now in
    let n = length c.args.widths.now in
    let paired = c.requires.tame.paired in
    gap-turn (sharers w g n) c.args.surplus n c.loop-place.place c.loop-place.part c.stretch_in-part.result c.loop-place.shared c.portion_of-given.result c.whole_in-whole.result
    (omega arith)
    c.loop-place.invariant.part
    (here-is (goal.at.overflow_sub-set c).After-stretch_in-part)
    (c.whole_in-whole.ensures ∙ ap (whole_in w g n) c.sharing_order-order.ensures)
    c.loop-place.invariant.shared
    c.portion_of-given.ensures

pub overflow_sub-set : goal.overflow_sub-set
overflow_sub-set c = let t = turn c in let a = t.grows in omega arith

pub overflow_cast-set : goal.overflow_cast-set
overflow_cast-set c = let t = turn c in let a = t.most in omega (arith, ints)

pub overflow_add-set : goal.overflow_add-set
overflow_add-set c =
    let t = turn (goal.at.overflow_add-set c).After-portion_of-given in
    let a = t.most in
    let b = gap-near (widths_on c.args.widths.now) (gaps_on c.args.gaps.now) (length c.args.widths.now) c.requires.tame.sized c.loop-place.place in
    let d = ap (λ (p : Parts). p.natural) c.gap_at-gap.ensures in
    omega (arith, ints)

set-is : (c : After-portion_of-given) → to_z w64 (of_z w64 (to_z w64 (of_z w64 c.gap_at-gap.result.natural) +ℤ to_z w64 (c.portion_of-given.result - c.loop-place.shared)))
    ≡ set_gap (widths_on c.args.widths.now) (gaps_on c.args.gaps.now) (length c.args.widths.now) c.args.surplus c.loop-place.place
set-is c =
    let t = turn c in
    let a = t.most in
    let e = t.grows in
    let b = gap-near (widths_on c.args.widths.now) (gaps_on c.args.gaps.now) (length c.args.widths.now) c.requires.tame.sized c.loop-place.place in
    let d = ap (λ (p : Parts). p.natural) c.gap_at-gap.ensures in
    omega (arith, ints)

pub loop-place-preserved : goal.loop-place-preserved
loop-place-preserved c =
    let w = widths_on c.args.widths.now in
    let g = gaps_on c.args.gaps.now in
    let n = length c.args.widths.now in
    let k = c.loop-place.place in
    let v : ℤ = to_z w64 (of_z w64 (to_z w64 (of_z w64 c.gap_at-gap.result.natural) +ℤ to_z w64 (c.portion_of-given.result - c.loop-place.shared))) in
    let p = (goal.at.loop-place-preserved c).After-portion_of-given in
    let t = turn p in
    let room = c.requires.room in
    let long = c.loop-place.auto.set in
    record {
      part = t.part-is;
      shared = t.given-is;
      gaps = λ i lt d. ⊎_elim
          (λ same. ap (λ x. slice_index_or (slice_set c.loop-place.set k v) x d) same ∙ get_or-set_same c.loop-place.set k v d (omega arith) ∙ set-is p ∙ ap (set_gap w g n c.args.surplus) (sym same))
          (λ other. get_or-set_other c.loop-place.set k i v d other ∙ c.loop-place.invariant.gaps i (omega arith) d)
          (cases_eq i k);
    }
