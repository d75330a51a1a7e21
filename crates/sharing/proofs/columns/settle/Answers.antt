use Rattle.std.proofs.Common.{◌≡◌, ℕ, suc, ◌<◌, length, ℤ, pos, FitsSigned, w64, to_z, of_z, sym, ap, ◌∙◌, rules, arith}
use Rattle.sharing.specs.Gaps.{set_gap}
use Rattle.sharing.specs.Columns.{surplus, first_set, gaps_set}
use Rattle.sharing.specs.Views.{widths_on, gaps_on, first_on, behind_on}
use Rattle.sharing.proofs.Aims.{surplus-small}
use Rattle.sharing.proofs.Answering.{Answered, answered, refused}
use Rattle.sharing.proofs.Placing.{set-near, set-spread, edges-are}
use Rattle.sharing.proofs.columns.settle.Goals.{After-upward, After-share}
use Rattle.sharing.proofs.columns.settle.Goals as goal

answer : (c : After-upward) → Answered (widths_on c.args.widths.now) (gaps_on c.args.gaps.now) (length c.args.widths.now) c.args.aim (to_z w64 (of_z w64 c.aimed-target.result)) c.upward.result
answer c =
    let natural : FitsSigned w64 c.natural_width-natural.result = search rules in
    let target : FitsSigned w64 c.aimed-target.result = search rules in
    answered (widths_on c.args.widths.now) (gaps_on c.args.gaps.now) (length c.args.widths.now) c.args.aim c.natural_width-natural.result c.aimed-target.result c.all_sharers.result c.upward.result
    natural target c.natural_width-natural.ensures c.aimed-target.ensures c.all_sharers.ensures (sym c.if-not-attainable.false ∙ c.attainable.ensures) c.upward.ensures

-- the gaps lie in `set` as the rule has them
record GapsSet (c : After-share) : Type 0 where
  pub long : length c.args.widths.now < length c.share.new.set
  pub first : first_on c.share.new.set ≡ first_set (widths_on c.args.widths.now) (gaps_on c.args.gaps.now) (length c.args.widths.now) c.args.aim
  pub behind : (j : ℕ) → j < length c.args.widths.now → behind_on c.share.new.set j ≡ gaps_set (widths_on c.args.widths.now) (gaps_on c.args.gaps.now) (length c.args.widths.now) c.args.aim j

gaps-set : (c : After-share) → c.upward.result ≡ surplus (widths_on c.args.widths.now) (gaps_on c.args.gaps.now) (length c.args.widths.now) c.args.aim → GapsSet c
gaps-set c same =
    let set : ℕ → ℕ → ℤ = λ k u. set_gap (widths_on c.args.widths.now) (gaps_on c.args.gaps.now) (length c.args.widths.now) u k in
    let paired = c.requires.tame.paired in
    let room = c.requires.room in
    let kept = c.share.ensures.len in
    record {
      long = omega arith;
      first = c.share.ensures.gaps 0 (omega arith) (pos 0) ∙ ap (set 0) same;
      behind = λ j lt. c.share.ensures.gaps (suc j) (omega arith) (pos 0) ∙ ap (set (suc j)) same;
    }

pub returns-then-not-attainable-clause-answer : goal.returns-then-not-attainable-clause-answer
returns-then-not-attainable-clause-answer c =
    let natural : FitsSigned w64 c.natural_width-natural.result = search rules in
    let target : FitsSigned w64 c.aimed-target.result = search rules in
    refused (widths_on c.args.widths.now) (gaps_on c.args.gaps.now) (length c.args.widths.now) c.args.aim c.natural_width-natural.result c.aimed-target.result c.all_sharers.result
    natural target c.natural_width-natural.ensures c.aimed-target.ensures c.all_sharers.ensures (sym c.if-not-attainable.true ∙ c.attainable.ensures)

pub share-requires-clause-few : goal.share-requires-clause-few
share-requires-clause-few c =
    let a = answer (goal.at.share-requires-clause-few c).After-upward in
    let b = a.surplus-is in
    let d = surplus-small (widths_on c.args.widths.now) (gaps_on c.args.gaps.now) (length c.args.widths.now) c.args.aim (to_z w64 (of_z w64 c.aimed-target.result)) a.answer in
    omega arith

pub place_columns-requires-clause-spread : goal.place_columns-requires-clause-spread
place_columns-requires-clause-spread c =
    let a = answer (goal.at.place_columns-requires-clause-spread c).After-upward in
    let s = gaps-set (goal.at.place_columns-requires-clause-spread c).After-share a.surplus-is in
    set-spread c.args.widths.now c.share.new.set (gaps_on c.args.gaps.now) c.args.aim (to_z w64 (of_z w64 c.aimed-target.result)) c.requires.tame.sized a.answer s.long s.first s.behind

pub returns-clause-columns : goal.returns-clause-columns
returns-clause-columns c t is j lt d =
    let a = answer (goal.at.returns-clause-columns c).After-upward in
    let s = gaps-set (goal.at.returns-clause-columns c).After-share a.surplus-is in
    c.place_columns.ensures.columns j lt d
    ∙ edges-are (widths_on c.args.widths.now) (gaps_on c.args.gaps.now) (length c.args.widths.now) c.args.aim t c.requires.tame.sized (a.answer ∙ is) (first_on c.share.new.set) (behind_on c.share.new.set) s.first s.behind j lt

pub returns-clause-near : goal.returns-clause-near
returns-clause-near c t is =
    let a = answer (goal.at.returns-clause-near c).After-upward in
    set-near (widths_on c.args.widths.now) (gaps_on c.args.gaps.now) (length c.args.widths.now) c.args.aim t c.requires.tame.sized (a.answer ∙ is)
