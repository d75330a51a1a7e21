use Rattle.std.proofs.Common.{◌-◌, ◌<◌, eqb, length, refl, ap, ◌∙◌, arith}
use Rattle.rows.specs.declared.state.State.{State}
use Rattle.rows.specs.declared.state.Stage.TheVariants.{Closed}
use Rattle.rows.specs.Columns.{columns_in}
use Rattle.rows.specs.Held.{held_of, laid_down}
use Rattle.rows.specs.Good.{begun_in}
use Rattle.rows.proofs.Verdicts.{passed}
use Rattle.rows.proofs.Rooms.{begun-one, both, lay_ledger}
use Rattle.rows.proofs.Lays.{lay_sound}
use Rattle.rows.proofs.rows.Rows.lay.Goals as goal

pub returns-clause-ledger : goal.returns-clause-ledger
returns-clause-ledger g c =
    let s = c.args.self.now.draft.state in
    let m = c.args.self.now.draft.memory in
    let q = c.args.self.now.preamble in
    let p = q.text.now in
    let fit = c.args.self.now.good.fit in
    let col = s.row.column in
    let t = passed _ _ c.in_ok-check_cell.ensures in
    let b = both (begun_in s.stage) (eqb col c.args.column) t in
    let o = begun-one s.stage b in
    let lt : col < length (columns_in q.columns.now) = omega arith in
    let s' = c.end_row.new.self.state in
    lay_ledger q s.stage col s.row.first (held_of p s m) lt b s'.row.column s'.row.first (held_of p s' c.end_row.new.self.memory) (c.end_row.ensures.acts.held p ∙ ap laid_down (c.finish.ensures.acts.held p))

pub returns-clause-sound : goal.returns-clause-sound
returns-clause-sound g c =
    let s = c.args.self.now.draft.state in
    let m = c.args.self.now.draft.memory in
    let q = c.args.self.now.preamble in
    let p = q.text.now in
    let fit = c.args.self.now.good.fit in
    let col = s.row.column in
    let t = passed _ _ c.in_ok-check_cell.ensures in
    let b = both (begun_in s.stage) (eqb col c.args.column) t in
    let o = begun-one s.stage b in
    let lt : col < length (columns_in q.columns.now) = omega arith in
    let f = c.finish.ensures.numbers in
    let s' = c.end_row.new.self.state in
    let e-entries = ap (λ (x : State g.row.E.Denot). x.marks.entries) c.end_row.ensures.state in
    let e-laid = ap (λ (x : State g.row.E.Denot). x.laid.entries) c.end_row.ensures.state in
    let L = lay_ledger q s.stage col s.row.first (held_of p s m) lt b s'.row.column s'.row.first (held_of p s' c.end_row.new.self.memory) (c.end_row.ensures.acts.held p ∙ ap laid_down (c.finish.ensures.acts.held p)) in
    λ wide sound. lay_sound g.E.Extent.count g.E.Extent.num wide q s m sound b lt c.finish.new.self.state.row.width c.finish.ensures.width c.finish.ensures.still
    (record { lines = s'.lines; laid = s'.laid; marks = s'.marks; stage = Closed; row = s'.row }) c.end_row.new.self.memory (c.finish.new.self.state.marks.items - s.row.begin)
    refl (omega arith) fit.since_entries (omega arith) (c.end_row.ensures.acts.entries ∙ c.finish.ensures.acts.entries) L
