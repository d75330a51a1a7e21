use Rattle.std.proofs.Common.{◌+◌, ◌-◌, ◌<◌, length, ap, arith, rules}
use Rattle.std.specs.List.{flat_map}
use Rattle.ledger.specs.Calls.{entries_in}
use Rattle.rows.specs.declared.state.Marks.{Marks}
use Rattle.rows.specs.declared.state.Stage.TheVariants.{Fresh}
use Rattle.rows.specs.Columns.{columns_in}
use Rattle.rows.specs.Held.{Held, held_of}
use Rattle.rows.specs.Good.{Goes}
use Rattle.rows.proofs.Rooms.{begun-one, v-owed, tab_ledger}
use Rattle.rows.proofs.Lays.{entry-width}
use Rattle.rows.proofs.Sounds.{tab_sound}
use Rattle.rows.proofs.rows.Rows.tab.Goals as goal

pub returns-clause-ledger : goal.returns-clause-ledger
returns-clause-ledger g c =
    let s = c.args.self.now.draft.state in
    let m = c.args.self.now.draft.memory in
    let q = c.args.self.now.preamble in
    let p = q.text.now in
    let fit = c.args.self.now.good.fit in
    let col = s.row.column in
    let go : Goes 1 s m q c.args.column = search rules in
    let b = go.begun in
    let o = begun-one s.stage b in
    let lt : col < length (columns_in q.columns.now) = omega arith in
    let s' = c.finish.new.self.state in
    tab_ledger q s.stage col s.row.first (held_of p s m) lt b (held_of p s' c.finish.new.self.memory) (c.finish.ensures.acts.held p)

pub returns-clause-sound : goal.returns-clause-sound
returns-clause-sound g c =
    let s = c.args.self.now.draft.state in
    let m = c.args.self.now.draft.memory in
    let q = c.args.self.now.preamble in
    let p = q.text.now in
    let fit = c.args.self.now.good.fit in
    let col = s.row.column in
    let go : Goes 1 s m q c.args.column = search rules in
    let b = go.begun in
    let o = begun-one s.stage b in
    let lt : col < length (columns_in q.columns.now) = omega arith in
    let n = v-owed q s.stage col b (q.parts col lt) in
    let f = c.finish.ensures.numbers in
    let s' = c.finish.new.self.state in
    let m' = c.finish.new.self.memory in
    let L = tab_ledger q s.stage col s.row.first (held_of p s m) lt b (held_of p s' m') (c.finish.ensures.acts.held p) in
    let X = g.E.Extent in
    λ wide sound.
    tab_sound X.count X.num wide q s (record { lines = s'.lines; laid = s'.laid; marks = s'.marks; stage = Fresh; row = record { column = col + 1; first = col + 1; begin = s'.marks.items; width = c.zero.result } }) m m' sound b
    s'.row.width (s'.marks.items - s.row.begin) (entry-width X.count X.num wide q s m sound b lt s'.row.width c.finish.ensures.width c.finish.ensures.still)
    (ap (λ (x : Marks). x.entries) f.laid) f.entries fit.since_entries (omega arith) c.finish.ensures.acts.entries L (ap (λ (x : Held). flat_map entries_in x.lines) (c.finish.ensures.acts.held p)) c.zero.ensures lt (omega arith)
