use Rattle.std.proofs.Common.{◌≡◌, ℕ, ◌+◌, ◌<◌, List, length, take, pos, ◌+ℤ◌, sym, ap, ◌∙◌, arith, rules}
use Rattle.std.specs.List.{flat_map}
use Rattle.std.proofs.lemmas.Int.{ints}
use Rattle.ledger.specs.Ledger.{Item, Ledger}
use Rattle.ledger.specs.Calls.{entries_in, done_of, on_open, carries}
use Rattle.ledger.specs.Naturals.{natural, items_now, owed_of}
use Rattle.ledger.proofs.Beyonds.{natural-append, natural-none}
use Rattle.rows.specs.declared.state.State.{State}
use Rattle.rows.specs.declared.state.Marks.{Marks}
use Rattle.rows.specs.declared.state.Stage.TheVariants.{Fresh}
use Rattle.rows.specs.Columns.{columns_in}
use Rattle.rows.specs.Held.{Held, held_of}
use Rattle.rows.specs.Good.{templates_of, ledger_of, ledger_by, Goes}
use Rattle.rows.proofs.Rooms.{begun-one, begun-open, carry-ledger}
use Rattle.rows.proofs.Lays.{entry-width}
use Rattle.rows.proofs.Sounds.{same-sound, carry-items, carry-owed, carry-done}
use Rattle.rows.proofs.rows.Rows.span.Goals as goal

pub returns-clause-ledger : goal.returns-clause-ledger
returns-clause-ledger g c =
    let s = c.args.self.now.draft.state in
    let m = c.args.self.now.draft.memory in
    let q = c.args.self.now.preamble in
    let p = q.text.now in
    let fit = c.args.self.now.good.fit in
    let col = s.row.column in
    let go : Goes 0 s m q c.args.column = search rules in
    let b = go.begun in
    let o = begun-one s.stage b in
    let lt : col < length (columns_in q.columns.now) = omega arith in
    let s' = c.add_v.new.self.state in
    let m' = c.add_v.new.self.memory in
    let a = c.add_v.ensures in
    let s'' : State g.row.E.Denot = record { lines = s'.lines; laid = s'.laid; marks = s'.marks; stage = Fresh; row = record { column = col + 1; first = s'.row.first; begin = s'.row.begin; width = s'.row.width } } in
    let L : ledger_of q s'' m' ≡ on_open (carries (templates_of q) (ledger_of q s m)) (ledger_of q s m) (ledger_of q s m).hand =
    ap (λ (x : ℕ). ledger_by Fresh (col + 1) x (held_of p s' m')) a.same.4 ∙ carry-ledger q s.stage col s.row.first (held_of p s m) lt b (held_of p s' m') (a.acts.held p) in
    L

pub returns-clause-sound : goal.returns-clause-sound
returns-clause-sound g c =
    let s = c.args.self.now.draft.state in
    let m = c.args.self.now.draft.memory in
    let q = c.args.self.now.preamble in
    let p = q.text.now in
    let fit = c.args.self.now.good.fit in
    let col = s.row.column in
    let go : Goes 0 s m q c.args.column = search rules in
    let b = go.begun in
    let o = begun-one s.stage b in
    let lt : col < length (columns_in q.columns.now) = omega arith in
    let s' = c.add_v.new.self.state in
    let m' = c.add_v.new.self.memory in
    let a = c.add_v.ensures in
    let s'' : State g.row.E.Denot = record { lines = s'.lines; laid = s'.laid; marks = s'.marks; stage = Fresh; row = record { column = col + 1; first = s'.row.first; begin = s'.row.begin; width = s'.row.width } } in
    let L : ledger_of q s'' m' ≡ on_open (carries (templates_of q) (ledger_of q s m)) (ledger_of q s m) (ledger_of q s m).hand =
    ap (λ (x : ℕ). ledger_by Fresh (col + 1) x (held_of p s' m')) a.same.4 ∙ carry-ledger q s.stage col s.row.first (held_of p s m) lt b (held_of p s' m') (a.acts.held p) in
    let i2 = ap (λ (x : Marks). x.entries) a.marks in
    λ wide sound.
    let X = g.E.Extent in
    let P = templates_of q in
    let h = held_of p s m in
    let o = begun-open s.stage b in
    let wide_is = entry-width X.count X.num wide q s m sound b lt s'.row.width a.width a.still in
    let items : (k : ℕ) → natural wide (items_now (ledger_of q s'' m').hand) k ≡ natural wide (items_now (ledger_of q s m).hand) k +ℤ natural wide (owed_of P (ledger_of q s m).hand) k =
    λ k. ap (λ (x : Ledger). natural wide (items_now x.hand) k) L ∙ ap (λ (x : List Item). natural wide x k) (carry-items P col s.row.first h s.stage b) ∙ natural-append wide (items_now (ledger_of q s m).hand) (owed_of P (ledger_of q s m).hand) k in
    let owes : (k : ℕ) → natural wide (owed_of P (ledger_of q s'' m').hand) k ≡ pos 0 =
    λ k. ap (λ (x : Ledger). natural wide (owed_of P x.hand) k) L ∙ ap (λ (x : List Item). natural wide x k) (carry-owed P col s.row.first h s.stage b) ∙ natural-none wide k in
    same-sound X.count X.num wide q s s'' m m' sound
    (ap (λ (x : Marks). x.entries) a.same.1) (ap (take s.laid.entries) a.acts.entries) (ap (λ (x : Held). flat_map entries_in x.lines) (a.acts.held p))
    o i2 a.acts.entries (ap (λ (x : Ledger). done_of x.hand) L ∙ carry-done P col s.row.first h s.stage)
    (λ k kc. wide_is k kc ∙ sym (items k))
    (λ k kc. let z = sound.near o k kc in let y1 = items k in let y2 = owes k in (omega (arith, ints), omega (arith, ints)))
    (let bg = sound.begins o in let f1 = a.same.4 in omega arith)
