use Rattle.std.proofs.Common.{◌≡◌, ℕ, ◌+◌, ◌-◌, ◌<◌, true, false, eqb, List, [], length, take, ℤ, ◌+ℤ◌, sym, refl, ap, ◌∙◌, subst, arith}
use Rattle.std.specs.List.{flat_map}
use Rattle.extent.specs.Sizes.{Within}
use Rattle.ledger.specs.declared.records.Column.{Column}
use Rattle.ledger.specs.declared.records.ItemRecord.{ItemRecord}
use Rattle.ledger.specs.Ledger.{Item, Ledger}
use Rattle.ledger.specs.Calls.{entries_in, done_of, template_at}
use Rattle.ledger.specs.Items.{taken, decoded_items}
use Rattle.ledger.specs.Naturals.{natural, items_now, owed_of}
use Rattle.ledger.proofs.Beyonds.{natural-append, beyond-not}
use Rattle.rows.specs.declared.state.State.{State}
use Rattle.rows.specs.declared.state.Stage.TheVariants.{Begun}
use Rattle.rows.specs.Columns.{columns_in}
use Rattle.rows.specs.Held.{Held, held_of, pushed}
use Rattle.rows.specs.Good.{templates_of, ledger_of, one, fresh_in}
use Rattle.ledger.specs.Refusals.{entry_wide}
use Rattle.rows.proofs.Verdicts.{refused, accepted, passed}
use Rattle.rows.proofs.Rooms.{fresh_at_lem, both, piece-is, zero-part}
use Rattle.rows.proofs.Adds.{same-ledger, second, start-verdict, start_is, start-sum, start-ledger, fresh-is, fresh-open, inside}
use Rattle.rows.proofs.Sounds.{same-sound, start-items, start-owed, start-done}
use Rattle.rows.specs.Good.{u_pieces}
use Rattle.rows.proofs.rows.Rows.start.Goals as goal

pub returns-then-outside-clause-answer : goal.returns-then-outside-clause-answer
returns-then-outside-clause-answer g c =
    let s = c.args.self.now.draft.state in
    let m = c.args.self.now.draft.memory in
    let q = c.args.self.now.preamble in
    let p = q.text.now in
    let fit = c.args.self.now.good.fit in
    let col = s.row.column in
    let d = c.args.column in
    let t = passed _ _ c.in_ok-check_cell.ensures in
    let y = both (fresh_in s.stage) (eqb col d) t in
    let same = second (fresh_in s.stage) col d t in
    let at = fresh_at_lem s.stage col s.row.first d (held_of p s m) ∙ sym t in
    let n1 = ap one (fresh-is s.stage y) in
    let lt : col < length (columns_in q.columns.now) = omega arith in
    let X = g.E.Extent in
    λ wide sound. refused _ entry_wide _ tt c.at.ensures (start-verdict X.count wide (templates_of q) (ledger_of q s m) col d (X.num c.sum.result) true same at (start_is X.count X.num wide q s m sound y lt c.column-here.result.widths c.column-here.ensures.widths c.sum-sum.result c.sum.result c.sum-sum.ensures c.sum.ensures) c.if-outside.ensures)

pub add_part-requires-clause-bytes : goal.add_part-requires-clause-bytes
add_part-requires-clause-bytes g c =
    let q = c.args.self.now.preamble in
    let r = c.column-here.result.template in
    zero-part taken q.pieces.now r.from ((r.from + r.u) - r.from) q.bare

pub returns : goal.returns
returns g c =
    let s = c.args.self.now.draft.state in
    let m = c.args.self.now.draft.memory in
    let q = c.args.self.now.preamble in
    let p = q.text.now in
    let fit = c.args.self.now.good.fit in
    let col = s.row.column in
    let d = c.args.column in
    let t = passed _ _ c.in_ok-check_cell.ensures in
    let y = both (fresh_in s.stage) (eqb col d) t in
    let same = second (fresh_in s.stage) col d t in
    let at = fresh_at_lem s.stage col s.row.first d (held_of p s m) ∙ sym t in
    let n1 = ap one (fresh-is s.stage y) in
    let lt : col < length (columns_in q.columns.now) = omega arith in
    let X = g.E.Extent in
    let s' = c.add_part.new.self.state in
    let m' = c.add_part.new.self.memory in
    let a = c.add_part.ensures in
    let e-entries = ap (λ (x : State g.row.E.Denot). x.marks.entries) c.add_part.ensures.state in
    let e-column = ap (λ (x : State g.row.E.Denot). x.row.column) c.add_part.ensures.state in
    let e-first = ap (λ (x : State g.row.E.Denot). x.row.first) c.add_part.ensures.state in
    let e-laid = ap (λ (x : State g.row.E.Denot). x.laid.entries) c.add_part.ensures.state in
    let s'' : State g.row.E.Denot = record { lines = s'.lines; laid = s'.laid; marks = s'.marks; stage = Begun; row = record { column = s'.row.column; first = s'.row.first; begin = s'.row.begin; width = c.sum-sum.result } } in
    let r = c.column-here.result.template in
    let held = a.acts.held p ∙ ap (λ (x : List ItemRecord). pushed (held_of p s m) (decoded_items p x [])) (piece-is q.pieces.now r.from r.u) ∙ ap (λ (x : Column). pushed (held_of p s m) (decoded_items p (u_pieces q x) [])) c.column-here.ensures.template in
    let L = same-ledger Begun Begun s'.row.column col s'.row.first s.row.first (held_of p s' m') refl e-column e-first ∙ start-ledger q s.stage col s.row.first (held_of p s m) (held_of p s' m') y lt held in
    record {
      answer = λ wide sound. accepted _ tt (start-verdict X.count wide (templates_of q) (ledger_of q s m) col d (X.num c.sum.result) false same at (start_is X.count X.num wide q s m sound y lt c.column-here.result.widths c.column-here.ensures.widths c.sum-sum.result c.sum.result c.sum-sum.ensures c.sum.ensures) c.if-outside.ensures);
      ledger = L;
      sound = λ wide sound.
          let P = templates_of q in
          let h = held_of p s m in
          let sums = start-sum X.count X.num wide q s m sound y lt c.column-here.result.widths c.column-here.ensures.widths c.sum-sum.result c.sum.result c.sum-sum.ensures c.sum.ensures in
          let alls = start_is X.count X.num wide q s m sound y lt c.column-here.result.widths c.column-here.ensures.widths c.sum-sum.result c.sum.result c.sum-sum.ensures c.sum.ensures in
          let items : (k : ℕ) → natural wide (items_now (ledger_of q s'' m').hand) k ≡ natural wide (items_now (ledger_of q s m).hand) k +ℤ natural wide (template_at P col).u k =
          λ k. ap (λ (x : Ledger). natural wide (items_now x.hand) k) L ∙ ap (λ (x : List Item). natural wide x k) (start-items P col s.row.first h s.stage y) ∙ natural-append wide (items_now (ledger_of q s m).hand) (template_at P col).u k in
          let owes : (k : ℕ) → natural wide (owed_of P (ledger_of q s'' m').hand) k ≡ natural wide (template_at P col).v k =
          λ k. ap (λ (x : Ledger). natural wide (owed_of P x.hand) k) L ∙ ap (λ (x : List Item). natural wide x k) (start-owed P col s.row.first h s.stage y) in
          same-sound X.count X.num wide q s s'' m m' sound
          e-laid (ap (take s.laid.entries) a.acts.entries) (ap (λ (x : Held). flat_map entries_in x.lines) held)
          (fresh-open s.stage y) e-entries a.acts.entries
          (ap (λ (x : Ledger). done_of x.hand) L ∙ start-done P col s.row.first h s.stage)
          (λ k kc. sums k kc ∙ sym (items k))
          (λ k kc. subst (Within 1073741823) (alls k kc ∙ ap (λ (x : ℤ). x +ℤ natural wide (template_at P col).v k) (sym (items k)) ∙ ap (λ (x : ℤ). natural wide (items_now (ledger_of q s'' m').hand) k +ℤ x) (sym (owes k)))
          (inside (X.num c.sum.result k) (beyond-not X.count k (X.num c.sum.result) kc (sym c.if-outside.ensures))))
          (let bg = sound.begins (fresh-open s.stage y) in omega arith);
      stays = record { preamble = refl; lens = a.acts.lens };
    }
