use Rattle.std.proofs.Common.{◌≡◌, ℕ, true, cond, Bool, sym, ap, ◌∙◌}
use Rattle.ledger.specs.Calls.{closed_up}
use Rattle.rows.specs.declared.state.Stage.{Stage}
use Rattle.rows.specs.Held.{Held, held_of}
use Rattle.rows.specs.Good.{ledger_of, hand_by}
use Rattle.rows.proofs.Rooms.{begun-at, fresh_at_lem}
use Rattle.rows.specs.declared.state.Cell.{Cell}
use Rattle.rows.specs.declared.state.Cell.TheVariants as cell
use Rattle.rows.specs.Good.{holding}
use Rattle.rows.specs.Views.{in_hand}
use Rattle.rows.proofs.rows.Rows.give_up.Goals as goal

held-in : (st : Stage) (c f : ℕ) (d : Cell) (h : Held) → in_hand d (hand_by st c f h) ≡ holding st c d
held-in st c f (cell.Fresh d) h = fresh_at_lem st c f d h
held-in st c f (cell.Begun d) h = begun-at st c f d h

pub returns-then-holds-clause-ledger : goal.returns-then-holds-clause-ledger
returns-then-holds-clause-ledger g c =
    let s = c.args.self.now.draft.state in
    let m = c.args.self.now.draft.memory in
    let q = c.args.self.now.preamble in
    let held = held_of q.text.now s m in
    let here : in_hand c.args.cell (hand_by s.stage s.row.column s.row.first held) ≡ true = held-in s.stage s.row.column s.row.first c.args.cell held ∙ sym c.holds.ensures ∙ c.if-holds.true in
    c.close.ensures.ledger ∙ sym (ap (λ (b : Bool). cond b (closed_up (ledger_of q s m)) (ledger_of q s m)) here)
