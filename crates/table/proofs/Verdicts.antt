-- Put, and going on to the next column.
use Rattle.std.proofs.Common.{◌≡◌, ℕ, Bool, true, false, not, List, [], ◌∷◌, ℤ, Some, None, Option, Result, sym, refl, ap, ◌∙◌, arith}
use Rattle.std.proofs.lemmas.Int.{ints}
use Rattle.std.proofs.lemmas.Bool.Decides.{nat_tests}
use Rattle.extent.specs.Sizes.{Within}
use Rattle.lengths.specs.Gaps.{natural_fits}
use Rattle.faults.specs.declared.Fault.{Fault}
use Rattle.ledger.specs.declared.records.Room.{Room}
use Rattle.ledger.specs.Refusals.{foreign_cell}
use Rattle.ledger.specs.Ledger.{Item, Ledger}
use Rattle.ledger.specs.Calls.{Template, first_of, when, begun_at}
use Rattle.ledger.specs.Naturals.{item_fault, add_verdict, put_verdict}
use Rattle.rows.specs.declared.state.Memory.{Memory}
use Rattle.rows.specs.declared.state.State.{State}
use Rattle.rows.specs.declared.state.Cell.TheVariants.{Begun}
use Rattle.rows.specs.declared.preamble.Preamble.{Preamble}
use Rattle.rows.specs.Held.{held_of}
use Rattle.rows.specs.Good.{room_in, templates_of, ledger_of, holding}
use Rattle.rows.specs.Answers.{unless}
use Rattle.rows.proofs.Rooms.{begun-at}

third : (v : Option Fault) (b : Bool) (i : Option Fault) → b ≡ true → i ≡ None → v ≡ first_of (when (not b) foreign_cell ∷ i ∷ v ∷ [])
third None true None e h = refl
third None true (Some f) e h = cc
third None false i e h = cc
third (Some x) true None e h = refl
third (Some x) true (Some f) e h = cc
third (Some x) false i e h = cc

-- with its cell open and nothing wrong with the item, put is refused as one more item is
pub put_verdict_lem : {X : Type 0} (count : ℕ) (wide : Item → ℕ → ℤ) (meaning : List ℕ → Result X ℕ) (P : List Template) (r : Room) (g : Ledger) (c : ℕ) (a : Item)
    → begun_at c g.hand ≡ true → item_fault meaning a ≡ None → add_verdict count wide P r g a ≡ put_verdict count wide meaning P r g c a
put_verdict_lem count wide meaning P r g c a b i = third (add_verdict count wide P r g a) (begun_at c g.hand) (item_fault meaning a) b i

pub kern-within : (z : ℤ) → natural_fits z ≡ true → Within 1073741823 z
kern-within z h = (grind (arith, ints, nat_tests), grind (arith, ints, nat_tests))

-- an item put into the cell in hand is answered as one more item is
pub put-answer : {X E : Type 0} (count : ℕ) (wide : Item → ℕ → ℤ) (meaning : List ℕ → Result X ℕ) (q : Preamble E) (s : State E) (m : Memory E) (d : ℕ) (a : Item) (y : Result (Unit {0}) Fault)
    → true ≡ holding s.stage s.row.column (Begun d) → item_fault meaning a ≡ None → y ≡ unless (add_verdict count wide (templates_of q) (room_in m) (ledger_of q s m) a) tt
    → y ≡ unless (put_verdict count wide meaning (templates_of q) (room_in m) (ledger_of q s m) d a) tt
put-answer count wide meaning q s m d a y here fine e =
    e ∙ ap (λ (v : Option Fault). unless v tt) (put_verdict_lem count wide meaning (templates_of q) (room_in m) (ledger_of q s m) d a (begun-at s.stage s.row.column s.row.first d (held_of q.text.now s m) ∙ sym here) fine)
