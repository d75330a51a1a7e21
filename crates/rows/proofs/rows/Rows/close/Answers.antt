use Rattle.std.proofs.Common.{take, None, refl, ap}
use Rattle.std.specs.List.{flat_map}
use Rattle.ledger.specs.Ledger.{Ledger}
use Rattle.ledger.specs.Calls.{entries_in}
use Rattle.rows.specs.declared.state.State.{State}
use Rattle.rows.specs.declared.state.Stage.TheVariants.{Closed}
use Rattle.rows.specs.Held.{Held}
use Rattle.rows.proofs.Sounds.{closed-sound}
use Rattle.rows.proofs.rows.Rows.close.Goals as goal

pub returns : goal.returns
returns g c =
    let s = c.args.self.now.draft.state in
    let m = c.args.self.now.draft.memory in
    let q = c.args.self.now.preamble in
    let p = q.text.now in
    let s' = c.go_back.new.self.state in
    let m' = c.go_back.new.self.memory in
    let a = c.go_back.ensures in
    let e-laid = ap (λ (x : State g.row.E.Denot). x.laid.entries) c.go_back.ensures.state in
    let shut : Held → Ledger = λ h. record { lines = h.lines; hand = None } in
    record {
      ledger = ap shut (a.acts.held p);
      sound = λ wide sound.
          closed-sound g.E.Extent.count g.E.Extent.num wide q s (record { lines = s'.lines; laid = s'.laid; marks = s'.marks; stage = Closed; row = s'.row }) m m' sound
          e-laid (ap (take s.laid.entries) a.acts.entries) (ap (λ (h : Held). flat_map entries_in h.lines) (a.acts.held p)) refl;
      stays = record { preamble = refl; lens = a.acts.lens };
    }
