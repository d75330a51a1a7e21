use Rattle.std.proofs.Common.{[], take, ap, ◌∙◌, refl}
use Rattle.std.specs.List.{flat_map}
use Rattle.ledger.specs.Calls.{entries_in}
use Rattle.rows.specs.declared.state.State.{State}
use Rattle.rows.specs.Held.{Held, held_of, line_of}
use Rattle.rows.specs.Good.{open_in}
use Rattle.rows.proofs.Rooms.{rule-ledger}
use Rattle.rows.proofs.Adds.{same-ledger}
use Rattle.rows.proofs.Sounds.{closed-sound, bare-entries}
use Rattle.rows.proofs.rows.Rows.rule.Goals as goal

pub returns : goal.returns
returns g c =
    let s = c.args.self.now.draft.state in
    let m = c.args.self.now.draft.memory in
    let q = c.args.self.now.preamble in
    let p = q.text.now in
    let s' = c.add_bare.new.self.state in
    let m' = c.add_bare.new.self.memory in
    let a = c.add_bare.ensures in
    let e-laid = ap (λ (x : State g.row.E.Denot). x.laid.entries) c.add_bare.ensures.state in
    let e-column = ap (λ (x : State g.row.E.Denot). x.row.column) c.add_bare.ensures.state in
    let e-first = ap (λ (x : State g.row.E.Denot). x.row.first) c.add_bare.ensures.state in
    let e-stage = ap (λ (x : State g.row.E.Denot). x.stage) c.add_bare.ensures.state in
    let o = (c.in_ok-check_rule.ensures.room refl).0 in
    record {
      answer = c.in_ok-check_rule.ensures.answer;
      ledger = same-ledger s'.stage s.stage s'.row.column s.row.column s'.row.first s.row.first (held_of p s' m') e-stage e-column e-first ∙ rule-ledger s.stage s.row.column s.row.first (held_of p s m) (held_of p s' m') (line_of c.args.line []) (a.acts.held p);
      sound = λ wide sound.
          closed-sound g.E.Extent.count g.E.Extent.num wide q s s' m m' sound
          e-laid (ap (take s.laid.entries) a.acts.entries) (ap (λ (h : Held). flat_map entries_in h.lines) (a.acts.held p) ∙ bare-entries c.args.line (held_of p s m).lines) (ap open_in e-stage ∙ o);
      stays = record { preamble = refl; lens = a.acts.lens };
    }
