use Rattle.std.proofs.Common.{◌∙◌, rules}
use Rattle.rows.specs.Held.{held_of}
use Rattle.rows.proofs.Rooms.{closed_same}
use Rattle.rows.proofs.draft.Draft.finish.Goals as goal

pub returns-clause-acts : goal.returns-clause-acts
returns-clause-acts g c =
    let s = c.args.self.now.state in
    let r = c.add_v.new.self.state.row in
    let a = c.add_v.ensures in
    let e = c.end_entry.ensures.acts in
    record {
      held = λ p. e.held p ∙ closed_same (held_of p c.add_v.new.self.state c.add_v.new.self.memory) _ r.first s.row.first r.column s.row.column (a.acts.held p) a.same.4 a.same.3;
      fit = e.fit;
      entries = search rules;
      lens = e.lens ∙ a.acts.lens;
    }
