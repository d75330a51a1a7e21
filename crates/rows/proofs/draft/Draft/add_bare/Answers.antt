use Rattle.std.proofs.Common.{[], set, refl, rules}
use Rattle.rows.proofs.Grows.{bare-held, bare-fit}
use Rattle.rows.proofs.draft.Draft.add_bare.Goals as goal

pub returns-clause-acts : goal.returns-clause-acts
returns-clause-acts g c =
    let s = c.args.self.now.state in
    let m = c.args.self.now.memory in
    record {
      held = λ p. bare-held p s.lines s.laid s.marks s.row.begin m.lines.now m.entries.now m.items.now m.text.now c.requires.fit c.args.line (set m.lines.now s.lines c.args.line) c.requires.lines c.requires.bare refl;
      fit = bare-fit [] s.lines s.laid s.marks s.row.begin m.lines.now m.entries.now m.items.now m.text.now c.requires.fit c.args.line (set m.lines.now s.lines c.args.line) c.requires.lines c.requires.bare refl;
      entries = refl;
      lens = search rules;
    }
