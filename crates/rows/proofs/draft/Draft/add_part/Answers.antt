use Rattle.std.proofs.Common.{[], refl, rules}
use Rattle.rows.proofs.Grows.{part_held, part-fit}
use Rattle.rows.proofs.draft.Draft.add_part.Goals as goal

pub returns-clause-acts : goal.returns-clause-acts
returns-clause-acts g c =
    let s = c.args.self.now.state in
    let m = c.args.self.now.memory in
    record {
      held = λ p. part_held p s.lines s.laid s.marks s.row.begin m.lines.now m.entries.now m.items.now m.text.now c.requires.fit c.args.pieces.now c.write.new.all c.requires.items c.requires.bytes c.write.ensures;
      fit = part-fit [] s.lines s.laid s.marks s.row.begin m.lines.now m.entries.now m.items.now m.text.now c.requires.fit c.args.pieces.now c.write.new.all c.requires.items c.requires.bytes c.write.ensures;
      entries = refl;
      lens = search rules;
    }
