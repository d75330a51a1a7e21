use Rattle.std.proofs.Common.{[], set, refl, rules}
use Rattle.rows.proofs.Grows.{one-held, one-fit}
use Rattle.rows.proofs.draft.Draft.add_item.Goals as goal

pub returns-clause-acts : goal.returns-clause-acts
returns-clause-acts g c =
    let s = c.args.self.now.state in
    let m = c.args.self.now.memory in
    record {
      held = λ p. one-held p s.lines s.laid s.marks s.row.begin m.lines.now m.entries.now m.items.now m.text.now c.requires.fit c.args.put.item c.args.put.word.now (set m.items.now s.marks.items c.args.put.item) c.write.new.all c.requires.items c.requires.text c.args.put.bytes refl c.write.ensures;
      fit = one-fit [] s.lines s.laid s.marks s.row.begin m.lines.now m.entries.now m.items.now m.text.now c.requires.fit c.args.put.item c.args.put.word.now (set m.items.now s.marks.items c.args.put.item) c.write.new.all c.requires.items c.requires.text c.args.put.bytes refl c.write.ensures;
      entries = refl;
      lens = search rules;
    }
