use Rattle.std.proofs.Common.{[], refl, rules}
use Rattle.rows.proofs.Grows.{entry-held, entry-fit}
use Rattle.rows.proofs.draft.Draft.end_entry.Goals as goal

pub returns-clause-acts : goal.returns-clause-acts
returns-clause-acts g c =
    let s = c.args.self.now.state in
    let m = c.args.self.now.memory in
    record {
      held = λ p. entry-held p s.lines s.laid s.marks s.row.begin m.lines.now m.entries.now m.items.now m.text.now c.requires.fit _ _ c.requires.entries refl refl;
      fit = entry-fit [] s.lines s.laid s.marks s.row.begin m.lines.now m.entries.now m.items.now m.text.now c.requires.fit _ _ c.requires.entries refl refl;
      entries = refl;
      lens = search rules;
    }
