use Rattle.std.proofs.Common.{[], refl}
use Rattle.rows.proofs.Grows.{empty-held, empty-fit}
use Rattle.rows.proofs.draft.Draft.go_back.Goals as goal

pub returns-clause-acts : goal.returns-clause-acts
returns-clause-acts g c =
    let s = c.args.self.now.state in
    let m = c.args.self.now.memory in
    record {
      held = λ p. empty-held p s.lines s.laid s.marks s.row.begin m.lines.now m.entries.now m.items.now m.text.now c.requires.fit;
      fit = empty-fit [] s.lines s.laid s.marks s.row.begin m.lines.now m.entries.now m.items.now m.text.now c.requires.fit;
      entries = refl;
      lens = refl;
    }
