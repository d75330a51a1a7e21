use Rattle.std.proofs.Common.{[], set, ◌-◌, refl, rules}
use Rattle.rows.specs.declared.state.LineRecord.TheVariants.{Row}
use Rattle.rows.proofs.Grows.{line-held, line-fit}
use Rattle.rows.proofs.draft.Draft.end_row.Goals as goal

pub returns-clause-acts : goal.returns-clause-acts
returns-clause-acts g c =
    let s = c.args.self.now.state in
    let m = c.args.self.now.memory in
    record {
      held = λ p. line-held p s.lines s.laid s.marks s.row.begin m.lines.now m.entries.now m.items.now m.text.now c.requires.fit (set m.lines.now s.lines (Row (s.marks.entries - s.laid.entries))) c.requires.lines c.requires.begin refl;
      fit = line-fit [] s.lines s.laid s.marks s.row.begin m.lines.now m.entries.now m.items.now m.text.now c.requires.fit (set m.lines.now s.lines (Row (s.marks.entries - s.laid.entries))) c.requires.lines c.requires.begin refl;
      entries = refl;
      lens = search rules;
    }
