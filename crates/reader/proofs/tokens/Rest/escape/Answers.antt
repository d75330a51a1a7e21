use Rattle.std.proofs.Common.{◌∙◌, rules}
use Rattle.std.specs.Prelude.{drop}
use Rattle.reader.proofs.Backslash.{unescaped}
use Rattle.reader.proofs.tokens.Rest.escape.Goals as goal
use Rattle.reader.proofs.tokens.Rest.escape.Goals.{in_default-via-then-self-lt2, in_default-via-in-len2-up+else-is_escapable}

pub returns-in_default : goal.returns-in_default
returns-in_default c =
    c.control_word.ensures
    ∙ unescaped (drop 1 c.args.self.bytes.now) c.args.self.place (λ some. elim c.in_default.branch [
      | in_default-via-then-self-lt2 w ↦ absurd (search rules)
      | in_default-via-in-len2-up+else-is_escapable w ↦ search rules
    ])
