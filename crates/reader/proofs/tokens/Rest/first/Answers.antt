use Rattle.std.proofs.Common.{rules}
use Rattle.reader.specs.Tokens.{blank_byte}
use Rattle.reader.proofs.tokens.Rest.first.Goals as goal

pub returns-in-Space : goal.returns-in-Space
returns-in-Space c =
    let run = c.run_len.ensures.is blank_byte (λ b r e. e) in
    search rules
