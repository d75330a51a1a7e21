-- Where a line ends. Assumes nothing.
use Rattle.std.specs.Prelude.{◌≡◌, ℕ, ◌⊎◌, ◌≤◌, List, length, Some, None, Ok, Err, Option, Result}
use Rattle.faults.specs.declared.Fault.{Fault}
use Rattle.reader.specs.declared.tokens.Control.TheVariants as control
use Rattle.reader.specs.declared.tokens.Token.{Token}
use Rattle.reader.specs.declared.tokens.Token.TheVariants as token
use Rattle.reader.specs.Tokens.{token_at}
use Rattle.lines.specs.Lines.{LineRead}

-- n bytes of a text end behind a token of it: a row's \cr, with the spaces behind it, or the brace that closes \noalign
pub record EndsLine (text : List ℕ) (n : ℕ) : Type 0 where
  pub place : ℕ
  pub last : Token
  pub closes : (last ≡ token.Control control.Cr) ⊎ (last ≡ token.CloseBrace)
  pub is : token_at text place ≡ Ok (record { token = last; end = n })
  pub within : n ≤ length text

-- the bytes of a line that was read
abbrev pub EndsAt : List ℕ → Result (Option LineRead) Fault → Type 0
EndsAt text (Ok (Some r)) = EndsLine text r.bytes
EndsAt text (Ok None) = Unit {0}
EndsAt text (Err f) = Unit {0}
