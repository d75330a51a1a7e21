-- What \noalign holds, added to a ledger, is the line that is meant. Assumes nothing.
use Rattle.std.proofs.Common.{◌≡◌, ℕ, Bool, true, false, cond, List, [], ℤ, pos, Ok, Err, Result, refl}
use Rattle.std.specs.Prelude.{int_le}
use Rattle.faults.specs.declared.Fault.{Fault}
use Rattle.faults.specs.declared.Cause.TheVariants as cause
use Rattle.faults.specs.Faults.{fault_at}
use Rattle.reader.specs.declared.tokens.Lexeme.{Lexeme}
use Rattle.reader.specs.Tokens.{token_at}
use Rattle.lengths.specs.declared.length.Length.{Length}
use Rattle.lengths.specs.Lengths.{length_at}
use Rattle.ledger.specs.declared.records.Room.{Room}
use Rattle.ledger.specs.Ledger.{Item, Ledger, gap}
use Rattle.ledger.specs.Calls.{Template, ruled_by}
use Rattle.rows.specs.declared.state.LineRecord.TheVariants.{Rule, Gap}
use Rattle.rows.specs.Held.{line_of}
use Rattle.lines.specs.declared.noalign.Bare.{Bare}
use Rattle.lines.specs.Lines.{Piece, opens, closes, draws, skips, ends, other, piece_of, closed_by, closed_at, gap_by, bare_by, bare_at, opened_by, opened_at}
use Rattle.lines.specs.Bares.{open_by, open_end, close_by, close_end, gap_bare, piece_bare, lexeme_bare, closed_with, then_close, then_bare, noalign_of, line_with}

module _ {X : Type 0} (text : List ℕ) (meaning : List ℕ → Result X ℕ) (P : List Template) (count : ℕ) (wide : Item → ℕ → ℤ) (m : Room) (g : Ledger) where
  closed-piece : (b : Bare) (e : ℕ) (p : Piece) → line_with g (closed_with b (close_by text b.end e p)) ≡ closed_by text meaning P count wide m (ruled_by (line_of b.line []) g) b.end e p
  closed-piece b e opens = refl
  closed-piece b e closes = refl
  closed-piece b e draws = refl
  closed-piece b e skips = refl
  closed-piece b e ends = refl
  closed-piece b e other = refl

  closed-is : (b : Bare) (r : Result Lexeme Fault) → line_with g (closed_with b (close_end text b.end r)) ≡ closed_at text meaning P count wide m (ruled_by (line_of b.line []) g) b.end r
  closed-is b (Ok l) = closed-piece b l.end (piece_of l.token)
  closed-is b (Err f) = refl

  gap-is : (place : ℕ) (r : Result Length Fault) → line_with g (then_close text (gap_bare place r)) ≡ gap_by text meaning P count wide m g place r
  gap-is place (Ok l) = by (int_le (pos 0) l.sp)
    where
      by : (b : Bool) → line_with g (then_close text (cond b (Ok (record { line = Gap l.sp; end = l.end })) (Err (fault_at cause.BadLength place))))
          ≡ cond b (closed_at text meaning P count wide m (ruled_by (gap l.sp) g) l.end (token_at text l.end)) (Err (fault_at cause.BadLength place))
      by true = closed-is (record { line = Gap l.sp; end = l.end }) (token_at text l.end)
      by false = refl
  gap-is place (Err f) = refl

  bare-piece : (place e : ℕ) (p : Piece) → line_with g (then_close text (piece_bare text place e p)) ≡ bare_by text meaning P count wide m g place e p
  bare-piece place e opens = refl
  bare-piece place e closes = refl
  bare-piece place e draws = closed-is (record { line = Rule; end = e }) (token_at text e)
  bare-piece place e skips = gap-is e (length_at text e)
  bare-piece place e ends = refl
  bare-piece place e other = refl

  bare-is : (place : ℕ) (r : Result Lexeme Fault) → line_with g (then_close text (lexeme_bare text place r)) ≡ bare_at text meaning P count wide m g place r
  bare-is place (Ok l) = bare-piece place l.end (piece_of l.token)
  bare-is place (Err f) = refl

  open-piece : (place e : ℕ) (p : Piece) → line_with g (then_bare text (open_by text place e p)) ≡ opened_by text meaning P count wide m g place e p
  open-piece place e opens = bare-is e (token_at text e)
  open-piece place e closes = refl
  open-piece place e draws = refl
  open-piece place e skips = refl
  open-piece place e ends = refl
  open-piece place e other = refl

  open-is : (place : ℕ) (r : Result Lexeme Fault) → line_with g (then_bare text (open_end text place r)) ≡ opened_at text meaning P count wide m g place r
  open-is place (Ok l) = open-piece place l.end (piece_of l.token)
  open-is place (Err f) = refl

  -- what stands behind \noalign is the line that is meant
  pub noalign-is : (place : ℕ) → line_with g (noalign_of text place) ≡ opened_at text meaning P count wide m g place (token_at text place)
  noalign-is place = open-is place (token_at text place)
