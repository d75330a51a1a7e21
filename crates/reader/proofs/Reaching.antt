-- What is read lies within the text and ends behind its place. Assumes nothing.
use Rattle.std.proofs.Common.{◌≡◌, ℕ, ◌+◌, ◌-◌, ◌<◌, ◌≤◌, Bool, List, length, get_or, Ok, Err, Result, sym, ap, subst, inl, inr, arith}
use Rattle.std.proofs.lemmas.Bool.{cases_lt}
use Rattle.faults.specs.declared.Fault.{Fault}
use Rattle.reader.specs.declared.tokens.Control.{Control}
use Rattle.reader.specs.declared.tokens.Token.{Token}
use Rattle.reader.specs.declared.tokens.Token.TheVariants as token
use Rattle.reader.specs.declared.tokens.Lexeme.{Lexeme}
use Rattle.reader.specs.Classes.{InRange}
use Rattle.reader.specs.Tokens.{word_byte, token_at}
use Rattle.reader.specs.Reads.{Longest, PlainWord, EscapedWord, ControlWord, Mark, TokenIs, Reads, Forward, WordWithin, Reaches, Onward}
use Rattle.reader.proofs.Reading.{reads}
use Rattle.reader.proofs.Ranges.{word-in_range, escapable-in_range}

pub longest-inside : (p : ℕ → Bool) (text : List ℕ) (a e : ℕ) → a < e → Longest p text a e → e ≤ length text
longest-inside p text a e lt h = omega (arith, (h.all (e - 1) (omega arith) (omega arith)).0)

-- a run that may be empty, from a place that is not past the end
longest-within : (p : ℕ → Bool) (text : List ℕ) (a e : ℕ) → a ≤ length text → Longest p text a e → e ≤ length text
longest-within p text a e le h = elim (cases_lt a e) [ inl lt ↦ longest-inside p text a e lt h | inr ge ↦ omega arith ]

module _ (text : List ℕ) (place : ℕ) where
  plain-within : (w n e : ℕ) → PlainWord text place w n e → WordWithin text place w n e
  plain-within w n e h =
      let some : 1 ≤ n = h.some in
      let far : e ≡ place + n = h.behind in
      let here : w ≡ place = h.here in
      let in' : place + n ≤ length text = longest-inside word_byte text place (place + n) (omega arith) h.run in
      record {
        further = omega arith;
        inside = omega arith;
        from = omega arith;
        upto = omega arith;
        some = some;
        few = h.few;
        bytes = λ k lt. subst (λ (v : ℕ). InRange (get_or text (v + k) 0)) (sym here) (word-in_range (get_or text (place + k) 0) (h.run.all (place + k) (omega arith) (omega arith)).1);
      }

  escaped_within : (w n e : ℕ) → EscapedWord text place w n e → WordWithin text place w n e
  escaped_within w n e h =
      let one : n ≡ 1 = h.one in
      let far : e ≡ place + 2 = h.behind in
      let here : w ≡ place + 1 = h.here in
      let in' : place + 1 < length text = h.byte.0 in
      record {
        further = omega arith;
        inside = omega arith;
        from = omega arith;
        upto = omega arith;
        some = omega arith;
        few = omega arith;
        bytes = λ k lt. let at : place + 1 ≡ w + k = omega arith in subst (λ (v : ℕ). InRange (get_or text v 0)) at (escapable-in_range (get_or text (place + 1) 0) h.byte.1);
      }

  control-within : (c : Control) (e : ℕ) → ControlWord text place e c → Forward text place e
  control-within c e h =
      let near : place < length text = h.1.slash.0 in
      let le : h.0 ≤ length text = longest-within _ text (place + 1) h.0 (omega arith) h.1.run in
      record { further = omega (arith, h.1.run.onto, h.2.onto); inside = longest-within _ text h.0 e le h.2 }

  mark-within : (b e : ℕ) → Mark b text place e → Forward text place e
  mark-within b e h = record { further = omega (arith, h.1); inside = omega (arith, h.0.0, h.1) }

  token-reaches : (t : Token) (e : ℕ) → TokenIs text place e t → Reaches text place e t
  token-reaches token.End e h = (h.1, h.0)
  token-reaches token.Space e h = record { further = h.0; inside = longest-inside _ text place e h.0 h.1 }
  token-reaches (token.Word w n) e (inl h) = plain-within w n e h
  token-reaches (token.Word w n) e (inr h) = escaped_within w n e h
  token-reaches (token.Control c) e h = control-within c e h
  token-reaches token.Ampersand e h = mark-within 38 e h
  token-reaches token.Hash e h = mark-within 35 e h
  token-reaches token.OpenBrace e h = mark-within 123 e h
  token-reaches token.CloseBrace e h = mark-within 125 e h

  pub reads-onward : (r : Result Lexeme Fault) → Reads text place r → Onward text place r
  reads-onward (Ok l) h = token-reaches l.token l.end h
  reads-onward (Err f) (inl h) = (ap (λ (g : Fault). g.place) h.0, h.1.0)
  reads-onward (Err f) (inr (inl h)) = (ap (λ (g : Fault). g.place) h.0, h.1.slash.0)
  reads-onward (Err f) (inr (inr h)) = (ap (λ (g : Fault). g.place) h.0, (h.1.1.all place (omega arith) (omega (arith, h.1.2))).0)

-- how far the definition's token reaches
pub token-onward : (text : List ℕ) (place : ℕ) → Onward text place (token_at text place)
token-onward text place = reads-onward text place (token_at text place) (reads text place)
