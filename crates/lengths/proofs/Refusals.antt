-- The fault where a length is missing, by what stands there. Assumes nothing.
use Rattle.std.proofs.Common.{◌≡◌, ℕ, ◌<◌, ◌≤◌, List, length, get_or, Ok, Err, Result, sym, refl, ap, ◌∙◌, inl, inr, arith}
use Rattle.faults.specs.declared.Fault.{Fault}
use Rattle.faults.specs.declared.Cause.TheVariants.{BadByte, UnknownControl, BadLength}
use Rattle.faults.specs.Faults.{fault_at, number_of}
use Rattle.reader.specs.declared.classes.Class.{Class}
use Rattle.reader.specs.declared.classes.Class.TheVariants as class
use Rattle.reader.specs.declared.tokens.Lexeme.{Lexeme}
use Rattle.reader.specs.Classes.{class_of, IsSpecial, IsLetter, IsShut}
use Rattle.reader.specs.Reads.{Stray, Unknown, Reads}
use Rattle.reader.specs.Tokens.{token_at}
use Rattle.reader.proofs.Ranges.{classed-one}
use Rattle.reader.proofs.Reading.{reads, reads-one}
use Rattle.lengths.specs.Lengths.{missing_at}
use Rattle.lengths.specs.Laws.{Begins, Missed}
use Rattle.lengths.proofs.Missing.{missing-end, missing-token, missing-fault, missing-other}

-- a test that tells the bad bytes from the others
abbrev is_bad : Class → ℕ
is_bad class.Bad = 1
is_bad class.Space = 0
is_bad class.Special = 0
is_bad class.Letter = 0
is_bad class.Other = 0

-- a digit and a minus are bytes of a word
begins-class : (b : ℕ) → Begins b → class.Other ≡ class_of b
begins-class b h = classed-one b class.Other ((low h, high h), special h, letter h, shut h) where
  low : Begins b → 33 ≤ b
  low h = grind arith

  high : Begins b → b ≤ 126
  high h = grind arith

  special : Begins b → IsSpecial b → ⊥
  special h k = grind arith

  letter : Begins b → IsLetter b → ⊥
  letter h k = grind arith

  shut : Begins b → IsShut b → ⊥
  shut h k = grind arith

not_backslash : (b : ℕ) → Begins b → b ≡ 92 → ⊥
not_backslash b h k = grind arith

module _ (text : List ℕ) (place : ℕ) where
  missing-bad : Stray text place → missing_at text place ≡ fault_at BadByte place
  missing-bad bad = missing-fault text place (fault_at BadByte place) bad.0 (sym (reads-one text place (Err (fault_at BadByte place)) (inl (refl, bad)))) (omega arith)

  missing-unknown : Unknown text place → missing_at text place ≡ fault_at UnknownControl place
  missing-unknown u = missing-fault text place (fault_at UnknownControl place) u.slash.0 (sym (reads-one text place (Err (fault_at UnknownControl place)) (inr (inl (refl, u))))) (omega arith)

  else-by : (r : Result Lexeme Fault) → place < length text → (Stray text place → ⊥) → (Unknown text place → ⊥) → token_at text place ≡ r → Reads text place r → missing_at text place ≡ fault_at BadLength place
  else-by (Ok t) inside good known e h = missing-token text place t inside e
  else-by (Err f) inside good known e (inl h) = absurd (good h.1)
  else-by (Err f) inside good known e (inr (inl h)) = absurd (known h.1)
  else-by (Err f) inside good known e (inr (inr h)) = missing-other text place f inside e (omega (arith, ap (λ (x : Fault). number_of x.cause) h.0))

  missing-else : place < length text → (Stray text place → ⊥) → (Unknown text place → ⊥) → missing_at text place ≡ fault_at BadLength place
  missing-else inside good known = else-by (token_at text place) inside good known refl (reads text place)

  pub missing-begun : place < length text → Begins (get_or text place 0) → missing_at text place ≡ fault_at BadLength place
  missing-begun inside b =
      missing-else inside
      (λ bad. let z : ◌≡◌ {A = ℕ} 0 1 = ap is_bad (begins-class (get_or text place 0) b ∙ bad.1) in omega arith)
      (λ u. not_backslash (get_or text place 0) b u.slash.1)

  -- the definition gives the right fault
  pub missed : Missed text place (missing_at text place)
  missed = record { over = missing-end text place; bad = missing-bad; unknown = missing-unknown; other = missing-else; begun = missing-begun }
