-- What is answered of a length or of glue at a place, by what is spelled there. Assumes nothing.
use Rattle.std.specs.Prelude.{◌≡◌, ℕ, ◌+◌, ◌<◌, ◌≤◌, Bool, ◌⊎◌, List, ◌++◌, length, drop, pos, Ok, Err, codes, Result, ◌≢◌, slice_index}
use Rattle.faults.specs.declared.Fault.{Fault}
use Rattle.faults.specs.declared.Cause.TheVariants.{BadByte, UnknownControl, BadLength}
use Rattle.faults.specs.Faults.{fault_at}
use Rattle.reader.specs.Reads.{Longest, Stray, Unknown}
use Rattle.reader.specs.Tokens.{blank_byte}
use Rattle.lengths.specs.declared.order.Order.{Order}
use Rattle.lengths.specs.declared.order.Order.TheVariants.{Points}
use Rattle.lengths.specs.declared.length.Length.{Length}
use Rattle.lengths.specs.Dimens.{largest}
use Rattle.lengths.specs.Gaps.{parts}
use Rattle.lengths.specs.Glues.{GlueParts}
use Rattle.lengths.specs.Lengths.{length_at}
use Rattle.lengths.specs.Spelling.{SpellsMeasure, SpellsLength, signed}

-- a digit or a minus
abbrev pub Begins : ℕ → Type 0
Begins b = (b ≡ 45) ⊎ ((48 ≤ b) × (b ≤ 57))

-- the fault f is the right one where no length, or no stretch, stands at a place
pub record Missed (text : List ℕ) (place : ℕ) (f : Fault) : Type 0 where
  -- at the end of the text
  pub over : length text ≤ place → f ≡ fault_at BadLength (length text)
  -- a bad byte
  pub bad : Stray text place → f ≡ fault_at BadByte place
  -- a backslash with nothing known behind it
  pub unknown : Unknown text place → f ≡ fault_at UnknownControl place
  -- anything else
  pub other : place < length text → (Stray text place → ⊥) → (Unknown text place → ⊥) → f ≡ fault_at BadLength place
  -- what begins as a length is ill-formed at its first byte
  pub begun : place < length text → Begins (slice_index text place) → f ≡ fault_at BadLength place

-- the answer to a length at a place
pub record ReadsLength (text : List ℕ) (place : ℕ) (r : Result Length Fault) : Type 0 where
  -- a length that is spelled there is the answer if its size is within the limit, ..
  pub good : (minus : Bool) (size n : ℕ) → SpellsLength (drop place text) minus size n → size ≤ largest → r ≡ Ok (record { sp = signed minus size; end = place + n })
  -- .. and is refused at its first byte if not
  pub large : (minus : Bool) (size n : ℕ) → SpellsLength (drop place text) minus size n → largest < size → r ≡ Err (fault_at BadLength place)
  -- nothing else is answered
  pub only : (l : Length) → r ≡ Ok l → (minus : Bool) × (size : ℕ) × (n : ℕ) × SpellsLength (drop place text) minus size n × (size ≤ largest) × (l ≡ record { sp = signed minus size; end = place + n })
  pub refused : (f : Fault) → r ≡ Err f → Missed text place f

-- behind a length stands `plus`, and behind that and all spaces there the place at
pub record Plus (text : List ℕ) (l : Length) (at : ℕ) : Type 0 where
  pub tail : List ℕ
  pub word : drop l.end text ≡ codes "plus" ++ tail
  pub spaces : Longest blank_byte text (l.end + 4) at

-- the answer to glue at a place
pub record ReadsGlue (text : List ℕ) (place : ℕ) (r : Result GlueParts Fault) : Type 0 where
  -- where no length is answered, its refusal is the answer
  pub short : (f : Fault) → length_at text place ≡ Err f → r ≡ Err f
  -- a length with no `plus` behind it does not stretch
  pub plain : (l : Length) → length_at text place ≡ Ok l → ((tail : List ℕ) → drop l.end text ≢ codes "plus" ++ tail) → r ≡ Ok (record { gap = parts l.sp (pos 0) Points; end = l.end })
  -- behind `plus` and its spaces, a stretch within the limit is taken, ..
  pub stretched : (l : Length) (at : ℕ) → length_at text place ≡ Ok l → Plus text l at → (size : ℕ) (o : Order) (n : ℕ) → SpellsMeasure (drop at text) size o n → size ≤ largest → r ≡ Ok (record { gap = parts l.sp (pos size) o; end = at + n })
  -- .. one above it is refused at its first byte, ..
  pub large : (l : Length) (at : ℕ) → length_at text place ≡ Ok l → Plus text l at → (size : ℕ) (o : Order) (n : ℕ) → SpellsMeasure (drop at text) size o n → largest < size → r ≡ Err (fault_at BadLength at)
  -- .. and where none stands, that is refused as a missing length is
  pub missing : (l : Length) (at : ℕ) → length_at text place ≡ Ok l → Plus text l at → ((size : ℕ) (o : Order) (n : ℕ) → SpellsMeasure (drop at text) size o n → ⊥) → (f : Fault) × (r ≡ Err f) × Missed text at f
