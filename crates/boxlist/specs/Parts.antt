-- The bytes that a word's box names, a part of one of two texts. Assumes nothing.
use Rattle.std.specs.Prelude.{◌≡◌, ℕ, ◌+◌, cond, ◌⊎◌, List, ◌++◌, length, take, drop, ℤ, pos, negsuc, Some, None, Ok, Err, Option, Result, nat_le}
use Rattle.std.specs.Borrow.{Bor}
use Rattle.faults.specs.declared.Cause.TheVariants.{BadBox}
use Rattle.faults.specs.declared.Fault.{Fault}
use Rattle.faults.specs.Faults.{fault_at}
use Rattle.boxlist.specs.declared.Kind.{Kind}
use Rattle.boxlist.specs.declared.Kind.TheVariants as kinds
use Rattle.boxlist.specs.declared.Store.{Store}
use Rattle.boxlist.specs.declared.Store.TheVariants as stores
use Rattle.boxlist.specs.declared.BoxRecord.{BoxRecord}

-- the text that a word's box names
abbrev pub store_text : Store → List ℕ → List ℕ → Option (List ℕ)
store_text stores.Preamble p l = Some p
store_text stores.Lines p l = Some l
store_text (stores.Unlisted n) p l = None

abbrev pub named_text : Kind → Store → List ℕ → List ℕ → Option (List ℕ)
named_text kinds.Word s p l = store_text s p l
named_text kinds.Rule s p l = None
named_text (kinds.Unlisted n) s p l = None

-- the part of a text from a place on, where the text has it
abbrev pub text_part : List ℕ → ℤ → ℤ → Option (List ℕ)
text_part text (pos a) (pos n) = cond (nat_le (a + n) (length text)) (Some (take n (drop a text))) None
text_part text (pos a) (negsuc n) = None
text_part text (negsuc a) n = None

abbrev pub part_in : Option (List ℕ) → ℤ → ℤ → Option (List ℕ)
part_in (Some text) a n = text_part text a n
part_in None a n = None

-- the bytes that a box names, where there are such
abbrev pub named_part : BoxRecord → List ℕ → List ℕ → Option (List ℕ)
named_part r p l = part_in (named_text r.kind r.store p l) r.place r.len

abbrev pub or_refused : Option (List ℕ) → Result (List ℕ) Fault
or_refused (Some bs) = Ok bs
or_refused None = Err (fault_at BadBox 0)

-- the bytes that a box names, or the refusal
abbrev pub fetch_answer : BoxRecord → List ℕ → List ℕ → Result (List ℕ) Fault
fetch_answer r p l = or_refused (named_part r p l)

-- what a borrowed part holds
abbrev pub held : Result (Bor (List ℕ)) Fault → Result (List ℕ) Fault
held (Ok part) = Ok part.now
held (Err f) = Err f

-- the bytes of a text from a place on, so many as a length says
pub record PartOf (text : List ℕ) (a n : ℤ) (bs : List ℕ) : Type 0 where
  pub before : List ℕ
  pub behind : List ℕ
  pub whole : text ≡ before ++ (bs ++ behind)
  pub begins : pos (length before) ≡ a
  pub long : pos (length bs) ≡ n

-- a box names bytes: it is a word's, and they are its part of the text of its store
abbrev pub Names : BoxRecord → List ℕ → List ℕ → List ℕ → Type 0
Names r p l bs =
    (r.kind ≡ kinds.Word)
    × (((r.store ≡ stores.Preamble) × PartOf p r.place r.len bs) ⊎ ((r.store ≡ stores.Lines) × PartOf l r.place r.len bs))

-- the bytes handed out are those that the box names, and a refusal comes where it names none
abbrev pub Fetched : BoxRecord → List ℕ → List ℕ → Result (List ℕ) Fault → Type 0
Fetched r p l (Ok bs) = Names r p l bs
Fetched r p l (Err f) = (f ≡ fault_at BadBox 0) × ((bs : List ℕ) → Names r p l bs → ⊥)
