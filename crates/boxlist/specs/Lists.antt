-- What may stand in a list, and what its bytes say of it. Assumes nothing.
use Rattle.std.specs.Prelude.{◌≡◌, ℕ, ◌^◌, ◌<◌, ◌≤◌, ◌⊎◌, List, ◌++◌, map, length, take, drop, ℤ, pos, ◌≤ℤ◌, Ok, Err, Decides, Result, unsigned_abs}
use Rattle.std.specs.List.{AllByRecursion}
use Rattle.faults.specs.declared.Cause.TheVariants.{BadBox, TooLittleRoom}
use Rattle.faults.specs.declared.Fault.{Fault}
use Rattle.faults.specs.Faults.{fault_at}
use Rattle.boxlist.specs.declared.Kind.{Kind}
use Rattle.boxlist.specs.declared.Kind.TheVariants as kinds
use Rattle.boxlist.specs.declared.Store.TheVariants as stores
use Rattle.boxlist.specs.declared.BoxRecord.{BoxRecord}
use Rattle.boxlist.specs.Spellings.{SpellsRow}
use Rattle.boxlist.specs.Format.{list_numbers, bytes_of}
use Rattle.boxlist.specs.Writing.{writable}

-- at most 2^40 in size
abbrev pub Sized : ℤ → Type 0
Sized z = unsigned_abs z ≤ 2 ^ 40

-- the same, and not below zero
abbrev pub Counted : ℤ → Type 0
Counted z = Sized z × (pos 0 ≤ℤ z)

-- where a word's bytes are
pub record WritablePart (r : BoxRecord) : Type 0 where
  pub listed : (r.store ≡ stores.Preamble) ⊎ (r.store ≡ stores.Lines)
  pub begins : Counted r.place
  pub long : Counted r.len

-- a box that may be written; of a \hrule the store, the place and the length may be anything
pub record WritableBox (r : BoxRecord) : Type 0 where
  pub listed : (r.kind ≡ kinds.Word) ⊎ (r.kind ≡ kinds.Rule)
  pub across : Sized r.x
  pub down : Counted r.y
  pub wide : Sized r.width
  pub above : Counted r.height
  pub below : Counted r.depth
  pub part : r.kind ≡ kinds.Word → WritablePart r

-- a list that may be written
pub record Writable (t h : ℤ) (boxes : List BoxRecord) : Type 0 where
  pub wide : Counted t
  pub high : Counted h
  pub few : length boxes ≤ 2 ^ 40
  pub each : AllByRecursion WritableBox boxes

-- the test is right
abbrev pub WritableDecided : Type 0
WritableDecided = (t h : ℤ) (boxes : List BoxRecord) → Decides (writable t h boxes) (Writable t h boxes)

-- what an accepted list leaves: its numbers from the front on, each in its shortest spelling, and behind them what was there
pub record Written (t h : ℤ) (boxes : List BoxRecord) (old new : List ℕ) (n : ℕ) : Type 0 where
  pub may : Writable t h boxes
  pub fits : n ≤ length old
  pub spelled : SpellsRow (take n new) (list_numbers t h boxes)
  pub behind : drop n new ≡ drop n old

-- a list that may not be written
abbrev pub Barred : ℤ → ℤ → List BoxRecord → Fault → Type 0
Barred t h boxes f = (Writable t h boxes → ⊥) × (f ≡ fault_at BadBox 0)

-- a list that may be written, in more bytes than there are
abbrev pub Crowded : ℤ → ℤ → List BoxRecord → List ℕ → Fault → Type 0
Crowded t h boxes old f =
    Writable t h boxes
    × ((bs : List ℕ) → SpellsRow bs (list_numbers t h boxes) → length old < length bs)
    × (f ≡ fault_at TooLittleRoom 0)

-- what becomes of the bytes, by the answer
abbrev pub Wrote : ℤ → ℤ → List BoxRecord → List ℕ → List ℕ → Result ℕ Fault → Type 0
Wrote t h boxes old new (Ok n) = Written t h boxes old new n
Wrote t h boxes old new (Err f) = (new ≡ old) × (Barred t h boxes f ⊎ Crowded t h boxes old f)

-- a box without what is not written of it
abbrev pub plain_by : Kind → BoxRecord → BoxRecord
plain_by kinds.Word r = r
plain_by kinds.Rule r = record { kind = r.kind; x = r.x; y = r.y; width = r.width; height = r.height; depth = r.depth; store = stores.Preamble; place = pos 0; len = pos 0 }
plain_by (kinds.Unlisted n) r = r

abbrev pub plain : BoxRecord → BoxRecord
plain r = plain_by r.kind r

-- two lists with the same numbers, but for what is not written
pub record Alike (t h : ℤ) (boxes : List BoxRecord) (t' h' : ℤ) (boxes' : List BoxRecord) : Type 0 where
  pub wide : t ≡ t'
  pub high : h ≡ h'
  pub each : map plain boxes ≡ map plain boxes'

-- equal bytes mean equal lists
abbrev pub BytesTellList : Type 0
BytesTellList = (t h t' h' : ℤ) (boxes boxes' : List BoxRecord) → Writable t h boxes → Writable t' h' boxes' → bytes_of t h boxes ≡ bytes_of t' h' boxes' → Alike t h boxes t' h' boxes'

-- the bytes of a list show where it ends, whatever follows
abbrev pub ListShowsEnd : Type 0
ListShowsEnd = (t h t' h' : ℤ) (boxes boxes' : List BoxRecord) (r s : List ℕ) → Writable t h boxes → Writable t' h' boxes' → bytes_of t h boxes ++ r ≡ bytes_of t' h' boxes' ++ s → Alike t h boxes t' h' boxes' × (r ≡ s)

-- what is not written changes no byte
abbrev pub UnwrittenIdle : Type 0
UnwrittenIdle = (t h : ℤ) (boxes : List BoxRecord) → bytes_of t h (map plain boxes) ≡ bytes_of t h boxes

-- each number of a list that may be written is below 2^42, so that six groups hold it
abbrev pub SixEach : Type 0
SixEach = (t h : ℤ) (boxes : List BoxRecord) → Writable t h boxes → AllByRecursion (λ n. n < 2 ^ 42) (list_numbers t h boxes)
