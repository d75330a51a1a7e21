-- Words: which bytes they have, and how many; why other bytes are none. Assumes nothing.
use Rattle.std.specs.Prelude.{◌≡◌, ℕ, ◌<◌, ◌≤◌, Bool, true, false, cond, ◌&&◌, ◌⊎◌, List, [], ◌∷◌, length, Some, None, Option, nat_le, nat_lt, slice_index}
use Rattle.std.specs.List.{prefix_len, AllByRecursion}
use Rattle.faults.specs.declared.Cause.TheVariants as cause
use Rattle.faults.specs.declared.Fault.{Fault}
use Rattle.faults.specs.Faults.{fault_at}

-- the bytes that a word may have
abbrev pub word_byte : ℕ → Bool
word_byte b = nat_le 33 b && nat_le b 126

abbrev pub WordBytes : List ℕ → Type 0
WordBytes w = AllByRecursion (λ b. word_byte b ≡ true) w

-- 1 to 255 of them are a word
abbrev pub IsWord : List ℕ → Type 0
IsWord w = (1 ≤ length w) × (length w ≤ 255) × WordBytes w

-- the test of that
abbrev pub word_bytes : List ℕ → Bool
word_bytes [] = true
word_bytes (b ∷ bs) = word_byte b && word_bytes bs

abbrev pub word_long : ℕ → Bool
word_long n = nat_le 1 n && nat_le n 255

abbrev pub is_word : List ℕ → Bool
is_word w = word_bytes w && word_long (length w)

-- the place of the first byte that fails a test
abbrev pub first_not : (ℕ → Bool) → List ℕ → Option ℕ
first_not test w = cond (nat_lt (prefix_len test w) (length w)) (Some (prefix_len test w)) None

-- one byte fails the test, and all before it pass
abbrev pub FirstNot : (ℕ → Bool) → List ℕ → ℕ → Type 0
FirstNot test w p = (p < length w) × (test (slice_index w p) ≡ false) × ((k : ℕ) → k < p → test (slice_index w k) ≡ true)

-- why bytes are no word: the first that no word has, or else that they are too few or too many
abbrev pub bad_byte_or : Option ℕ → Fault → Fault
bad_byte_or (Some p) f = fault_at cause.BadByte p
bad_byte_or None f = f

abbrev pub unfit : List ℕ → Option Fault
unfit w = cond (is_word w) None (Some (bad_byte_or (first_not word_byte w) (fault_at cause.WordLength 0)))

abbrev pub Unfit : List ℕ → Fault → Type 0
Unfit w f = ((p : ℕ) × FirstNot word_byte w p × (f ≡ fault_at cause.BadByte p)) ⊎ (WordBytes w × ((length w ≡ 0) ⊎ (255 < length w)) × (f ≡ fault_at cause.WordLength 0))
