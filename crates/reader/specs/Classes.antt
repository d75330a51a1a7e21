-- The class of a byte, by ranges: as a rule in words, and as a function that tests them. Assumes nothing.
use Rattle.std.specs.Prelude.{◌≡◌, ℕ, ◌≤◌, Bool, cond, not, ◌&&◌, ◌||◌, ◌⊎◌, ◌==◌, nat_le}
use Rattle.reader.specs.declared.classes.Class.{Class}
use Rattle.reader.specs.declared.classes.Class.TheVariants.{Bad, Space, Special, Letter, Other}

-- space and newline
abbrev pub IsSpace : ℕ → Type 0
IsSpace b = (b ≡ 32) ⊎ (b ≡ 10)

-- \ { } & #
abbrev pub IsSpecial : ℕ → Type 0
IsSpecial b = (b ≡ 92) ⊎ ((b ≡ 123) ⊎ ((b ≡ 125) ⊎ ((b ≡ 38) ⊎ (b ≡ 35))))

-- A to Z, a to z
abbrev pub IsLetter : ℕ → Type 0
IsLetter b = ((65 ≤ b) × (b ≤ 90)) ⊎ ((97 ≤ b) × (b ≤ 122))

-- the bytes that a word may hold, bare or behind a backslash
abbrev pub InRange : ℕ → Type 0
InRange b = (33 ≤ b) × (b ≤ 126)

-- $ % ^ _ ~
abbrev pub IsShut : ℕ → Type 0
IsShut b = (b ≡ 36) ⊎ ((b ≡ 37) ⊎ ((b ≡ 94) ⊎ ((b ≡ 95) ⊎ (b ≡ 126))))

-- the rest of the range but $ % ^ _ ~
abbrev pub IsOther : ℕ → Type 0
IsOther b = InRange b × (IsSpecial b → ⊥) × (IsLetter b → ⊥) × (IsShut b → ⊥)

-- the class of a byte, in words
abbrev pub Classed : ℕ → Class → Type 0
Classed b Bad = (IsSpace b → ⊥) × (IsSpecial b → ⊥) × (IsLetter b → ⊥) × (IsOther b → ⊥)
Classed b Space = IsSpace b
Classed b Special = IsSpecial b
Classed b Letter = IsLetter b
Classed b Other = IsOther b

-- the same as tests
abbrev pub within : ℕ → ℕ → ℕ → Bool
within a b x = nat_le a x && nat_le x b

abbrev pub space_byte : ℕ → Bool
space_byte b = b == 32 || b == 10

abbrev pub special_byte : ℕ → Bool
special_byte b = b == 92 || (b == 123 || (b == 125 || (b == 38 || b == 35)))

abbrev pub letter_byte : ℕ → Bool
letter_byte b = within 65 90 b || within 97 122 b

abbrev pub range_byte : ℕ → Bool
range_byte b = within 33 126 b

abbrev pub shut_byte : ℕ → Bool
shut_byte b = b == 36 || (b == 37 || (b == 94 || (b == 95 || b == 126)))

abbrev pub class_of : ℕ → Class
class_of b = cond (space_byte b) Space (cond (special_byte b) Special (cond (letter_byte b) Letter (cond (range_byte b && not (shut_byte b)) Other Bad)))
