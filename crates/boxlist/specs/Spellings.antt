-- What it is for bytes to spell a number, and what the groups of a number have to do with it. Assumes nothing.
use Rattle.std.specs.Prelude.{◌≡◌, ℕ, ◌+◌, ◌*◌, ◌%◌, ◌^◌, ◌<◌, ◌≤◌, ◌⊎◌, List, [], ◌∷◌, ◌++◌, length, ℤ, pos, ◌+ℤ◌, ◌-ℤ◌, neg_ℤ, ◌≤ℤ◌, ◌<ℤ◌, ◌≢◌}
use Rattle.boxlist.specs.Groups.{groups_of, zigzag}

-- the top bit is set on all bytes but the last
abbrev pub Marked : List ℕ → Type 0
Marked [] = ⊥
Marked (b ∷ []) = b < 128
Marked (b ∷ (c ∷ bs)) = (128 ≤ b) × (b < 256) × Marked (c ∷ bs)

-- what the groups of seven bits add up to, the lowest first, each 128 times as heavy as the one before it
abbrev pub group_sum : List ℕ → ℕ
group_sum [] = 0
group_sum (b ∷ bs) = b % 128 + 128 * group_sum bs

-- a row of bytes spells a number
pub record Spells (bs : List ℕ) (n : ℕ) : Type 0 where
  pub marks : Marked bs
  pub sum : group_sum bs ≡ n

-- a spelling than which no other of its number is shorter
pub record Shortest (bs : List ℕ) (n : ℕ) : Type 0 where
  pub spells : Spells bs n
  pub least : (cs : List ℕ) → Spells cs n → length bs ≤ length cs

-- the shortest spellings of numbers, one behind the other
abbrev pub SpellsRow : List ℕ → List ℕ → Type 0
SpellsRow bs [] = bs ≡ []
SpellsRow bs (n ∷ ns) = (gs : List ℕ) × (rest : List ℕ) × (bs ≡ gs ++ rest) × Shortest gs n × SpellsRow rest ns

abbrev pub last_of : List ℕ → ℕ
last_of [] = 0
last_of (b ∷ []) = b
last_of (b ∷ (c ∷ bs)) = last_of (c ∷ bs)

-- the last group is not 0 unless it is the only one
abbrev pub EndsWell : List ℕ → Type 0
EndsWell bs = (length bs ≡ 1) ⊎ (last_of bs ≢ 0)

-- the groups of a number spell it, and nothing shorter does
abbrev pub GroupsShortest : Type 0
GroupsShortest = (n : ℕ) → Shortest (groups_of n) n

-- every other spelling is longer, so the shortest is the only one of its length
abbrev pub OthersLonger : Type 0
OthersLonger = (bs : List ℕ) (n : ℕ) → Spells bs n → (bs ≡ groups_of n) ⊎ (length (groups_of n) < length bs)

-- a spelling is the shortest exactly where it ends well
abbrev pub ShortestEndsWell : Type 0
ShortestEndsWell = (bs : List ℕ) (n : ℕ) → Spells bs n → (bs ≡ groups_of n → EndsWell bs) × (EndsWell bs → bs ≡ groups_of n)

-- a spelling shows where it ends, and spells one number
abbrev pub SpellingShowsEnd : Type 0
SpellingShowsEnd = (bs cs r s : List ℕ) (m n : ℕ) → Spells bs m → Spells cs n → bs ++ r ≡ cs ++ s → (bs ≡ cs) × (r ≡ s) × (m ≡ n)

-- whatever follows, different numbers have different groups
abbrev pub GroupsApart : Type 0
GroupsApart = (m n : ℕ) (r s : List ℕ) → groups_of m ++ r ≡ groups_of n ++ s → (m ≡ n) × (r ≡ s)

-- six groups hold the numbers below 2^42, and no others
abbrev pub SixGroups : Type 0
SixGroups = (n : ℕ) → (n < 2 ^ 42 → length (groups_of n) ≤ 6) × (length (groups_of n) ≤ 6 → n < 2 ^ 42)

-- a signed n goes as 2n ..
abbrev pub FoldsUp : Type 0
FoldsUp = (z : ℤ) → pos 0 ≤ℤ z → pos (zigzag z) ≡ z +ℤ z

-- .. or as -2n - 1 below zero
abbrev pub FoldsBelow : Type 0
FoldsBelow = (z : ℤ) → z <ℤ pos 0 → pos (zigzag z) ≡ neg_ℤ (z +ℤ z) -ℤ pos 1

abbrev pub FoldsApart : Type 0
FoldsApart = (y z : ℤ) → zigzag y ≡ zigzag z → y ≡ z

abbrev pub FoldsOnto : Type 0
FoldsOnto = (n : ℕ) → (z : ℤ) × (zigzag z ≡ n)
