-- The rule by which a surplus is shared. Assumes nothing.
use Rattle.std.specs.Prelude.{◌≡◌, ℕ, ◌*◌, ◌/◌, ◌<◌, ◌≤◌}

-- what the first p of s units get of e: the whole part of e × p / s
unfoldable pub portion : ℕ → ℕ → ℕ → ℕ
portion e p s = e * p / s

-- the first none get nothing, ..
abbrev pub PortionOfNone : Type 0
PortionOfNone = (e s : ℕ) → portion e 0 s ≡ 0

-- .. all of them get all, ..
abbrev pub PortionOfAll : Type 0
PortionOfAll = (e s : ℕ) → 0 < s → portion e s s ≡ e

-- .. more of them never get less, ..
abbrev pub PortionNeverFalls : Type 0
PortionNeverFalls = (e p q s : ℕ) → p ≤ q → portion e p s ≤ portion e q s

-- .. and where there are none, nothing is shared
abbrev pub PortionAmongNone : Type 0
PortionAmongNone = (e p : ℕ) → portion e p 0 ≡ 0

-- Worked cases: three gaps of stretch 1 share 2, and of two fills that share 15 the first grows by 7.
abbrev pub PortionSamples : Type 0
PortionSamples = (portion 2 1 3 ≡ 0) × (portion 2 2 3 ≡ 1) × (portion 2 3 3 ≡ 2) × (portion 15 1 2 ≡ 7)
