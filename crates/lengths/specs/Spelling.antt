-- How amounts, lengths and glue are spelled: relations between bytes and values. Assumes nothing.
use Rattle.std.specs.Prelude.{◌≡◌, ℕ, ◌+◌, ◌*◌, ◌≤◌, Bool, true, false, List, [], ◌∷◌, ◌++◌, length, ℤ, pos, neg_ℤ}
use Rattle.lengths.specs.declared.order.Order.{Order}
use Rattle.lengths.specs.declared.order.Order.TheVariants.{Points}
use Rattle.lengths.specs.Fractions.{Digits, Nearest, numeral}
use Rattle.lengths.specs.Orders.{unit_text}
use Rattle.lengths.specs.Dimens.{swallowed}

-- a point (46) and the digits behind it, or no bytes
abbrev pub pointed : List ℕ → List ℕ
pointed [] = []
pointed (d ∷ ds) = 46 ∷ d ∷ ds

-- the bytes are an amount: 1 to 8 digits, and perhaps a point with 1 to 17 digits. In 65,536ths its size is
-- the whole digits' number times 65,536, and the number nearest to the fraction, at a half the one above
pub record SpellsAmount (bytes : List ℕ) (size : ℕ) : Type 0 where
  pub whole : List ℕ
  pub fraction : List ℕ
  pub part : ℕ
  pub spelled : bytes ≡ whole ++ pointed fraction
  pub wholes : Digits whole
  pub some : 1 ≤ length whole
  pub few : length whole ≤ 8
  pub fractions : Digits fraction
  pub short : length fraction ≤ 17
  pub nearest : Nearest fraction part
  pub value : size ≡ numeral whole * 65536 + part

-- no longer unit fits
abbrev pub Longest : Order → List ℕ → Type 0
Longest o rest = (p : Order) (tail : List ℕ) → unit_text o ++ rest ≡ unit_text p ++ tail → length (unit_text p) ≤ length (unit_text o)

-- s begins with an amount of a size and the unit of an order; with the one space byte behind them they are n bytes
pub record SpellsMeasure (s : List ℕ) (size : ℕ) (o : Order) (n : ℕ) : Type 0 where
  pub bytes : List ℕ
  pub rest : List ℕ
  pub spelled : s ≡ bytes ++ (unit_text o ++ rest)
  pub amount : SpellsAmount bytes size
  pub longest : Longest o rest
  pub len : n ≡ length bytes + length (unit_text o) + swallowed rest

-- a minus (45), or no bytes
abbrev pub sign : Bool → List ℕ
sign true = 45 ∷ []
sign false = []

-- the sign turns the whole, after rounding
abbrev pub signed : Bool → ℕ → ℤ
signed true size = neg_ℤ (pos size)
signed false size = pos size

-- s begins with a length: a sign, and an amount in points
pub record SpellsLength (s : List ℕ) (minus : Bool) (size n : ℕ) : Type 0 where
  pub tail : List ℕ
  pub spelled : s ≡ sign minus ++ tail
  pub used : ℕ
  pub amount : SpellsMeasure tail size Points used
  pub len : n ≡ length (sign minus) + used
