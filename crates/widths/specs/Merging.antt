-- The rightward merge on one side, on whole numbers; a missing number is None. Assumes nothing.
use Rattle.std.specs.Prelude.{ℕ, zero, suc, ℤ, pos, ◌+ℤ◌, ◌-ℤ◌, Some, None, Option}
use Rattle.std.specs.Int.{int_max}

-- the number on side k of an extent that may be missing
abbrev pub seen : {E : Type 0} → (E → ℕ → ℤ) → ℕ → Option E → Option ℤ
seen num k (Some e) = Some (num e k)
seen num k None = None

abbrev pub less : Option ℤ → ℤ → Option ℤ
less (Some a) z = Some (a -ℤ z)
less None z = None

-- the larger of two, of which any may be missing
abbrev pub join : Option ℤ → Option ℤ → Option ℤ
join (Some a) (Some b) = Some (int_max a b)
join (Some a) None = Some a
join None b = b

-- a column's width as it counts: zero for a void one
abbrev pub size : Option ℤ → ℤ
size (Some w) = w
size None = pos 0

-- the gap after a column as it counts: zero after a void one
abbrev pub counted : Option ℤ → ℤ → ℤ
counted (Some w) g = g
counted None g = pos 0

-- how far a column moves what follows it
abbrev pub step : Option ℤ → ℤ → ℤ
step w g = size w +ℤ counted w g

-- W(q,j) as merged when column q's turn comes (The Program, §803)
unfoldable pub row : (ℕ → ℕ → Option ℤ) → (ℕ → ℤ) → ℕ → ℕ → Option ℤ
row W g zero j = W 0 j
row W g (suc q) j = join (W (suc q) j) (less (row W g q j) (step (row W g q q) (g q)))

abbrev pub width : (ℕ → ℕ → Option ℤ) → (ℕ → ℤ) → ℕ → Option ℤ
width W g j = row W g j j
