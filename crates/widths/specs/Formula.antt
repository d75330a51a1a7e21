-- The widths of the columns by the maximum formula of The TeXbook, page 245, on one side. Assumes nothing.
use Rattle.std.specs.Prelude.{ℕ, zero, suc, cond, ℤ, pos, ◌+ℤ◌, Option, nat_le}
use Rattle.widths.specs.Merging.{less, join, size, step}

-- the sum of f k for i ≤ k < j
unfoldable pub between : (ℕ → ℤ) → ℕ → ℕ → ℤ
between f i zero = pos 0
between f i (suc j) = cond (nat_le i j) (between f i j +ℤ f j) (pos 0)

-- the larger-of of f 0 to f n, where one is there
unfoldable pub largest : (ℕ → Option ℤ) → ℕ → Option ℤ
largest f zero = f 0
largest f (suc n) = join (f (suc n)) (largest f n)

-- width and gap of each column, as they count
abbrev pub moves : (ℕ → Option ℤ) → (ℕ → ℤ) → ℕ → ℤ
moves w g k = step (w k) (g k)

-- what the formula gives for column j, from the widths w of the columns before it
abbrev pub formula : (ℕ → ℕ → Option ℤ) → (ℕ → ℤ) → (ℕ → Option ℤ) → ℕ → Option ℤ
formula W g w j = largest (λ i. less (W i j) (between (moves w g) i j)) j

-- how far columns i to j reach with the gaps between them
abbrev pub reach : (ℕ → Option ℤ) → (ℕ → ℤ) → ℕ → ℕ → ℤ
reach w g i j = between (moves w g) i j +ℤ size (w j)

-- the natural right edge of column j, behind the starting gap
abbrev pub edge : ℤ → (ℕ → Option ℤ) → (ℕ → ℤ) → ℕ → ℤ
edge start w g j = start +ℤ reach w g 0 j

-- the natural width of n columns: the starting gap, all widths and all gaps
abbrev pub natural : ℤ → (ℕ → Option ℤ) → (ℕ → ℤ) → ℕ → ℤ
natural start w g n = start +ℤ between (moves w g) 0 n
