-- How large the merged numbers can become. Assumes nothing.
use Rattle.std.proofs.Common.{◌≡◌, ℕ, zero, suc, ◌+◌, ◌*◌, ◌≤◌, ℤ, pos, ◌+ℤ◌, Some, None, Option, sym, subst, arith}
use Rattle.std.proofs.lemmas.Int.{ints, clamps}
use Rattle.extent.specs.Sizes.{Within, Near}
use Rattle.widths.specs.Merging.{less, join, size, step, row, width}
use Rattle.widths.specs.Formula.{between, moves}
use Rattle.widths.proofs.Sums.{between_none, between_more}

-- within b, where there is a number
abbrev pub WithinIf : ℕ → Option ℤ → Type 0
WithinIf b (Some z) = Within b z
WithinIf b None = Unit {0}

-- a number moved by e
abbrev moved : Option ℤ → ℤ → Option ℤ
moved (Some z) e = Some (z +ℤ e)
moved None e = None

edge_more : (n : ℕ) (r : Option ℤ) (e g : ℤ) → WithinIf (1073741823 + n * 1090519038) (moved r e) → Within (n * 1090519038) e → Within 16777215 g
    → Within (suc n * 1090519038) (e +ℤ step r g)
edge_more n (Some w) e g h he hg = (omega (arith, ints), omega (arith, ints))
edge_more n None e g h he hg = (omega (arith, ints), omega (arith, ints))

cell-more : (n : ℕ) (a r : Option ℤ) (e s : ℤ) → WithinIf 1073741823 a → WithinIf (1073741823 + n * 1090519038) (moved r e) → Within (suc n * 1090519038) (e +ℤ s)
    → WithinIf (1073741823 + suc n * 1090519038) (moved (join a (less r s)) (e +ℤ s))
cell-more n (Some a) (Some b) e s ha hb he = (omega (arith, ints, clamps), omega (arith, ints, clamps))
cell-more n (Some a) None e s ha hb he = (omega (arith, ints), omega (arith, ints))
cell-more n None (Some b) e s ha hb he = (omega (arith, ints), omega (arith, ints))
cell-more n None None e s ha hb he = tt

zero-cell : (o : Option ℤ) → WithinIf 1073741823 o → WithinIf (1073741823 + 0 * 1090519038) (moved o (pos 0))
zero-cell (Some a) h = (omega (arith, ints), omega (arith, ints))
zero-cell None h = tt

near-cell : (q : ℕ) (r : Option ℤ) (e : ℤ) → q ≤ 32 → Within (q * 1090519038) e → WithinIf (1073741823 + q * 1090519038) (moved r e) → Near (size r)
near-cell q (Some z) e le he h = (omega (arith, ints), omega (arith, ints))
near-cell q None e le he h = (omega (arith, ints), omega (arith, ints))

near-edge : (q : ℕ) (r : Option ℤ) (e s : ℤ) → q ≤ 32 → Within 16777215 s → Within (q * 1090519038) e → WithinIf (1073741823 + q * 1090519038) (moved r e) → Near (s +ℤ (e +ℤ size r))
near-edge q (Some z) e s le hs he h = (omega (arith, ints), omega (arith, ints))
near-edge q None e s le hs he h = (omega (arith, ints), omega (arith, ints))

near-sum : (q : ℕ) (e s : ℤ) → q ≤ 32 → Within 16777215 s → Within (q * 1090519038) e → Near (s +ℤ e)
near-sum q e s le hs he = (omega (arith, ints), omega (arith, ints))

near_step : (q : ℕ) (e s : ℤ) → q ≤ 32 → Within (q * 1090519038) e → Within (suc q * 1090519038) (e +ℤ s) → Near s
near_step q e s le he h = (omega (arith, ints), omega (arith, ints))

module _ (W : ℕ → ℕ → Option ℤ) (g : ℕ → ℤ) (small : (i j : ℕ) → WithinIf 1073741823 (W i j)) (gaps : (j : ℕ) → Within 16777215 (g j)) where
  left : ℕ → ℤ
  left q = between (moves (width W g) g) 0 q

  left-none : left 0 ≡ pos 0
  unfolding left
  left-none = between_none (moves (width W g) g) 0

  left-more : (q : ℕ) → left (suc q) ≡ left q +ℤ step (row W g q q) (g q)
  unfolding left
  left-more q = between_more (moves (width W g) g) 0 q (omega arith)

  bounds : (q : ℕ) → Within (q * 1090519038) (left q) × ((j : ℕ) → WithinIf (1073741823 + q * 1090519038) (moved (row W g q j) (left q)))
  unfolding row
  bounds zero =
      subst (λ e. Within (0 * 1090519038) e × ((j : ℕ) → WithinIf (1073741823 + 0 * 1090519038) (moved (W 0 j) e))) (sym left-none)
      ((omega (arith, ints), omega (arith, ints)), λ j. zero-cell (W 0 j) (small 0 j))
  bounds (suc q) =
      let s = bounds q in
      let e = edge_more q (row W g q q) (left q) (g q) (s.1 q) s.0 (gaps q) in
      subst (λ e. Within (suc q * 1090519038) e × ((j : ℕ) → WithinIf (1073741823 + suc q * 1090519038) (moved (row W g (suc q) j) e))) (sym (left-more q))
      (e, λ j. cell-more q (W (suc q) j) (row W g q j) (left q) (step (row W g q q) (g q)) (small (suc q) j) (s.1 j) e)

  pub row_near : (q j : ℕ) → q ≤ 32 → Near (size (row W g q j))
  row_near q j le = near-cell q (row W g q j) (left q) le (bounds q).0 ((bounds q).1 j)

  pub step-near : (q : ℕ) → q ≤ 32 → Near (step (row W g q q) (g q))
  step-near q le = near_step q (left q) (step (row W g q q) (g q)) le (bounds q).0 (subst (Within (suc q * 1090519038)) (left-more q) (bounds (suc q)).0)

  pub right_near : (start : ℤ) (j : ℕ) → Within 16777215 start → j ≤ 32 → Near (start +ℤ (between (moves (width W g) g) 0 j +ℤ size (width W g j)))
  unfolding left
  right_near start j hs le = near-edge j (row W g j j) (left j) start le hs (bounds j).0 ((bounds j).1 j)

  pub left_near : (start : ℤ) (j : ℕ) → Within 16777215 start → j ≤ 32 → Near (start +ℤ between (moves (width W g) g) 0 j)
  unfolding left
  left_near start j hs le = near-sum j (left j) start le hs (bounds j).0
