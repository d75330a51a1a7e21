-- How far settled columns reach. Assumes nothing.
use Rattle.std.proofs.Common.{◌≡◌, ℕ, zero, suc, ◌+◌, ◌*◌, ◌<◌, ◌≤◌, List, ℤ, ◌+ℤ◌, ◌-ℤ◌, Some, None, Option, sym, refl, ◌∙◌, subst, ⊎_elim, arith}
use Rattle.std.specs.List.{AllByRecursion}
use Rattle.std.proofs.lemmas.Int.{ints}
use Rattle.std.proofs.lemmas.Bool.{cases_lt}
use Rattle.extent.specs.Sizes.{Within}
use Rattle.widths.specs.declared.Entry.{Entry}
use Rattle.widths.specs.Merging.{less, size, step}
use Rattle.widths.specs.Formula.{between, moves}
use Rattle.widths.specs.Entries.{widest}
use Rattle.widths.specs.Settling.{Settled}
use Rattle.widths.proofs.Sums.{between_none, between_more, between_split, largest-from}
use Rattle.widths.proofs.Sizes.{WithinIf}
use Rattle.widths.proofs.Spans.{widest-within}

-- what is less by b is the number that it is less than, where there is one
less-of : (o : Option ℤ) (b z : ℤ) → less o b ≡ Some z → (y : ℤ) × (o ≡ Some y) × (y -ℤ b ≡ z)
less-of (Some y) b z e = (y, cc, cc)
less-of None b z e = cc

module _ (es : List (Entry ℤ)) (start : ℤ) (g : ℕ → ℤ) (n : ℕ) (w : ℕ → Option ℤ) (settled : Settled es start g n w) (entries : AllByRecursion (λ e. Within 1073741823 e.width) es) (gaps : (j : ℕ) → Within 16777215 (g j)) where
  left : ℕ → ℤ
  left j = between (moves w g) 0 j

  -- a column that is there ends where an entry does that begins no farther right
  column-ends : (j : ℕ) (z : ℤ) → j < n → w j ≡ Some z → (i : ℕ) × (y : ℤ) × (i ≤ j) × Within 1073741823 y × (left j +ℤ z ≡ y +ℤ left i)
  unfolding left
  column-ends j z lt is =
      let f = largest-from (λ i. less (widest es i j) (between (moves w g) i j)) j z (sym (settled.largest j lt) ∙ is) in
      let h = less-of (widest es f.at j) (between (moves w g) f.at j) z f.is in
      let small = subst (WithinIf 1073741823) h.1 (widest-within 1073741823 es f.at j entries) in
      let split = between_split (moves w g) f.at j f.below in
      (f.at, h.0, f.below, small, omega (arith, ints, h.2))

  step-small : (j : ℕ) (o : Option ℤ) → j < n → w j ≡ o → ((i : ℕ) → i ≤ j → Within (i * 1090519038) (left i)) → Within (suc j * 1090519038) (left j +ℤ step o (g j))
  step-small j None lt is h = let a = h j (omega arith) in (omega (arith, ints), omega (arith, ints))
  step-small j (Some z) lt is h =
      let e = column-ends j z lt is in
      let a = h e.0 e.2 in
      let b = gaps j in
      let le = e.2 in
      let small = e.3 in
      let same = e.4 in
      (omega (arith, ints), omega (arith, ints))

  lefts : (j : ℕ) → j ≤ n → (i : ℕ) → i ≤ j → Within (i * 1090519038) (left i)
  unfolding left
  lefts zero le i li = let e : i ≡ 0 = omega arith in let a = between_none (moves w g) 0 in subst (λ x. Within (x * 1090519038) (between (moves w g) 0 x)) (sym e) (omega (arith, ints), omega (arith, ints))
  lefts (suc j) le i li = ⊎_elim
      (λ (lt : i < suc j). lefts j (omega arith) i (omega arith))
      (λ (ge : suc j ≤ i). let e : i ≡ suc j = omega arith in let m = between_more (moves w g) 0 j (omega arith) in
      subst (λ x. Within (x * 1090519038) (between (moves w g) 0 x)) (sym e) (subst (Within (suc j * 1090519038)) (sym m) (step-small j (w j) (omega arith) refl (lefts j (omega arith)))))
      (cases_lt i (suc j))

  pub left-small : (j : ℕ) → j ≤ n → Within (j * 1090519038) (between (moves w g) 0 j)
  unfolding left
  left-small j le = lefts j le j (omega arith)

  right-of : (j : ℕ) (o : Option ℤ) → j < n → w j ≡ o → Within (1073741823 + j * 1090519038) (left j +ℤ size o)
  right-of j None lt is = let a = lefts j (omega arith) j (omega arith) in (omega (arith, ints), omega (arith, ints))
  right-of j (Some z) lt is =
      let e = column-ends j z lt is in
      let le = e.2 in
      let a = lefts j (omega arith) e.0 le in
      let small = e.3 in
      let same = e.4 in
      (omega (arith, ints), omega (arith, ints))

  pub right-small : (j : ℕ) → j < n → Within (1073741823 + j * 1090519038) (between (moves w g) 0 j +ℤ size (w j))
  unfolding left
  right-small j lt = right-of j (w j) lt refl
