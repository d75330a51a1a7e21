-- Widths that meet the formula hold every entry, and their edges are the least. Assumes nothing.
use Rattle.std.proofs.Common.{◌≡◌, ℕ, zero, suc, ◌<◌, ◌≤◌, List, [], ◌∷◌, ℤ, pos, ◌-ℤ◌, ◌≤ℤ◌, Some, None, Option, sym, ap, ◌∙◌, subst, ⊎_elim, arith}
use Rattle.std.specs.List.{AllByRecursion}
use Rattle.std.proofs.lemmas.Int.{ints}
use Rattle.std.proofs.lemmas.Bool.{cases_lt}
use Rattle.std.proofs.ByRecursion.{All-weaker}
use Rattle.widths.specs.declared.Entry.{Entry}
use Rattle.widths.specs.Merging.{less, size}
use Rattle.widths.specs.Formula.{between, moves, formula, reach}
use Rattle.widths.specs.Entries.{widest, Proper, Holds, NoneEnds}
use Rattle.widths.specs.Settling.{instead}
use Rattle.widths.proofs.Options.{Above, above-some, by-option, less-from, counted-instead}
use Rattle.widths.proofs.Sums.{between_none, between_more, between_split, largest-from, largest-above, largest-none}
use Rattle.widths.proofs.Spans.{widest-from, widest-above, widest-none}

less-above : (x : ℤ) (o : Option ℤ) (y : ℤ) → Above x o → Above (x -ℤ y) (less o y)
less-above x o y h =
    let i = h.is in let r = h.reaches in
    record { top = h.top -ℤ y; is = ap (λ p. less p y) i; reaches = omega (arith, ints) }

above-size : (x : ℤ) (o : Option ℤ) → Above x o → x ≤ℤ size o
above-size x o h = subst (λ p. x ≤ℤ size p) (sym h.is) h.reaches

AllBoth : {X : Type 0} (P Q R : X → Type 0) → ((x : X) → P x → Q x → R x) → (xs : List X) → AllByRecursion P xs → AllByRecursion Q xs → AllByRecursion R xs
AllBoth P Q R f [] p q = tt
AllBoth P Q R f (x ∷ xs) p q = (f x p.0 q.0, AllBoth P Q R f xs p.1 q.1)

module _ (es : List (Entry ℤ)) (g : ℕ → ℤ) (w : ℕ → Option ℤ) (n : ℕ) (fits : (j : ℕ) → j < n → w j ≡ formula (widest es) g w j) where
  -- the width of an entry's last column reaches what is left of the entry
  last-above : (e : Entry ℤ) → Above e.width (widest es e.first e.last) → (e.first ≤ e.last) × (e.last < n) → Above (e.width -ℤ between (moves w g) e.first e.last) (w e.last)
  last-above e h p =
      subst (Above (e.width -ℤ between (moves w g) e.first e.last)) (sym (fits e.last p.1))
      (largest-above (λ i. less (widest es i e.last) (between (moves w g) i e.last)) e.last e.first (e.width -ℤ between (moves w g) e.first e.last) p.0
      (less-above e.width (widest es e.first e.last) (between (moves w g) e.first e.last) h))

  pub entries-held : Proper n es → Holds w g es
  entries-held proper = AllBoth
      (λ e. Above e.width (widest es e.first e.last)) (λ e. (e.first ≤ e.last) × (e.last < n)) (λ e. e.width ≤ℤ reach w g e.first e.last)
      (λ e h p. let a = above-size (e.width -ℤ between (moves w g) e.first e.last) (w e.last) (last-above e h p) in omega (arith, ints))
      es (widest-above es) proper

  pub void-ends : Proper n es → (j : ℕ) → w j ≡ None → NoneEnds j es
  void-ends proper j void = AllBoth
      (λ e. Above e.width (widest es e.first e.last)) (λ e. (e.first ≤ e.last) × (e.last < n)) (λ e. e.last ≡ j → ⊥)
      (λ e h p is. above-some (e.width -ℤ between (moves w g) e.first e.last) (w e.last) (last-above e h p) (ap w is ∙ void))
      es (widest-above es) proper

  pub ends-void : (j : ℕ) → j < n → NoneEnds j es → w j ≡ None
  ends-void j lt none = fits j lt ∙ largest-none (λ i. less (widest es i j) (between (moves w g) i j)) j (λ i le. ap (λ o. less o (between (moves w g) i j)) (widest-none es i j none))

  module _ (v : ℕ → ℤ) (holds : Holds (λ k. instead (w k) (v k)) g es) where
    held-span : (i j : ℕ) (x : ℤ) → widest es i j ≡ Some x → x ≤ℤ reach (λ k. instead (w k) (v k)) g i j
    held-span i j x found = widest-from (λ x. x ≤ℤ reach (λ k. instead (w k) (v k)) g i j) es i j x
        (All-weaker (λ e. e.width ≤ℤ reach (λ k. instead (w k) (v k)) g e.first e.last) (λ e. e.first ≡ i → e.last ≡ j → e.width ≤ℤ reach (λ k. instead (w k) (v k)) g i j)
        (λ e h a b. subst (λ s. e.width ≤ℤ reach (λ k. instead (w k) (v k)) g s j) a (subst (λ t. e.width ≤ℤ reach (λ k. instead (w k) (v k)) g e.first t) b h)) es holds)
        found

    right : (j : ℕ) → j < n → ((i : ℕ) → i ≤ j → between (moves w g) 0 i ≤ℤ between (moves (λ k. instead (w k) (v k)) g) 0 i)
        → reach w g 0 j ≤ℤ reach (λ k. instead (w k) (v k)) g 0 j
    right j lt lefts =
        let f : ℕ → ℤ = moves w g in
        let h : ℕ → ℤ = moves (λ k. instead (w k) (v k)) g in
        by-option (w j)
        (λ z is.
        let r = largest-from (λ i. less (widest es i j) (between f i j)) j z (sym (fits j lt) ∙ is) in
        less-from (widest es r.at j) (between f r.at j) z r.is (λ e found sum.
        let s : size (w j) ≡ z = ap size is in
        let a = between_split f r.at j r.below in
        let b = between_split h r.at j r.below in
        let c = held-span r.at j e found in
        let d = lefts r.at r.below in
        omega (arith, ints)))
        (λ is.
        let s : size (w j) ≡ pos 0 = ap size is in
        let t : size (instead (w j) (v j)) ≡ pos 0 = ap (λ o. size (instead o (v j))) is in
        let d = lefts j (omega arith) in
        omega (arith, ints))

    left : (m i : ℕ) → m ≤ n → i ≤ m → between (moves w g) 0 i ≤ℤ between (moves (λ k. instead (w k) (v k)) g) 0 i
    left zero zero le h = let a = between_none (moves w g) 0 in let b = between_none (moves (λ k. instead (w k) (v k)) g) 0 in omega (arith, ints)
    left zero (suc i) le h = absurd (omega arith)
    left (suc m) i le h = ⊎_elim
        (λ lt. left m i (omega arith) (omega arith))
        (λ ge.
        let e : i ≡ suc m = omega arith in
        let a = between_more (moves w g) 0 m (omega arith) in
        let b = between_more (moves (λ k. instead (w k) (v k)) g) 0 m (omega arith) in
        let r = right m (omega arith) (λ k below. left m k (omega arith) below) in
        let c = counted-instead (w m) (v m) (g m) in
        subst (λ x. between (moves w g) 0 x ≤ℤ between (moves (λ k. instead (w k) (v k)) g) 0 x) (sym e) (omega (arith, ints)))
        (cases_lt i (suc m))

    pub edges-least : (j : ℕ) → j < n → reach w g 0 j ≤ℤ reach (λ k. instead (w k) (v k)) g 0 j
    edges-least j lt = right j lt (λ i le. left j i (omega arith) le)
