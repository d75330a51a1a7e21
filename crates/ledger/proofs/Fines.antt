-- Items that a table may have, and how wide few of them are.
use Rattle.std.proofs.Common.{◌≡◌, ℕ, zero, suc, ◌+◌, ◌*◌, ◌<◌, ◌≤◌, Bool, true, false, ◌&&◌, List, [], ◌∷◌, ◌++◌, length, take, ℤ, pos, ◌+ℤ◌, Result, sym, refl, ap, ◌∙◌, arith}
use Rattle.std.proofs.lemmas.Int.{ints}
use Rattle.std.specs.List.{list_all}
use Rattle.std.proofs.lemmas.List.Folds.{list_all-append}
use Rattle.extent.specs.Sizes.{Within}
use Rattle.ledger.specs.Ledger.{Item}
use Rattle.ledger.specs.Naturals.{natural}
use Rattle.ledger.specs.Lawful.{fine, all_fine, FineSized}

-- both of two tests
pub both-first : (a b : Bool) → (a && b) ≡ true → a ≡ true
both-first true b e = refl
both-first false b e = e

pub both-second : (a b : Bool) → (a && b) ≡ true → b ≡ true
both-second true b e = e
both-second false b e = cc

module _ {A : Type 0} (p : A → Bool) where
  pub all-first : (xs ys : List A) → list_all p (xs ++ ys) ≡ true → list_all p xs ≡ true
  all-first xs ys e = both-first (list_all p xs) (list_all p ys) (sym (list_all-append p xs ys) ∙ e)

  pub all-second : (xs ys : List A) → list_all p (xs ++ ys) ≡ true → list_all p ys ≡ true
  all-second xs ys e = both-second (list_all p xs) (list_all p ys) (sym (list_all-append p xs ys) ∙ e)

  pub all-append : (xs ys : List A) → list_all p xs ≡ true → list_all p ys ≡ true → list_all p (xs ++ ys) ≡ true
  all-append xs ys a b = list_all-append p xs ys ∙ (ap (λ (x : Bool). x && list_all p ys) a ∙ b)

  pub all-one : (x : A) → p x ≡ true → list_all p (x ∷ []) ≡ true
  all-one x e = ap (λ (b : Bool). b && true) e

-- the size of a sum
pub within-sum : (a b c : ℕ) (y z : ℤ) → Within a y → Within b z → c ≡ a + b → Within c (y +ℤ z)
within-sum a b c y z h g e = (omega (arith, ints, h.0, h.1, g.0, g.1), omega (arith, ints, h.0, h.1, g.0, g.1))

pub within-none : (a : ℕ) → Within a (pos 0)
within-none a = (omega (arith, ints), omega (arith, ints))

module _ {X : Type 0} (meaning : List ℕ → Result X ℕ) (count : ℕ) (wide : Item → ℕ → ℤ) (sized : FineSized meaning count wide) where
  -- each item adds at most as much as a word may have
  pub few-within : (n j k : ℕ) (is : List Item) → k < count → all_fine meaning is ≡ true → length is ≤ n → Within (n * 1073741823) (natural wide (take j is) k)
  unfolding natural
  few-within n zero k is lt f l = within-none (n * 1073741823)
  few-within n (suc j) k [] lt f l = within-none (n * 1073741823)
  few-within zero (suc j) k (i ∷ is) lt f l = absurd (omega arith)
  few-within (suc n) (suc j) k (i ∷ is) lt f l = within-sum 1073741823 (n * 1073741823) (suc n * 1073741823) (wide i k) (natural wide (take j is) k)
      (sized i k (both-first (fine meaning i) (all_fine meaning is) f) lt)
      (few-within n j k is lt (both-second (fine meaning i) (all_fine meaning is) f) (omega arith))
      (omega arith)
