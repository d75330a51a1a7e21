-- The largest of numbers, as a loop over items comes by it. Assumes nothing.
use Rattle.std.proofs.Common.{◌≡◌, ℕ, List, [], ◌∷◌, ℤ, pos, ◌≤ℤ◌, refl, ◌∙◌, sym, arith}
use Rattle.std.specs.Int.{int_max}
use Rattle.std.proofs.lemmas.Int.{ints, clamps}
use Rattle.ledger.specs.Ledger.{Item}
use Rattle.packer.specs.Looks.{Look, most}

larger-regroup : (a b c : ℤ) → int_max (int_max a b) c ≡ int_max a (int_max b c)
larger-regroup a b c = omega (arith, ints, clamps)

larger-none : (a : ℤ) → pos 0 ≤ℤ a → int_max a (pos 0) ≡ a
larger-none a h = omega (arith, ints, clamps)

larger-turn : (a b : ℤ) → int_max (pos 0) b ≡ b → int_max (int_max (pos 0) a) b ≡ int_max a b
larger-turn a b h = omega (arith, ints, clamps, h)

pub larger-within : (a b : ℤ) (n : ℕ) → (pos 0 ≤ℤ a) × (a ≤ℤ pos n) → (pos 0 ≤ℤ b) × (b ≤ℤ pos n) → (pos 0 ≤ℤ int_max a b) × (int_max a b ≤ℤ pos n)
larger-within a b n h k = (omega (arith, ints, clamps, h.0, k.0), omega (arith, ints, clamps, h.1, k.1))

-- so far and of the rest
pub most-start : (f : Item → ℤ) (xs : List Item) → int_max (pos 0) (most f xs) ≡ most f xs
unfolding most
most-start f [] = refl
most-start f (x ∷ xs) = sym (larger-regroup (pos 0) (f x) (most f xs)) ∙ larger-turn (f x) (most f xs) (most-start f xs)

pub most-next : (f : Item → ℤ) (a : ℤ) (x : Item) (xs : List Item) (all : ℤ) → int_max a (most f (x ∷ xs)) ≡ all → int_max (int_max a (f x)) (most f xs) ≡ all
unfolding most
most-next f a x xs all h = larger-regroup a (f x) (most f xs) ∙ h

pub most-end : (f : Item → ℤ) (a all : ℤ) → pos 0 ≤ℤ a → int_max a (most f []) ≡ all → a ≡ all
unfolding most
most-end f a all h e = sym (larger-none a h) ∙ e

-- the largest height and depth so far, and the items that are left
pub record Sizing (l : Look) (h d : ℤ) (rest all : List Item) : Type 0 where
  pub high : int_max h (most l.high rest) ≡ most l.high all
  pub deep : int_max d (most l.deep rest) ≡ most l.deep all
  pub height : (pos 0 ≤ℤ h) × (h ≤ℤ pos 16777215)
  pub depth : (pos 0 ≤ℤ d) × (d ≤ℤ pos 16777215)

pub sizing-start : (l : Look) (xs : List Item) → Sizing l (pos 0) (pos 0) xs xs
sizing-start l xs = record { high = most-start l.high xs; deep = most-start l.deep xs; height = (omega (arith, ints), omega (arith, ints)); depth = (omega (arith, ints), omega (arith, ints)) }

pub sizing-next : (l : Look) (h d : ℤ) (x : Item) (xs all : List Item) → Sizing l h d (x ∷ xs) all → (pos 0 ≤ℤ l.high x) × (l.high x ≤ℤ pos 16777215) → (pos 0 ≤ℤ l.deep x) × (l.deep x ≤ℤ pos 16777215)
    → Sizing l (int_max h (l.high x)) (int_max d (l.deep x)) xs all
sizing-next l h d x xs all s a b = record {
  high = most-next l.high h x xs (most l.high all) s.high;
  deep = most-next l.deep d x xs (most l.deep all) s.deep;
  height = larger-within h (l.high x) 16777215 s.height a;
  depth = larger-within d (l.deep x) 16777215 s.depth b;
}
