-- However many items are taken from the front of an entry, they are not wide.
use Rattle.std.proofs.Common.{◌≡◌, ℕ, zero, suc, ◌+◌, ◌-◌, ◌*◌, ◌^◌, ◌<◌, ◌≤◌, Bool, true, false, cond, List, [], ◌∷◌, ◌++◌, length, take, ℤ, ◌+ℤ◌, Some, None, Option, Result, sym, refl, ap, ◌∙◌, subst, ⊎_elim, arith}
use Rattle.std.proofs.lemmas.Int.{ints}
use Rattle.std.proofs.lemmas.Bool.{cases_lt}
use Rattle.std.proofs.lemmas.List.{take_all, take-append-le}
use Rattle.std.proofs.Math.Seq.{take-nil, take-append-add}
use Rattle.extent.specs.Sizes.{Within}
use Rattle.ledger.specs.Ledger.{Item, Entry, OpenRow}
use Rattle.ledger.specs.Calls.{Template, template_at}
use Rattle.ledger.specs.Naturals.{natural, owed_of}
use Rattle.ledger.specs.Lawful.{all_fine, FineTemplates, FineSized, Steady, items_at}
use Rattle.ledger.proofs.Beyonds.{natural-append, natural-none}
use Rattle.ledger.proofs.Words.{within_more}
use Rattle.ledger.proofs.Fines.{few-within, within-sum, within-none}

-- a few fine items, as a part of a template has
pub record Few {X : Type 0} (meaning : List ℕ → Result X ℕ) (is : List Item) : Type 0 where
  pub fine : all_fine meaning is ≡ true
  pub few : length is ≤ 64

pub few-none : {X : Type 0} (meaning : List ℕ → Result X ℕ) → Few meaning []
few-none meaning = record { fine = refl; few = omega arith }

-- what is owed of v is such a part
module _ {X : Type 0} (meaning : List ℕ → Result X ℕ) (P : List Template) (fits : FineTemplates meaning P) where
  pub few-u : (c : ℕ) → Few meaning (template_at P c).u
  few-u c = record { fine = (fits c).u; few = (fits c).few-u }

  pub few-v : (c : ℕ) → Few meaning (template_at P c).v
  few-v c = record { fine = (fits c).v; few = (fits c).few-v }

  pub few-unless : (b : Bool) (is : List Item) → Few meaning is → Few meaning (cond b [] is)
  few-unless true is f = few-none meaning
  few-unless false is f = f

  few-when : (b : Bool) (is : List Item) → Few meaning is → Few meaning (cond b is [])
  few-when true is f = f
  few-when false is f = few-none meaning

  pub few-owed : (o : Option OpenRow) → Few meaning (owed_of P o)
  few-owed None = few-none meaning
  few-owed (Some h) = few-when h.begun (cond h.omitted [] (template_at P h.column).v) (few-unless h.omitted (template_at P h.column).v (few-v h.column))

module _ {X : Type 0} (meaning : List ℕ → Result X ℕ) (count : ℕ) (wide : Item → ℕ → ℤ) where
  pub steady-none : Steady count wide []
  steady-none j k lt = subst (λ (is : List Item). Within (2 ^ 38) (natural wide is k)) (sym (take-nil j)) (subst (Within (2 ^ 38)) (sym (natural-none wide k)) (within-none (2 ^ 38)))

  module _ (sized : FineSized meaning count wide) where
    -- as many as 64 are at most so wide
    pub few-wide : (is : List Item) (j k : ℕ) → k < count → Few meaning is → Within 68719476672 (natural wide (take j is) k)
    few-wide is j k lt f = within_more (64 * 1073741823) 68719476672 (natural wide (take j is) k) (omega arith) (few-within meaning count wide sized 64 j k is lt f.fine f.few)

    pub few-whole : (is : List Item) (k : ℕ) → k < count → Few meaning is → Within 68719476672 (natural wide is k)
    few-whole is k lt f = subst (λ (x : List Item). Within 68719476672 (natural wide x k)) (take_all (length is) is (omega arith)) (few-wide is (length is) k lt f)

    -- a few more items behind those that are not wide
    pub steady-more : (xs ys : List Item) → Steady count wide xs → ((k : ℕ) → k < count → Within 69793218495 (natural wide xs k)) → Few meaning ys → Steady count wide (xs ++ ys)
    steady-more xs ys s w f j k lt = ⊎_elim
        (λ below. subst (λ (is : List Item). Within (2 ^ 38) (natural wide is k)) (sym (take-append-le j xs ys (omega arith))) (s j k lt))
        (λ above.
        let n : ℕ = j - length xs in
        let e : j ≡ length xs + n = omega arith in
        let is : natural wide (take j (xs ++ ys)) k ≡ natural wide xs k +ℤ natural wide (take n ys) k =
        ap (λ (i : ℕ). natural wide (take i (xs ++ ys)) k) e ∙ ap (λ (x : List Item). natural wide x k) (take-append-add xs ys n) ∙ natural-append wide xs (take n ys) k in
        let sum : Within 138512695167 (natural wide xs k +ℤ natural wide (take n ys) k) = within-sum 69793218495 68719476672 138512695167 _ _ (w k lt) (few-wide ys n k lt f) (omega arith) in
        subst (Within (2 ^ 38)) (sym is) (within_more 138512695167 (2 ^ 38) _ (omega arith) sum))
        (cases_lt j (length xs))

    -- items are not wide whose width with what is owed is in the range
    pub near-wide : (is vs : List Item) → ((k : ℕ) → k < count → Within 1073741823 (natural wide is k +ℤ natural wide vs k)) → Few meaning vs → (k : ℕ) → k < count → Within 69793218495 (natural wide is k)
    near-wide is vs near f k lt = let a = near k lt in let b = few-whole vs k lt f in (omega (arith, ints, a.0, a.1, b.0, b.1), omega (arith, ints, a.0, a.1, b.0, b.1))

  -- entries all of which are so
  abbrev pub AllSteady : List Entry → Type 0
  AllSteady es = (t : ℕ) → Steady count wide (items_at es t)

  pub all_steady-none : AllSteady []
  all_steady-none t = steady-none

  pub all_steady-append : (xs ys : List Entry) → AllSteady xs → AllSteady ys → AllSteady (xs ++ ys)
  all_steady-append [] ys a b t = b t
  all_steady-append (x ∷ xs) ys a b zero = a zero
  all_steady-append (x ∷ xs) ys a b (suc t) = all_steady-append xs ys (λ i. a (suc i)) b t

  pub all_steady-one : (e : Entry) → Steady count wide e.items → AllSteady (e ∷ [])
  all_steady-one e s zero = s
  all_steady-one e s (suc t) = steady-none
