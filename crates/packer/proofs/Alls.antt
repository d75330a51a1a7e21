-- What holds of each element of a list holds of its parts. Assumes nothing.
use Rattle.std.proofs.Common.{◌≡◌, Bool, true, List, [], ◌∷◌, ◌++◌}
use Rattle.std.specs.List.{list_all, AllByRecursion}
use Rattle.std.proofs.lemmas.Bool.{and_parts}

module _ {A : Type 0} (Q : A → Type 0) where
  pub all-left : (xs ys : List A) → AllByRecursion Q (xs ++ ys) → AllByRecursion Q xs
  all-left [] ys h = tt
  all-left (x ∷ xs) ys h = (h.0, all-left xs ys h.1)

  pub all-right : (xs ys : List A) → AllByRecursion Q (xs ++ ys) → AllByRecursion Q ys
  all-right [] ys h = h
  all-right (x ∷ xs) ys h = all-right xs ys h.1

  -- what passes a test is so
  pub all-passed : (test : A → Bool) → ((a : A) → test a ≡ true → Q a) → (xs : List A) → list_all test xs ≡ true → AllByRecursion Q xs
  all-passed test f [] h = tt
  all-passed test f (x ∷ xs) h = let both = and_parts (test x) (list_all test xs) h in (f x both.0, all-passed test f xs both.1)
