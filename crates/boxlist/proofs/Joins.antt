-- Rows made by joining the rows of a list's elements, one element further, and a row of one element written over. Assumes
-- nothing.
use Rattle.std.proofs.Common.{◌≡◌, ℕ, zero, suc, ◌+◌, ◌<◌, ◌≤◌, List, [], ◌∷◌, ◌++◌, length, get_or, take, drop, set, sym, ap, ◌∙◌, arith}
use Rattle.std.specs.List.{flat_map}
use Rattle.std.proofs.lemmas.List.{append_assoc, take_more, take_more_set, drop-set-lt, take-append-drop, flat_map_more, length-append}
use Rattle.boxlist.specs.Over.{over}

module _ {X Y : Type 0} (f : X → List Y) where
  pub joined-take_more : (xs : List X) (i : ℕ) (d : X) → i < length xs → flat_map f (take (i + 1) xs) ≡ flat_map f (take i xs) ++ f (get_or xs i d)
  joined-take_more xs i d h = ap (flat_map f) (take_more xs i d h) ∙ sym (flat_map_more f [] (take i xs) (get_or xs i d))

  pub length-joined_more : (xs : List X) (i : ℕ) (d : X) → i < length xs → length (flat_map f (take (i + 1) xs)) ≡ length (flat_map f (take i xs)) + length (f (get_or xs i d))
  length-joined_more xs i d h = ap length (joined-take_more xs i d h) ∙ length-append (flat_map f (take i xs)) (f (get_or xs i d))

  pub length-joined_front : (xs : List X) (i : ℕ) → length (flat_map f (take i xs)) ≤ length (flat_map f xs)
  length-joined_front xs zero = omega arith
  length-joined_front [] (suc i) = omega arith
  length-joined_front (x ∷ xs) (suc i) =
      omega (arith, length-joined_front xs i, length-append (f x) (flat_map f (take i xs)), length-append (f x) (flat_map f xs))

module _ {X : Type 0} where
  pub over_last : (old : List X) (place : ℕ) (x : X) → place < length old → set old place x ≡ over old place (x ∷ [])
  over_last old place x h =
      sym (take-append-drop (place + 1) (set old place x))
      ∙ ap (λ l. l ++ drop (place + 1) (set old place x)) (take_more_set old place x h)
      ∙ append_assoc (take place old) (x ∷ []) (drop (place + 1) (set old place x))
      ∙ ap (λ l. take place old ++ (x ∷ l)) (drop-set-lt (place + 1) old place x (omega arith))
