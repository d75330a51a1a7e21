-- Rows written over a part of another, one behind the other, and what is added to an output. Assumes nothing.
use Rattle.std.proofs.Common.{◌≡◌, ℕ, ◌+◌, ◌<◌, ◌≤◌, List, [], ◌++◌, length, get_or, take, drop, sym, ap, subst, ◌∙◌, arith}
use Rattle.std.proofs.lemmas.List.{append_assoc, drop-drop, take_more, flat_map_more, length-drop, take-append-drop, length-append, length-take-le, take_at, drop_at}
use Rattle.std.proofs.lemmas.List.Folds.{length-flat_map-take}
use Rattle.std.specs.List.{flat_map}
use Rattle.boxlist.specs.declared.numbers.Output.{Output}
use Rattle.boxlist.specs.Over.{over}
use Rattle.boxlist.specs.Outputs.{HasRoom, Added}

module _ {X : Type 0} where
  pub over_none : (old : List X) (place : ℕ) → over old place [] ≡ old
  over_none old place = ap (λ (k : ℕ). take place old ++ drop k old) (omega arith) ∙ take-append-drop place old

  -- two rows, one behind the other, are one
  pub over-append : (xs ys old : List X) (place next : ℕ) → place + length xs ≤ length old → next ≡ place + length xs → over (over old place xs) next ys ≡ over old place (xs ++ ys)
  over-append xs ys old place next room e =
      let m = take place old ++ xs in
      let d = drop (place + length xs) old in
      let whole : over old place xs ≡ m ++ d = sym (append_assoc (take place old) xs d) in
      let long : length m ≡ next = omega (arith, length-append (take place old) xs, length-take-le place old) in
      let behind : drop (next + length ys) (m ++ d) ≡ drop (place + length (xs ++ ys)) old =
      sym (drop-drop (length ys) next (m ++ d))
      ∙ ap (drop (length ys)) (drop_at m d next long)
      ∙ drop-drop (length ys) (place + length xs) old
      ∙ ap (λ k. drop k old) (omega (arith, length-append xs ys)) in
      ap (λ l. take next l ++ (ys ++ drop (next + length ys) l)) whole
      ∙ (λ i. take_at m d next long i ++ (ys ++ behind i))
      ∙ simp append_assoc

  length-over : (xs old : List X) (place : ℕ) → place + length xs ≤ length old → length (over old place xs) ≡ length old
  length-over xs old place room = simp (length-append, length-drop) (omega (arith, length-take-le place old))

-- rows added one behind the other, where there is room for both
module _ (a b : Output) (xs ys : List ℕ) (added : Added a b xs) (room : HasRoom a (xs ++ ys)) where
  first-fits : HasRoom a xs
  first-fits = omega (arith, length-append xs ys)

  pub room-behind : HasRoom b ys
  room-behind =
      omega (arith, length-append xs ys, added.next, ap length added.bytes ∙ length-over xs a.bytes.now a.place first-fits)

  pub added-append : (c : Output) → Added b c ys → Added a c (xs ++ ys)
  added-append c more =
      record {
        same = more.same ∙ added.same;
        next = omega (arith, length-append xs ys, added.next, more.next);
        bytes = more.bytes
            ∙ ap (λ l. over l b.place ys) added.bytes
            ∙ over-append xs ys a.bytes.now a.place b.place first-fits added.next;
      }

-- what is added to an output at its front
pub added-front : (a b : Output) (old bs : List ℕ) → a.bytes.now ≡ old → a.place ≡ 0 → Added a b bs → b.bytes.now ≡ over old 0 bs
added-front a b old bs held front added = added.bytes ∙ (λ i. over (held i) (front i) bs)

-- the rows of a list's elements, one element further
module _ {X : Type 0} (f : X → List ℕ) (xs : List X) (i : ℕ) (d : X) (a b : Output) (h : i < length xs) (added : Added a b (flat_map f (take i xs))) (room : HasRoom a (flat_map f xs)) where
  more : flat_map f (take (i + 1) xs) ≡ flat_map f (take i xs) ++ f (get_or xs i d)
  more = ap (flat_map f) (take_more xs i d h) ∙ sym (flat_map_more f [] (take i xs) (get_or xs i d))

  fits : HasRoom a (flat_map f (take i xs) ++ f (get_or xs i d))
  fits = omega (arith, length-append (flat_map f (take i xs)) (f (get_or xs i d)), length-flat_map-take f xs i d h)

  pub room-each : HasRoom b (f (get_or xs i d))
  room-each = room-behind a b _ _ added fits

  pub added-each : (c : Output) → Added b c (f (get_or xs i d)) → Added a c (flat_map f (take (i + 1) xs))
  added-each c next = subst (Added a c) (sym more) (added-append a b _ _ added fits c next)
