-- Laws of `over` and `part`.
use Rattle.std.proofs.Common.{◌≡◌, ℕ, ◌+◌, ◌-◌, ◌<◌, ◌≤◌, List, [], ◌∷◌, ◌++◌, length, take, drop, set, sym, ap, ◌∙◌, append_assoc, add-one, arith}
use borrow.Rule.Slice.PartMut.{put_mid}
use Rattle.std.proofs.lemmas.List.{length-append, length-take-le, length-drop, drop-drop, take_at, take-append-le, take-take, drop-append-le, set_split, take-append-drop}
use Rattle.rows.specs.Held.{over, part}

pub put_mid_over : {X : Type 0} (a k : ℕ) (xs ys zs : List X) → ys ≡ zs → k ≡ length zs → put_mid a k xs ys ≡ over xs a zs
put_mid_over a k xs ys zs e f = let d = drop-drop k a xs in cc

pub length_over : {X : Type 0} (xs : List X) (a : ℕ) (zs : List X) → a + length zs ≤ length xs → length (over xs a zs) ≡ length xs
length_over xs a zs h =
    let h1 : a ≤ length xs = omega arith in
    simp (length-append, length-take-le, length-drop) (omega arith)

pub take-over : {X : Type 0} (xs : List X) (a : ℕ) (zs : List X) → a + length zs ≤ length xs → take (a + length zs) (over xs a zs) ≡ take a xs ++ zs
take-over xs a zs h =
    let h1 : a ≤ length xs = omega arith in
    let e : length (take a xs ++ zs) ≡ a + length zs = simp (length-append, length-take-le) in
    rw (← append_assoc) (take_at (take a xs ++ zs) (drop (a + length zs) xs) (a + length zs) e)

pub take-over_below : {X : Type 0} (xs : List X) (a : ℕ) (zs : List X) (n : ℕ) → n ≤ a → a ≤ length xs → take n (over xs a zs) ≡ take n xs
take-over_below xs a zs n h k =
    let e : n ≤ length (take a xs) = rw (length-take-le a xs k) h in
    take-append-le n (take a xs) (zs ++ drop (a + length zs) xs) e ∙ take-take n a xs h

pub part-over : {X : Type 0} (xs : List X) (k a : ℕ) (zs : List X) → k ≤ a → a + length zs ≤ length xs → part k (a + length zs) (over xs a zs) ≡ part k a xs ++ zs
part-over xs k a zs h l =
    let h1 : a ≤ length xs = omega arith in
    let e : k ≤ length (take a xs) = rw (length-take-le a xs h1) h in
    ap (drop k) (take-over xs a zs l) ∙ drop-append-le k (take a xs) zs e

pub length_part : {X : Type 0} (xs : List X) (k a : ℕ) → a ≤ length xs → length (part k a xs) ≡ a - k
length_part xs k a h = simp (length-drop, length-take-le)

pub set_over : {X : Type 0} (xs : List X) (a : ℕ) (x : X) → a < length xs → set xs a x ≡ over xs a (x ∷ [])
set_over xs a x h = set_split xs a x h ∙ rw (add-one a)

-- what lies below a mark, and from there to another
pub take_part : {X : Type 0} (xs : List X) (k a : ℕ) → k ≤ a → take a xs ≡ take k xs ++ part k a xs
take_part {X} xs k a h = sym (ap (λ (t : List X). t ++ part k a xs) (sym (take-take k a xs h)) ∙ take-append-drop k (take a xs))
