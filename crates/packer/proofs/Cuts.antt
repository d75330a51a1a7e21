-- Records and what they stand for, cut in two. Assumes nothing.
use Rattle.std.proofs.Common.{◌≡◌, ℕ, zero, suc, ◌+◌, ◌<◌, ◌≤◌, Bool, true, false, ◌&&◌, List, [], ◌∷◌, length, get_or, take, drop, sym, refl, ap, ◌∙◌, arith}
use Rattle.std.specs.List.{list_all}
use Rattle.std.proofs.lemmas.List.{drop-drop, drop-take, take-take, at_drop_more, at_drop_all}
use Rattle.ledger.specs.Chunks.{chunks, total}
use Rattle.ledger.specs.Items.{taken, meant, decoded_items}
use Rattle.ledger.specs.declared.records.ItemRecord.{ItemRecord}

pub total-cut : {R : Type 0} (size : R → ℕ) (rs : List R) (n : ℕ) → total size (take n rs) + total size (drop n rs) ≡ total size rs
unfolding total
total-cut size rs zero = omega arith
total-cut size [] (suc n) = refl
total-cut size (r ∷ rs) (suc n) = let e = total-cut size rs n in omega arith

pub total-next : {R : Type 0} (size : R → ℕ) (rs : List R) (i : ℕ) (d : R) → i < length rs → total size (drop i rs) ≡ size (get_or rs i d) + total size (drop (i + 1) rs)
unfolding total
total-next size rs i d h = at_drop_more (total size) rs i d h

pub total-end : {R : Type 0} (size : R → ℕ) (rs : List R) (i : ℕ) → length rs ≤ i → total size (drop i rs) ≡ 0
unfolding total
total-end size rs i h = at_drop_all (total size) rs i h

-- what holds of all holds of a part
pub both : (a b : Bool) → (a && b) ≡ true → (a ≡ true) × (b ≡ true)
both true b h = (refl, h)
both false b h = cc

pub all-front : {X : Type 0} (f : X → Bool) (n : ℕ) (xs : List X) → list_all f xs ≡ true → list_all f (take n xs) ≡ true
all-front f zero xs h = refl
all-front f (suc n) [] h = refl
all-front f (suc n) (x ∷ xs) h = let b = both (f x) (list_all f xs) h in rw (b.0, all-front f n xs b.1)

pub all-behind : {X : Type 0} (f : X → Bool) (n : ℕ) (xs : List X) → list_all f xs ≡ true → list_all f (drop n xs) ≡ true
all-behind f zero xs h = h
all-behind f (suc n) [] h = refl
all-behind f (suc n) (x ∷ xs) h = all-behind f n xs (both (f x) (list_all f xs) h).1

pub all-next : {X : Type 0} (f : X → Bool) (x : X) (xs : List X) → list_all f (x ∷ xs) ≡ true → (f x ≡ true) × (list_all f xs ≡ true)
all-next f x xs h = both (f x) (list_all f xs) h

module _ {R A B : Type 0} (size : R → ℕ) (f : R → List A → B) where
  pub chunks-take : (n : ℕ) (rs : List R) (xs : List A) → take n (chunks size f rs xs) ≡ chunks size f (take n rs) xs
  unfolding chunks
  chunks-take zero rs xs = refl
  chunks-take (suc n) [] xs = refl
  chunks-take (suc n) (r ∷ rs) xs = ap (λ (t : List B). f r (take (size r) xs) ∷ t) (chunks-take n rs (drop (size r) xs))

  pub chunks-drop : (n : ℕ) (rs : List R) (xs : List A) → drop n (chunks size f rs xs) ≡ chunks size f (drop n rs) (drop (total size (take n rs)) xs)
  unfolding chunks total
  chunks-drop zero rs xs = refl
  chunks-drop (suc n) [] xs = refl
  chunks-drop (suc n) (r ∷ rs) xs = chunks-drop n rs (drop (size r) xs) ∙ ap (chunks size f (drop n rs)) (drop-drop (total size (take n rs)) (size r) xs)

  -- what lies behind all pieces is not looked at
  pub chunks-front : (rs : List R) (xs : List A) → chunks size f rs (take (total size rs) xs) ≡ chunks size f rs xs
  unfolding chunks total
  chunks-front [] xs = refl
  chunks-front (r ∷ rs) xs =
      let a : take (size r) (take (size r + total size rs) xs) ≡ take (size r) xs = take-take (size r) (size r + total size rs) xs (omega arith) in
      let b = drop-take (size r) (total size rs) xs in
      ap (λ (t : List A). f r t ∷ chunks size f rs (drop (size r) (take (size r + total size rs) xs))) a
      ∙ ap (λ (t : List A). f r (take (size r) xs) ∷ chunks size f rs t) b
      ∙ ap (λ (t : List B). f r (take (size r) xs) ∷ t) (chunks-front rs (drop (size r) xs))

  pub chunks-next : (rs : List R) (i : ℕ) (d : R) (xs : List A) → i < length rs → chunks size f (drop i rs) xs ≡ f (get_or rs i d) (take (size (get_or rs i d)) xs) ∷ chunks size f (drop (i + 1) rs) (drop (size (get_or rs i d)) xs)
  unfolding chunks
  chunks-next rs i d xs h = at_drop_more (λ (qs : List R). chunks size f qs xs) rs i d h

-- items whose bytes begin at a place of a text
module _ (q t : List ℕ) where
  pub items-next : (is : List ItemRecord) (i p : ℕ) (d : ItemRecord) → i < length is
      → decoded_items q (drop i is) (drop p t) ≡ meant q (get_or is i d) (take (taken (get_or is i d)) (drop p t)) ∷ decoded_items q (drop (i + 1) is) (drop (p + taken (get_or is i d)) t)
  items-next is i p d h =
      let a = get_or is i d in
      chunks-next taken (meant q) is i d (drop p t) h ∙ ap (λ (w : List ℕ). meant q a (take (taken a) (drop p t)) ∷ decoded_items q (drop (i + 1) is) w) (drop-drop (taken a) p t)

  pub items-front : (is : List ItemRecord) (n p : ℕ) → decoded_items q (take n is) (drop p t) ≡ take n (decoded_items q is (drop p t))
  items-front is n p = sym (chunks-take taken (meant q) n is (drop p t))

  pub items-behind : (is : List ItemRecord) (n p : ℕ) → decoded_items q (drop n is) (drop (p + total taken (take n is)) t) ≡ drop n (decoded_items q is (drop p t))
  items-behind is n p = sym (chunks-drop taken (meant q) n is (drop p t) ∙ ap (decoded_items q (drop n is)) (drop-drop (total taken (take n is)) p t))

  pub items-none : (p : ℕ) → decoded_items q [] (drop p t) ≡ []
  unfolding chunks
  items-none p = refl
