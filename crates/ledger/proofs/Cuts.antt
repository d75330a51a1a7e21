-- Laws of `chunks` and `total`.
use Rattle.std.proofs.Common.{◌≡◌, ℕ, ◌+◌, ◌≤◌, List, [], ◌∷◌, ◌++◌, length, take, drop, sym, refl, ap, ◌∙◌, add_assoc, zero-add, arith}
use Rattle.std.proofs.lemmas.List.{length-drop, drop-drop, take_all, take-append-le, drop-append-le, drop_at}
use Rattle.ledger.specs.Chunks.{chunks, total}

module _ {R A B : Type 0} (size : R → ℕ) (f : R → List A → B) where
  pub total-append : (rs qs : List R) → total size (rs ++ qs) ≡ total size rs + total size qs
  unfolding total
  total-append [] qs = sym (zero-add (total size qs))
  total-append (r ∷ rs) qs = ap (λ n. size r + n) (total-append rs qs) ∙ sym (add_assoc (size r) (total size rs) (total size qs))

  pub chunks-append : (rs qs : List R) (xs : List A) → chunks size f (rs ++ qs) xs ≡ chunks size f rs xs ++ chunks size f qs (drop (total size rs) xs)
  unfolding chunks total
  chunks-append [] qs xs = refl
  chunks-append (r ∷ rs) qs xs =
      ap (λ (t : List B). f r (take (size r) xs) ∷ t) (chunks-append rs qs (drop (size r) xs) ∙ ap (λ (t : List A). chunks size f rs (drop (size r) xs) ++ chunks size f qs t) (drop-drop (total size rs) (size r) xs))

  pub chunks-more : (rs : List R) (xs bs : List A) → total size rs ≤ length xs → chunks size f rs (xs ++ bs) ≡ chunks size f rs xs
  unfolding chunks total
  chunks-more [] xs bs h = refl
  chunks-more (r ∷ rs) xs bs h =
      let a : size r ≤ length xs = omega arith in
      let k : total size rs ≤ length (drop (size r) xs) = simp length-drop (omega arith) in
      rw (take-append-le (size r) xs bs a, drop-append-le (size r) xs bs a, chunks-more rs (drop (size r) xs) bs k)

  pub length-chunks : (rs : List R) (xs : List A) → length (chunks size f rs xs) ≡ length rs
  unfolding chunks
  length-chunks [] xs = refl
  length-chunks (r ∷ rs) xs = let e = length-chunks rs (drop (size r) xs) in omega arith

  -- more records with what they cut
  pub chunks-grow : (rs qs : List R) (xs bs : List A) → total size rs ≡ length xs → chunks size f (rs ++ qs) (xs ++ bs) ≡ chunks size f rs xs ++ chunks size f qs bs
  chunks-grow rs qs xs bs e =
      let h : total size rs ≤ length xs = omega arith in
      chunks-append rs qs (xs ++ bs) ∙ rw (chunks-more rs xs bs h, drop_at xs bs (total size rs) (sym e))

  pub chunks-one : (r : R) (bs : List A) → size r ≡ length bs → chunks size f (r ∷ []) bs ≡ f r bs ∷ []
  unfolding chunks
  chunks-one r bs e = let h : length bs ≤ size r = omega arith in rw (take_all (size r) bs h)

  pub total-one : (r : R) → total size (r ∷ []) ≡ size r
  unfolding total
  total-one r = omega arith

  pub chunks-none : (xs : List A) → chunks size f [] xs ≡ []
  unfolding chunks
  chunks-none xs = refl

  pub total-none : total size [] ≡ 0
  unfolding total
  total-none = refl
