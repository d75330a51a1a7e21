-- The longest run at a place, as a relation, and the front that passes. Assumes nothing.
use Rattle.std.proofs.Common.{◌≡◌, ℕ, zero, suc, ◌+◌, ◌-◌, ◌<◌, ◌≤◌, Bool, true, List, [], ◌∷◌, get_or, drop, sym, refl, ap, ◌∙◌, subst, inl, inr, one-add, arith}
use Rattle.std.specs.List.{prefix_len}
use Rattle.std.proofs.lemmas.List.{get_or-drop, length-drop}
use Rattle.std.proofs.lemmas.Bool.{cases_Bool, cases_order, cond-true, cond-false, both_ways}
use Rattle.reader.specs.Tokens.{blank_byte, spaces_end}
use Rattle.reader.specs.Reads.{Passes, Longest}

module _ (p : ℕ → Bool) where
  passes_more : (b : ℕ) (s : List ℕ) (k : ℕ) → Passes p s k → Passes p (b ∷ s) (suc k)
  passes_more b s k h = (omega arith, h.1)

  passes_less : (b : ℕ) (s : List ℕ) (k : ℕ) → Passes p (b ∷ s) (suc k) → Passes p s k
  passes_less b s k h = (omega arith, h.1)

  one-longer : (b : ℕ) (s : List ℕ) (n : ℕ) → p b ≡ true → Longest p s 0 n → Longest p (b ∷ s) 0 (suc n)
  one-longer b s n t h = record { onto = omega arith; all = each; stops = λ x. h.stops (passes_less b s n x) } where
    each : (k : ℕ) → 0 ≤ k → k < suc n → Passes p (b ∷ s) k
    each zero low lt = (omega arith, t)
    each (suc k) low lt = passes_more b s k (h.all k (omega arith) (omega arith))

  -- a list from its start
  front-longest : (s : List ℕ) → Longest p s 0 (prefix_len p s)
  front-longest [] = record { onto = omega arith; all = λ k low lt. absurd (omega arith); stops = λ x. omega arith }
  front-longest (b ∷ s) =
      elim (cases_Bool (p b)) [
        | inl t ↦ subst (Longest p (b ∷ s) 0) (sym (cond-true (p b) (1 + prefix_len p s) 0 t ∙ one-add (prefix_len p s))) (one-longer b s (prefix_len p s) t (front-longest s))
        | inr t ↦ subst (Longest p (b ∷ s) 0) (sym (cond-false (p b) (1 + prefix_len p s) 0 t))
            (record { onto = omega arith; all = λ k low lt. absurd (omega arith); stops = λ x. both_ways (p b) t x.1 })
      ]

  -- a text from a place
  passes_at : (text : List ℕ) (a j k : ℕ) → a + j ≡ k → Passes p (drop a text) j → Passes p text k
  passes_at text a j k e h =
      (omega (arith, length-drop a text, h.0), subst (λ (m : ℕ). p m ≡ true) (get_or-drop a text j 0 ∙ ap (λ (i : ℕ). get_or text i 0) e) h.1)

  passes_from : (text : List ℕ) (a j k : ℕ) → a + j ≡ k → Passes p text k → Passes p (drop a text) j
  passes_from text a j k e h =
      (omega (arith, length-drop a text, h.0), subst (λ (m : ℕ). p m ≡ true) (sym (get_or-drop a text j 0 ∙ ap (λ (i : ℕ). get_or text i 0) e)) h.1)

  pub leading_longest : (text : List ℕ) (a : ℕ) → Longest p text a (a + prefix_len p (drop a text))
  leading_longest text a =
      let h : Longest p (drop a text) 0 (prefix_len p (drop a text)) = front-longest (drop a text) in
      record {
        onto = omega arith;
        all = λ k low lt. passes_at text a (k - a) k (omega arith) (h.all (k - a) (omega arith) (omega arith));
        stops = λ x. h.stops (passes_from text a (prefix_len p (drop a text)) _ refl x);
      }

  -- there is one longest run at a place
  pub longest-one : (text : List ℕ) (a e f : ℕ) → Longest p text a e → Longest p text a f → e ≡ f
  longest-one text a e f h g =
      elim (cases_order e f) [
        | inl same ↦ same
        | inr (inl lt) ↦ absurd (h.stops (g.all e h.onto lt))
        | inr (inr gt) ↦ absurd (g.stops (h.all f g.onto gt))
      ]

  pub longest-is : (text : List ℕ) (a e : ℕ) → Longest p text a e → e ≡ a + prefix_len p (drop a text)
  longest-is text a e h = longest-one text a e _ h (leading_longest text a)

-- the run of spaces at a place
pub spaces-longest : (text : List ℕ) (place : ℕ) → Longest blank_byte text place (spaces_end text place)
unfolding spaces_end
spaces-longest text place = leading_longest blank_byte text place
