-- Bytes that begin with a word. Assumes nothing.
use Rattle.std.proofs.Common.{◌≡◌, ℕ, Bool, true, false, eqb, List, [], ◌∷◌, ◌++◌, length, drop, sym, refl, ap, ◌∙◌, ⊎_elim}
use Rattle.std.proofs.lemmas.Bool.{cases_Bool, and_parts, and_from, eqb-true, eq-eqb, both_ways}
use Rattle.lengths.specs.Dimens.{begins_with}

pub begins-front : (w rest : List ℕ) → begins_with w (w ++ rest) ≡ true
begins-front [] rest = refl
begins-front (c ∷ w) rest = and_from (eqb c c) (begins_with w (w ++ rest)) (eq-eqb c c refl) (begins-front w rest)

pub front-begins : (w s : List ℕ) → begins_with w s ≡ true → s ≡ w ++ drop (length w) s
front-begins [] s h = refl
front-begins (c ∷ w) [] h = absurd (both_ways false refl h)
front-begins (c ∷ w) (b ∷ s) h =
    let both = and_parts (eqb b c) (begins_with w s) h in
    ap (λ (x : ℕ). x ∷ s) (eqb-true b c both.0) ∙ ap (λ (x : List ℕ). c ∷ x) (front-begins w s both.1)

-- a test that is true exactly where s begins with w
pub begins-is : (w s : List ℕ) (r : Bool) → (r ≡ true → s ≡ w ++ drop (length w) s) → ((rest : List ℕ) → s ≡ w ++ rest → r ≡ true) → r ≡ begins_with w s
begins-is w s r fits front =
    ⊎_elim
    (λ t. t ∙ sym (ap (begins_with w) (fits t) ∙ begins-front w (drop (length w) s)))
    (λ f. ⊎_elim
    (λ t. absurd (both_ways r f (front (drop (length w) s) (front-begins w s t))))
    (λ g. f ∙ sym g)
    (cases_Bool (begins_with w s)))
    (cases_Bool r)
