-- The control words and their letters. Assumes nothing.
use Rattle.std.proofs.Common.{◌≡◌, ℕ, ◌≤◌, cond, List, [], ◌∷◌, length, Some, sym, refl, ap, ◌∙◌, inl, inr, lit≤}
use Rattle.std.specs.List.{find}
use Rattle.std.specs.Str.{bytes_eq}
use Rattle.std.proofs.lemmas.List.Recursion.{same_from_clauses}
use Rattle.std.proofs.lemmas.Slice.Eq.{bytes_eq-Decides}
use Rattle.std.proofs.lemmas.Bool.{cases_Bool, cond-true, cond-false}
use Rattle.reader.specs.declared.tokens.Control.{Control}
use Rattle.reader.specs.declared.tokens.Control.TheVariants.{Kern, Hfil, Tabskip, Cr, Omit, Span, Noalign, Hrule, Vskip}
use Rattle.reader.specs.Tokens.{letters_of, controls, first_spelled, spelled}
use Rattle.reader.specs.Reads.{LettersApart}

-- the first of some control words with these letters is found
pub spelled-found : (l : List ℕ) → find (λ c. bytes_eq l (letters_of c)) controls ≡ spelled l
unfolding spelled first_spelled
spelled-found l = same_from_clauses (find (λ c. bytes_eq l (letters_of c))) (first_spelled l) (λ c r. cond (bytes_eq l (letters_of c)) (Some c) r) refl (λ c cs. refl) (λ c cs. refl) controls

-- the letters of each control word name it ..
pub spelled-letters : (c : Control) → spelled (letters_of c) ≡ Some c
unfolding spelled first_spelled
spelled-letters Kern = refl
spelled-letters Hfil = refl
spelled-letters Tabskip = refl
spelled-letters Cr = refl
spelled-letters Omit = refl
spelled-letters Span = refl
spelled-letters Noalign = refl
spelled-letters Hrule = refl
spelled-letters Vskip = refl

-- .. so no two control words have the same letters
pub letters-one : LettersApart
letters-one c d same =
    let known : Some c ≡ Some d = sym (spelled-letters c) ∙ (ap spelled same ∙ spelled-letters d) in
    cc

first_some : (l : List ℕ) (cs : List Control) (c : Control) → first_spelled l cs ≡ Some c → l ≡ letters_of c
unfolding first_spelled
first_some l [] c h = cc
first_some l (x ∷ xs) c h =
    elim (cases_Bool (bytes_eq l (letters_of x))) [
      | inl t ↦
          let here : Some x ≡ Some c = sym (cond-true _ _ _ t) ∙ h in
          let same : x ≡ c = cc in
          (bytes_eq-Decides l (letters_of x)).0 t ∙ ap letters_of same
      | inr t ↦ first_some l xs c (sym (cond-false _ _ _ t) ∙ h)
    ]

-- what a control word is named by are its letters
pub spelled-some : (l : List ℕ) (c : Control) → spelled l ≡ Some c → l ≡ letters_of c
unfolding spelled
spelled-some l c h = first_some l controls c h

pub letters-some : (c : Control) → 1 ≤ length (letters_of c)
letters-some Kern = lit≤ tt
letters-some Hfil = lit≤ tt
letters-some Tabskip = lit≤ tt
letters-some Cr = lit≤ tt
letters-some Omit = lit≤ tt
letters-some Span = lit≤ tt
letters-some Noalign = lit≤ tt
letters-some Hrule = lit≤ tt
letters-some Vskip = lit≤ tt
