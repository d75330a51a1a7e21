-- The class of a byte is what its ranges say, and no other. Assumes nothing.
use Rattle.std.proofs.Common.{◌≡◌, ℕ, ◌≤◌, Bool, true, false, not, ◌&&◌, Decides, sym, refl, ap, ◌∙◌, subst, inl, inr, arith}
use Rattle.std.proofs.lemmas.Bool.{cases_Bool, cond-true, cond-false, le-leb, leb-true, both_ways, false≢true}
use Rattle.std.proofs.lemmas.Bool.Decides.{Decides-eqb, Decides-or, Decides-and, Decides-not, not_from_Decides}
use Rattle.reader.specs.declared.classes.Class.{Class}
use Rattle.reader.specs.declared.classes.Class.TheVariants.{Bad, Space, Special, Letter, Other}
use Rattle.reader.specs.Classes.{IsSpace, IsSpecial, IsLetter, InRange, IsShut, Classed, within, space_byte, special_byte, letter_byte, range_byte, shut_byte, class_of}
use Rattle.reader.specs.Tokens.{in_word, word_byte, name_byte, escapable}
use Rattle.reader.specs.Reads.{IsEscapable}

decides_within : (a b x : ℕ) → Decides (within a b x) ((a ≤ x) × (x ≤ b))
decides_within a b x = Decides-and _ _ (leb-true a x, le-leb a x) (leb-true x b, le-leb x b)

pub decides_space : (b : ℕ) → Decides (space_byte b) (IsSpace b)
decides_space b = Decides-or _ _ (Decides-eqb b 32) (Decides-eqb b 10)

pub decides_special : (b : ℕ) → Decides (special_byte b) (IsSpecial b)
decides_special b = Decides-or _ _ (Decides-eqb b 92) (Decides-or _ _ (Decides-eqb b 123) (Decides-or _ _ (Decides-eqb b 125) (Decides-or _ _ (Decides-eqb b 38) (Decides-eqb b 35))))

pub decides_letter : (b : ℕ) → Decides (letter_byte b) (IsLetter b)
decides_letter b = Decides-or _ _ (decides_within 65 90 b) (decides_within 97 122 b)

pub decides_shut : (b : ℕ) → Decides (shut_byte b) (IsShut b)
decides_shut b = Decides-or _ _ (Decides-eqb b 36) (Decides-or _ _ (Decides-eqb b 37) (Decides-or _ _ (Decides-eqb b 94) (Decides-or _ _ (Decides-eqb b 95) (Decides-eqb b 126))))

pub decides_escapable : (b : ℕ) → Decides (escapable b) (IsEscapable b)
decides_escapable b =
    Decides-or _ _ (Decides-eqb b 38) (Decides-or _ _ (Decides-eqb b 35) (Decides-or _ _ (Decides-eqb b 36) (Decides-or _ _ (Decides-eqb b 37)
    (Decides-or _ _ (Decides-eqb b 95) (Decides-or _ _ (Decides-eqb b 123) (Decides-eqb b 125))))))

-- in the range and not shut out
decides_open : (b : ℕ) → Decides (range_byte b && not (shut_byte b)) (InRange b × (IsShut b → ⊥))
decides_open b = Decides-and _ _ (decides_within 33 126 b) (Decides-not _ (decides_shut b))

pub classed : (b : ℕ) → Classed b (class_of b)
classed b =
    elim (cases_Bool (space_byte b)) [
      | inl s ↦ subst (Classed b) (sym (cond-true _ _ _ s)) ((decides_space b).0 s)
      | inr s ↦ subst (Classed b) (sym (cond-false _ _ _ s)) (elim (cases_Bool (special_byte b)) [
        | inl p ↦ subst (Classed b) (sym (cond-true _ _ _ p)) ((decides_special b).0 p)
        | inr p ↦ subst (Classed b) (sym (cond-false _ _ _ p)) (elim (cases_Bool (letter_byte b)) [
          | inl l ↦ subst (Classed b) (sym (cond-true _ _ _ l)) ((decides_letter b).0 l)
          | inr l ↦ subst (Classed b) (sym (cond-false _ _ _ l)) (elim (cases_Bool (range_byte b && not (shut_byte b))) [
            | inl o ↦ subst (Classed b) (sym (cond-true _ _ _ o))
                (let h : InRange b × (IsShut b → ⊥) = (decides_open b).0 o in
                (h.0, not_from_Decides _ (decides_special b) p, not_from_Decides _ (decides_letter b) l, h.1))
            | inr o ↦ subst (Classed b) (sym (cond-false _ _ _ o)) (
              not_from_Decides _ (decides_space b) s,
              not_from_Decides _ (decides_special b) p,
              not_from_Decides _ (decides_letter b) l,
              λ h. not_from_Decides _ (decides_open b) o (h.0, h.3),
            )
          ])
        ])
      ])
    ]

fails : {P : Type 0} (t : Bool) → Decides t P → (P → ⊥) → t ≡ false
fails t d none = elim (cases_Bool t) [ inl e ↦ absurd (none (d.0 e)) | inr e ↦ e ]

range_not_space : (b : ℕ) → 33 ≤ b → IsSpace b → ⊥
range_not_space b low h = elim h [ inl e ↦ omega arith | inr e ↦ omega arith ]

letter-not_special : (b : ℕ) → IsLetter b → IsSpecial b → ⊥
letter-not_special b l (inl e) = elim l [ inl r ↦ omega arith | inr r ↦ omega arith ]
letter-not_special b l (inr (inl e)) = elim l [ inl r ↦ omega arith | inr r ↦ omega arith ]
letter-not_special b l (inr (inr (inl e))) = elim l [ inl r ↦ omega arith | inr r ↦ omega arith ]
letter-not_special b l (inr (inr (inr (inl e)))) = elim l [ inl r ↦ omega arith | inr r ↦ omega arith ]
letter-not_special b l (inr (inr (inr (inr e)))) = elim l [ inl r ↦ omega arith | inr r ↦ omega arith ]

letter-in_range : (b : ℕ) → IsLetter b → InRange b
letter-in_range b (inl r) = (omega arith, omega arith)
letter-in_range b (inr r) = (omega arith, omega arith)

pub classed-one : (b : ℕ) (c : Class) → Classed b c → c ≡ class_of b
classed-one b Space h = sym (cond-true _ _ _ ((decides_space b).1 h))
classed-one b Special (inl e) = subst (λ (x : ℕ). Special ≡ class_of x) (sym e) refl
classed-one b Special (inr (inl e)) = subst (λ (x : ℕ). Special ≡ class_of x) (sym e) refl
classed-one b Special (inr (inr (inl e))) = subst (λ (x : ℕ). Special ≡ class_of x) (sym e) refl
classed-one b Special (inr (inr (inr (inl e)))) = subst (λ (x : ℕ). Special ≡ class_of x) (sym e) refl
classed-one b Special (inr (inr (inr (inr e)))) = subst (λ (x : ℕ). Special ≡ class_of x) (sym e) refl
classed-one b Letter h =
    sym (cond-false _ _ _ (fails _ (decides_space b) (range_not_space b (letter-in_range b h).0))
    ∙ (cond-false _ _ _ (fails _ (decides_special b) (letter-not_special b h)) ∙ cond-true _ _ _ ((decides_letter b).1 h)))
classed-one b Other h =
    sym (cond-false _ _ _ (fails _ (decides_space b) (range_not_space b h.0.0))
    ∙ (cond-false _ _ _ (fails _ (decides_special b) h.1)
    ∙ (cond-false _ _ _ (fails _ (decides_letter b) h.2) ∙ cond-true _ _ _ ((decides_open b).1 (h.0, h.3)))))
classed-one b Bad h =
    sym (cond-false _ _ _ (fails _ (decides_space b) h.0)
    ∙ (cond-false _ _ _ (fails _ (decides_special b) h.1)
    ∙ (cond-false _ _ _ (fails _ (decides_letter b) h.2)
    ∙ cond-false _ _ _ (fails _ (decides_open b) (λ o. h.3 (o.0, h.1, h.2, o.1))))))

-- a byte that may be escaped is no letter, and lies in the range
pub escapable-not_letter : (b : ℕ) → name_byte b ≡ true → IsEscapable b → ⊥
escapable-not_letter b t h = both_ways (name_byte b) (no_letter h) t where
  no_letter : IsEscapable b → name_byte b ≡ false
  no_letter (inl e) = ap name_byte e
  no_letter (inr (inl e)) = ap name_byte e
  no_letter (inr (inr (inl e))) = ap name_byte e
  no_letter (inr (inr (inr (inl e)))) = ap name_byte e
  no_letter (inr (inr (inr (inr (inl e))))) = ap name_byte e
  no_letter (inr (inr (inr (inr (inr (inl e)))))) = ap name_byte e
  no_letter (inr (inr (inr (inr (inr (inr e)))))) = ap name_byte e

pub escapable-in_range : (b : ℕ) → IsEscapable b → InRange b
escapable-in_range b (inl e) = (omega arith, omega arith)
escapable-in_range b (inr (inl e)) = (omega arith, omega arith)
escapable-in_range b (inr (inr (inl e))) = (omega arith, omega arith)
escapable-in_range b (inr (inr (inr (inl e)))) = (omega arith, omega arith)
escapable-in_range b (inr (inr (inr (inr (inl e))))) = (omega arith, omega arith)
escapable-in_range b (inr (inr (inr (inr (inr (inl e)))))) = (omega arith, omega arith)
escapable-in_range b (inr (inr (inr (inr (inr (inr e)))))) = (omega arith, omega arith)

-- the bytes of a word lie in the range
class_in_range : (b : ℕ) (k : Class) → Classed b k → in_word k ≡ true → InRange b
class_in_range b Bad h t = absurd (false≢true t)
class_in_range b Space h t = absurd (false≢true t)
class_in_range b Special h t = absurd (false≢true t)
class_in_range b Letter h t = letter-in_range b h
class_in_range b Other h t = h.0

pub word-in_range : (b : ℕ) → word_byte b ≡ true → InRange b
word-in_range b t = class_in_range b (class_of b) (classed b) t
