-- What stands behind a backslash, where no byte is escaped: nothing, no letter, or letters. Assumes nothing.
use Rattle.std.proofs.Common.{◌≡◌, ℕ, suc, ◌+◌, ◌<◌, ◌≤◌, true, false, List, [], ◌∷◌, take, Err, Option, Result, length, get_or, drop, sym, refl, ap, ◌∙◌, one-add, arith}
use Rattle.std.specs.List.{prefix_len}
use Rattle.std.proofs.lemmas.Bool.{cond-true, cond-false}
use Rattle.faults.specs.declared.Fault.{Fault}
use Rattle.faults.specs.declared.Cause.TheVariants.{UnknownControl}
use Rattle.faults.specs.Faults.{fault_at}
use Rattle.reader.specs.declared.tokens.Control.{Control}
use Rattle.reader.specs.declared.tokens.Lexeme.{Lexeme}
use Rattle.reader.specs.Tokens.{blank_byte, name_byte, escapable, spelled, first_spelled, controlled, control_word, after_backslash}

pub unescaped : (s : List ℕ) (place : ℕ) → (0 < length s → escapable (get_or s 0 0) ≡ false) → control_word s place ≡ after_backslash s place
unfolding spelled first_spelled
unescaped [] place h = refl
unescaped (b ∷ bs) place h = sym (cond-false _ _ _ (h (omega arith)))

pub nothing_left : (s : List ℕ) (place : ℕ) → length s < 2 → Err (fault_at UnknownControl place) ≡ control_word (drop 1 s) place
unfolding spelled first_spelled
nothing_left [] place few = refl
nothing_left (a ∷ []) place few = refl
nothing_left (a ∷ b ∷ bs) place few = absurd (omega arith)

-- the control word of the first m bytes
named : List ℕ → ℕ → ℕ → Result Lexeme Fault
named bs place m = controlled (spelled (take m bs)) place (place + 1 + m + prefix_len blank_byte (drop m bs))

module _ (b : ℕ) (bs : List ℕ) (place : ℕ) where
  letters-more : name_byte b ≡ true → control_word (b ∷ bs) place ≡ named (b ∷ bs) place (suc (prefix_len name_byte bs))
  unfolding named
  letters-more t = ap (named (b ∷ bs) place) (cond-true (name_byte b) (1 + prefix_len name_byte bs) 0 t ∙ one-add (prefix_len name_byte bs))

  -- no letter stands there
  pub control-none : name_byte b ≡ false → control_word (b ∷ bs) place ≡ Err (fault_at UnknownControl place)
  unfolding named spelled first_spelled
  control-none t = ap (named (b ∷ bs) place) (cond-false (name_byte b) (1 + prefix_len name_byte bs) 0 t)

  module _ (more behind : List ℕ) (n : ℕ) (letter : name_byte b ≡ true) (all : n ≡ prefix_len name_byte bs) (front : more ≡ take n bs) (back : behind ≡ drop n bs) where
    -- what the letters spell, if anything
    pub control-some : (o : Option Control) (m : ℕ) → o ≡ spelled (b ∷ more) → m ≡ prefix_len blank_byte behind → controlled o place (place + 2 + n + m) ≡ control_word (b ∷ bs) place
    unfolding named
    control-some o m is spaces =
        let L : ℕ = prefix_len name_byte bs in
        let name : more ≡ take L bs = front ∙ ap (λ (k : ℕ). take k bs) all in
        let gap : m ≡ prefix_len blank_byte (drop L bs) = spaces ∙ ap (prefix_len blank_byte) (back ∙ ap (λ (k : ℕ). drop k bs) all) in
        let far : place + 2 + n + m ≡ place + 1 + suc L + prefix_len blank_byte (drop L bs) = omega arith in
        ap (λ (p : Option Control). controlled p place (place + 2 + n + m)) (is ∙ ap (λ (l : List ℕ). spelled (b ∷ l)) name)
        ∙ (ap (controlled (spelled (b ∷ take L bs)) place) far ∙ sym (letters-more letter))

-- the same of a text whose first byte is the backslash
pub no_letter : (s : List ℕ) (place : ℕ) → 2 ≤ length s → name_byte (get_or s 1 0) ≡ false → Err (fault_at UnknownControl place) ≡ control_word (drop 1 s) place
no_letter [] place some other = absurd (omega arith)
no_letter (a ∷ []) place some other = absurd (omega arith)
no_letter (a ∷ b ∷ bs) place some other = sym (control-none b bs place other)

pub lettered : (s : List ℕ) (place : ℕ) → 2 ≤ length s → name_byte (get_or s 1 0) ≡ true
    → (more behind : List ℕ) (n m : ℕ) (o : Option Control) → n ≡ prefix_len name_byte (drop 2 s) → more ≡ take n (drop 2 s) → length more ≡ n → behind ≡ drop n (drop 2 s)
    → o ≡ spelled (get_or s 1 0 ∷ more) → m ≡ prefix_len blank_byte behind → controlled o place (place + 2 + length more + m) ≡ control_word (drop 1 s) place
lettered [] place some letter more behind n m o all front long back is spaces = absurd (omega arith)
lettered (a ∷ []) place some letter more behind n m o all front long back is spaces = absurd (omega arith)
lettered (a ∷ b ∷ bs) place some letter more behind n m o all front long back is spaces =
    ap (λ (k : ℕ). controlled o place (place + 2 + k + m)) long ∙ control-some b bs place more behind n letter all front back o m is spaces
