-- The definition of a token meets the relation, and nothing else does. Assumes nothing.
use Rattle.std.proofs.Common.{◌≡◌, ℕ, ◌+◌, ◌-◌, ◌<◌, ◌≤◌, min, Bool, true, cond, eqb, leb, List, ◌∷◌, length, get_or, take, drop, Some, None, Ok, Err, Option, Result, sym, refl, ap, ◌∙◌, subst, inl, inr, arith}
use Rattle.std.specs.List.{between, prefix_len}
use Rattle.std.proofs.lemmas.List.{at_drop_more, at_drop_all, drop_more, drop-drop, length-take}
use Rattle.std.proofs.lemmas.List.Sums.{prefix_len-drop_yes}
use Rattle.std.proofs.lemmas.Bool.{cases_Bool, cases_eq, cases_lt, cond-true, cond-false, false≢true, eq-eqb, ne_eqb, le-leb, lt-leb, leb-true, leb-false}
use Rattle.std.proofs.lemmas.Bool.Decides.{not_from_Decides}
use Rattle.faults.specs.declared.Fault.{Fault}
use Rattle.faults.specs.declared.Cause.TheVariants.{UnknownControl, WordLength}
use Rattle.faults.specs.Faults.{fault_at}
use Rattle.reader.specs.declared.classes.Class.{Class}
use Rattle.reader.specs.declared.classes.Class.TheVariants as class
use Rattle.reader.specs.declared.tokens.Control.{Control}
use Rattle.reader.specs.declared.tokens.Token.{Token}
use Rattle.reader.specs.declared.tokens.Token.TheVariants as token
use Rattle.reader.specs.declared.tokens.Lexeme.{Lexeme}
use Rattle.reader.specs.Classes.{Classed, IsSpecial, class_of}
use Rattle.reader.specs.Tokens.{in_word, in_blank, word_byte, blank_byte, name_byte, escapable, spelled, lexeme, controlled, control_word, after_backslash, word_of, mark_of, by_class, token_of, token_at}
use Rattle.reader.specs.Reads.{Stands, Passes, Escapes, IsEscapable, Longest, PlainWord, EscapedWord, Names, ControlWord, TokenIs, Unknown, TooLong, Refused, Reads}
use Rattle.reader.proofs.Ranges.{classed, decides_escapable, escapable-not_letter}
use Rattle.reader.proofs.Runs.{leading_longest, longest-is}
use Rattle.reader.proofs.Spellings.{spelled-letters, spelled-some, letters-some}

-- classes by the runs that they may stand in
word-no_slash : (b : ℕ) → word_byte b ≡ true → b ≡ 92 → ⊥
word-no_slash b h e = false≢true (ap word_byte (sym e) ∙ h)

blank-no_slash : (b : ℕ) → blank_byte b ≡ true → b ≡ 92 → ⊥
blank-no_slash b h e = false≢true (ap blank_byte (sym e) ∙ h)

bad-no_slash : (b : ℕ) → class_of b ≡ class.Bad → b ≡ 92 → ⊥
bad-no_slash b h e = let z : class.Special ≡ class.Bad = ap class_of (sym e) ∙ h in let n : ◌≡◌ {A = ℕ} 0 1 = cc in omega arith

blank-is_space : (k : Class) → in_blank k ≡ true → k ≡ class.Space
blank-is_space class.Bad h = absurd (false≢true h)
blank-is_space class.Space h = refl
blank-is_space class.Special h = absurd (false≢true h)
blank-is_space class.Letter h = absurd (false≢true h)
blank-is_space class.Other h = absurd (false≢true h)

by_word : (k : Class) (b : ℕ) (s : List ℕ) (place : ℕ) → in_word k ≡ true → by_class k b s place ≡ word_of (prefix_len word_byte s) place
by_word class.Bad b s place h = absurd (false≢true h)
by_word class.Space b s place h = absurd (false≢true h)
by_word class.Special b s place h = absurd (false≢true h)
by_word class.Letter b s place h = refl
by_word class.Other b s place h = refl

module _ (text : List ℕ) (place : ℕ) where
  -- the definition, by what stands at the place
  at-end : length text ≤ place → token_at text place ≡ lexeme token.End place
  unfolding token_at
  at-end over = at_drop_all (λ (s : List ℕ). token_of s place) text place over

  at_byte : place < length text → token_at text place ≡ cond (eqb (get_or text place 0) 92) (after_backslash (drop (place + 1) text) place) (by_class (class_of (get_or text place 0)) (get_or text place 0) (get_or text place 0 ∷ drop (place + 1) text) place)
  unfolding token_at
  at_byte lt = at_drop_more (λ (s : List ℕ). token_of s place) text place 0 lt

  at-class : (k : Class) → place < length text → (get_or text place 0 ≡ 92 → ⊥) → class_of (get_or text place 0) ≡ k → token_at text place ≡ by_class k (get_or text place 0) (drop place text) place
  at-class k lt ne is =
      at_byte lt
      ∙ (cond-false _ _ _ (ne_eqb (get_or text place 0) 92 ne)
      ∙ (ap (λ (s : List ℕ). by_class (class_of (get_or text place 0)) (get_or text place 0) s place) (sym (drop_more text place 0 lt))
      ∙ ap (λ (c : Class). by_class c (get_or text place 0) (drop place text) place) is))

  at-slash : Stands 92 text place → token_at text place ≡ after_backslash (drop (place + 1) text) place
  at-slash h = at_byte h.0 ∙ cond-true _ _ _ (eq-eqb (get_or text place 0) 92 h.1)

  at-word : Passes word_byte text place → token_at text place ≡ word_of (prefix_len word_byte (drop place text)) place
  at-word h = at-class (class_of (get_or text place 0)) h.0 (word-no_slash _ h.1) refl ∙ by_word _ (get_or text place 0) (drop place text) place h.1

  -- behind a backslash
  slash-last : length text ≤ place + 1 → after_backslash (drop (place + 1) text) place ≡ Err (fault_at UnknownControl place)
  slash-last over = at_drop_all (λ (s : List ℕ). after_backslash s place) text (place + 1) over

  slash-next : place + 1 < length text → after_backslash (drop (place + 1) text) place ≡ cond (escapable (get_or text (place + 1) 0)) (lexeme (token.Word (place + 1) 1) (place + 2)) (control_word (drop (place + 1) text) place)
  slash-next lt =
      at_drop_more (λ (s : List ℕ). after_backslash s place) text (place + 1) 0 lt
      ∙ ap (λ (s : List ℕ). cond (escapable (get_or text (place + 1) 0)) (lexeme (token.Word (place + 1) 1) (place + 2)) (control_word s place)) (sym (drop_more text (place + 1) 0 lt))

  -- the place behind the letters, the letters, and the place behind the spaces
  letters_end : ℕ
  letters_end = place + 1 + prefix_len name_byte (drop (place + 1) text)

  name : List ℕ
  name = between (place + 1) letters_end text

  spaces_behind : ℕ
  spaces_behind = letters_end + prefix_len blank_byte (drop letters_end text)

  control-at : control_word (drop (place + 1) text) place ≡ controlled (spelled name) place spaces_behind
  unfolding letters_end name spaces_behind
  control-at =
      let L : ℕ = prefix_len name_byte (drop (place + 1) text) in
      let long : L ≡ place + 1 + L - (place + 1) = omega arith in
      ap (λ (n : ℕ). controlled (spelled (take n (drop (place + 1) text))) place (place + 1 + L + prefix_len blank_byte (drop L (drop (place + 1) text)))) long
      ∙ ap (λ (s : List ℕ). controlled (spelled (between (place + 1) (place + 1 + L) text)) place (place + 1 + L + prefix_len blank_byte s)) (drop-drop L (place + 1) text)

  name-longest : Longest name_byte text (place + 1) letters_end
  unfolding letters_end
  name-longest = leading_longest name_byte text (place + 1)

  spaces-longest : Longest blank_byte text letters_end spaces_behind
  unfolding spaces_behind
  spaces-longest = leading_longest blank_byte text letters_end

  -- a control word that stands there is the one that the letters spell
  names_end : (s : ℕ) (c : Control) → Names text place s c → s ≡ letters_end
  unfolding letters_end
  names_end s c h = longest-is name_byte text (place + 1) s h.run

  names_spelled : (s : ℕ) (c : Control) → Names text place s c → spelled name ≡ Some c
  unfolding name
  names_spelled s c h = ap spelled (ap (λ (e : ℕ). between (place + 1) e text) (sym (names_end s c h)) ∙ h.spells) ∙ spelled-letters c

  names_letter : (s : ℕ) (c : Control) → Names text place s c → Passes name_byte text (place + 1)
  names_letter s c h =
      let long : 1 ≤ min (s - (place + 1)) (length (drop (place + 1) text)) = subst (λ (n : ℕ). 1 ≤ n) (sym (ap length h.spells) ∙ length-take (s - (place + 1)) (drop (place + 1) text)) (letters-some c) in
      h.run.all (place + 1) (omega arith) (omega arith)

  -- a byte that passes begins a run of one or more
  leading_some : (p : ℕ → Bool) → Passes p text place → 1 ≤ prefix_len p (drop place text)
  leading_some p h = omega (arith, prefix_len-drop_yes p text place 0 h.0 h.1)

  word-reads : Passes word_byte text place → Reads text place (word_of (prefix_len word_byte (drop place text)) place)
  word-reads h =
      let n : ℕ = prefix_len word_byte (drop place text) in
      let some : 1 ≤ n = leading_some word_byte h in
      elim (cases_Bool (leb n 255)) [
        | inl t ↦ subst (Reads text place) (sym (cond-true _ _ _ t))
            (inl (record { here = refl; some = some; few = leb-true n 255 t; run = leading_longest word_byte text place; behind = refl }))
        | inr t ↦ subst (Reads text place) (sym (cond-false _ _ _ t))
            (inr (inr (refl, (place + n, leading_longest word_byte text place, omega (arith, leb-false n 255 t)))))
      ]

  mark-reads : place < length text → (get_or text place 0 ≡ 92 → ⊥) → IsSpecial (get_or text place 0) → Reads text place (lexeme (mark_of (get_or text place 0)) (place + 1))
  mark-reads lt ne (inl e) = absurd (ne e)
  mark-reads lt ne (inr (inl e)) = subst (λ (b : ℕ). Reads text place (lexeme (mark_of b) (place + 1))) (sym e) ((lt, e), refl)
  mark-reads lt ne (inr (inr (inl e))) = subst (λ (b : ℕ). Reads text place (lexeme (mark_of b) (place + 1))) (sym e) ((lt, e), refl)
  mark-reads lt ne (inr (inr (inr (inl e)))) = subst (λ (b : ℕ). Reads text place (lexeme (mark_of b) (place + 1))) (sym e) ((lt, e), refl)
  mark-reads lt ne (inr (inr (inr (inr e)))) = subst (λ (b : ℕ). Reads text place (lexeme (mark_of b) (place + 1))) (sym e) ((lt, e), refl)

  class_reads : (k : Class) → place < length text → (get_or text place 0 ≡ 92 → ⊥) → class_of (get_or text place 0) ≡ k → Reads text place (by_class k (get_or text place 0) (drop place text) place)
  class_reads class.Bad lt ne is = inl (refl, (lt, is))
  class_reads class.Space lt ne is = (omega (arith, leading_some blank_byte (lt, ap in_blank is)), leading_longest blank_byte text place)
  class_reads class.Special lt ne is = mark-reads lt ne (subst (Classed (get_or text place 0)) is (classed (get_or text place 0)))
  class_reads class.Letter lt ne is = word-reads (lt, ap in_word is)
  class_reads class.Other lt ne is = word-reads (lt, ap in_word is)

  control-reads : (o : Option Control) → Stands 92 text place → (Escapes text (place + 1) → ⊥) → spelled name ≡ o → Reads text place (controlled o place spaces_behind)
  unfolding name
  control-reads (Some c) h bare is = (letters_end, record { slash = h; run = name-longest; spells = spelled-some name c is }, spaces-longest)
  control-reads None h bare is = inr (inl (refl, record { slash = h; bare = bare; nameless = λ s c nm. unnamed s c nm })) where
    unnamed : (s : ℕ) (c : Control) → Names text place s c → ⊥
    unnamed s c nm = let z : Some c ≡ None = sym (names_spelled s c nm) ∙ is in let n : ◌≡◌ {A = ℕ} 0 1 = cc in omega arith

  last-reads : Stands 92 text place → length text ≤ place + 1 → Refused text place (fault_at UnknownControl place)
  last-reads h over = inr (inl (refl, record { slash = h; bare = λ x. omega (arith, x.0); nameless = λ s c nm. omega (arith, (names_letter s c nm).0) }))

  slash-reads : Stands 92 text place → Reads text place (after_backslash (drop (place + 1) text) place)
  slash-reads h =
      elim (cases_lt (place + 1) (length text)) [
        | inr over ↦ subst (Reads text place) (sym (slash-last over)) (last-reads h over)
        | inl lt ↦ subst (Reads text place) (sym (slash-next lt)) (elim (cases_Bool (escapable (get_or text (place + 1) 0))) [
          | inl t ↦ subst (Reads text place) (sym (cond-true _ _ _ t)) (inr (record { slash = h; byte = (lt, (decides_escapable _).0 t); here = refl; one = refl; behind = refl }))
          | inr t ↦ subst (Reads text place) (sym (cond-false _ _ _ t ∙ control-at)) (control-reads (spelled name) h (λ x. not_from_Decides _ (decides_escapable (get_or text (place + 1) 0)) t x.1) refl)
        ])
      ]

  -- what the definition gives is what is read
  pub reads : Reads text place (token_at text place)
  reads =
      elim (cases_lt place (length text)) [
        | inr over ↦ subst (Reads text place) (sym (at-end over)) (over, refl)
        | inl lt ↦ elim (cases_eq (get_or text place 0) 92) [
          | inl e ↦ subst (Reads text place) (sym (at-slash (lt, e))) (slash-reads (lt, e))
          | inr ne ↦ subst (Reads text place) (sym (at-class _ lt ne refl)) (class_reads _ lt ne refl)
        ]
      ]

  -- each case of the relation is what the definition gives
  longest-first : (p : ℕ → Bool) (e : ℕ) → place < e → Longest p text place e → Passes p text place
  longest-first p e lt h = h.all place (omega arith) lt

  plain-is : (w n e : ℕ) → PlainWord text place w n e → lexeme (token.Word w n) e ≡ token_at text place
  plain-is w n e h =
      let m : ℕ = prefix_len word_byte (drop place text) in
      let far : place + n ≡ place + m = longest-is word_byte text place (place + n) h.run in
      let same : n ≡ m = omega arith in
      let first : Passes word_byte text place = longest-first word_byte (place + n) (omega (arith, h.some)) h.run in
      ap (λ (v : ℕ). lexeme (token.Word v n) e) h.here
      ∙ (ap (lexeme (token.Word place n)) h.behind
      ∙ (sym (cond-true _ _ _ (le-leb n 255 h.few)) ∙ (ap (λ (k : ℕ). word_of k place) same ∙ sym (at-word first))))

  escaped_is : (w n e : ℕ) → EscapedWord text place w n e → lexeme (token.Word w n) e ≡ token_at text place
  escaped_is w n e h =
      ap (λ (v : ℕ). lexeme (token.Word v n) e) h.here
      ∙ (ap (λ (v : ℕ). lexeme (token.Word (place + 1) v) e) h.one
      ∙ (ap (lexeme (token.Word (place + 1) 1)) h.behind
      ∙ sym (at-slash h.slash ∙ (slash-next h.byte.0 ∙ cond-true _ _ _ ((decides_escapable (get_or text (place + 1) 0)).1 h.byte.1)))))

  -- a backslash whose next byte is not escaped
  slash-control : Stands 92 text place → place + 1 < length text → (IsEscapable (get_or text (place + 1) 0) → ⊥) → token_at text place ≡ controlled (spelled name) place spaces_behind
  slash-control h lt bare =
      elim (cases_Bool (escapable (get_or text (place + 1) 0))) [
        | inl t ↦ absurd (bare ((decides_escapable (get_or text (place + 1) 0)).0 t))
        | inr t ↦ at-slash h ∙ (slash-next lt ∙ (cond-false _ _ _ t ∙ control-at))
      ]

  control-is : (c : Control) (e : ℕ) → ControlWord text place e c → lexeme (token.Control c) e ≡ token_at text place
  unfolding spaces_behind
  control-is c e h =
      let s : ℕ = h.0 in
      let letter : Passes name_byte text (place + 1) = names_letter s c h.1 in
      let far : e ≡ spaces_behind = longest-is blank_byte text s e h.2 ∙ ap (λ (k : ℕ). k + prefix_len blank_byte (drop k text)) (names_end s c h.1) in
      ap (lexeme (token.Control c)) far
      ∙ sym (slash-control h.1.slash letter.0 (escapable-not_letter (get_or text (place + 1) 0) letter.1) ∙ ap (λ (o : Option Control). controlled o place spaces_behind) (names_spelled s c h.1))

  mark-is : (b : ℕ) (t : Token) (e : ℕ) → (b ≡ 92 → ⊥) → class_of b ≡ class.Special → mark_of b ≡ t → Stands b text place → e ≡ place + 1 → lexeme t e ≡ token_at text place
  mark-is b t e ne special mark h far =
      ap (lexeme t) far
      ∙ (ap (λ (u : Token). lexeme u (place + 1)) (sym (ap mark_of h.1 ∙ mark))
      ∙ sym (at-class class.Special h.0 (λ (x : get_or text place 0 ≡ 92). ne (sym h.1 ∙ x)) (ap class_of h.1 ∙ special)))

  token-is : (t : Token) (e : ℕ) → TokenIs text place e t → lexeme t e ≡ token_at text place
  token-is token.End e h = ap (lexeme token.End) h.1 ∙ sym (at-end h.0)
  token-is token.Space e h =
      let first : Passes blank_byte text place = longest-first blank_byte e h.0 h.1 in
      ap (lexeme token.Space) (longest-is blank_byte text place e h.1)
      ∙ sym (at-class class.Space first.0 (blank-no_slash _ first.1) (blank-is_space _ first.1))
  token-is (token.Word w n) e (inl h) = plain-is w n e h
  token-is (token.Word w n) e (inr h) = escaped_is w n e h
  token-is (token.Control c) e h = control-is c e h
  token-is token.Ampersand e h = mark-is 38 token.Ampersand e (λ x. omega arith) refl refl h.0 h.1
  token-is token.Hash e h = mark-is 35 token.Hash e (λ x. omega arith) refl refl h.0 h.1
  token-is token.OpenBrace e h = mark-is 123 token.OpenBrace e (λ x. omega arith) refl refl h.0 h.1
  token-is token.CloseBrace e h = mark-is 125 token.CloseBrace e (λ x. omega arith) refl refl h.0 h.1

  unknown-none : Unknown text place → (o : Option Control) → spelled name ≡ o → Err (fault_at UnknownControl place) ≡ controlled o place spaces_behind
  unfolding name
  unknown-none h None is = refl
  unknown-none h (Some c) is = absurd (h.nameless letters_end c (record { slash = h.slash; run = name-longest; spells = spelled-some name c is }))

  unknown-is : Unknown text place → Err (fault_at UnknownControl place) ≡ token_at text place
  unknown-is h =
      elim (cases_lt (place + 1) (length text)) [
        | inr over ↦ sym (at-slash h.slash ∙ slash-last over)
        | inl lt ↦ unknown-none h (spelled name) refl ∙ sym (slash-control h.slash lt (λ t. h.bare (lt, t)))
      ]

  long-is : TooLong text place → Err (fault_at WordLength place) ≡ token_at text place
  long-is h =
      let m : ℕ = prefix_len word_byte (drop place text) in
      let far : h.0 ≡ place + m = longest-is word_byte text place h.0 h.1 in
      let more : 255 < m = omega (arith, h.2) in
      let first : Passes word_byte text place = longest-first word_byte h.0 (omega (arith, h.2)) h.1 in
      sym (at-word first ∙ cond-false _ _ _ (lt-leb m 255 more))

  -- nothing else is read
  pub reads-one : (r : Result Lexeme Fault) → Reads text place r → r ≡ token_at text place
  reads-one (Ok l) h = token-is l.token l.end h
  reads-one (Err f) (inl h) = ap Err h.0 ∙ sym (at-class class.Bad h.1.0 (bad-no_slash _ h.1.1) h.1.1)
  reads-one (Err f) (inr (inl h)) = ap Err h.0 ∙ unknown-is h.1
  reads-one (Err f) (inr (inr h)) = ap Err h.0 ∙ long-is h.1
