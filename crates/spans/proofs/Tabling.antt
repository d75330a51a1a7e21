-- Entries noted in a table, over plain lists. Assumes nothing.
use Rattle.std.proofs.Common.{◌≡◌, ℕ, ◌+◌, ◌*◌, ◌<◌, ◌≤◌, List, [], ◌∷◌, ◌++◌, get_or, ℤ, Some, None, Option, sym, ap, ◌∙◌, subst, ⊎_elim, arith}
use Rattle.std.proofs.lemmas.List.{map-append}
use Rattle.std.proofs.ByRecursion.{All-push, All-map}
use Rattle.std.proofs.lemmas.Bool.{cases_eq}
use Rattle.widths.specs.declared.Entry.{Entry}
use Rattle.widths.specs.Merging.{seen, join}
use Rattle.widths.specs.Entries.{asked, widest, sided, on_side, Proper}
use Rattle.widths.proofs.Options.{join-none}
use Rattle.widths.proofs.Spans.{asked-own, asked-other, widest-push, widest-empty}
use Rattle.spans.specs.Tables.{cell, Tabled}

pub tabled_none : {E : Type 0} (count : ℕ) (num : E → ℕ → ℤ) (n : ℕ) (table : List (Option E)) → n ≤ 32 → ((p : ℕ) → p < n * 32 → get_or table p None ≡ None) → Tabled count num n table []
tabled_none count num n table few empty =
    record { proper = tt; widths = λ k i j kc ij jc. ap (seen num k) (empty (i * 32 + j) (omega arith)) ∙ sym (widest-empty i j) }

module _ {E : Type 0} (count : ℕ) (num : E → ℕ → ℤ) (n : ℕ) (old new : List (Option E)) (e : Entry E) (few : n ≤ 32) (forward : e.first ≤ e.last) (within : e.last < n)
    (here : (k : ℕ) → k < count → seen num k (cell new e.first e.last) ≡ join (seen num k (cell old e.first e.last)) (Some (num e.width k)))
    (others : (p : ℕ) → (p ≡ e.first * 32 + e.last → ⊥) → get_or new p None ≡ get_or old p None) where
  cell-after : (k i j : ℕ) → k < count → i ≤ j → j < n → seen num k (cell new i j) ≡ join (seen num k (cell old i j)) (asked (sided num k e) i j)
  cell-after k i j kc ij jc =
      let elsewhere : (e.first ≡ i → e.last ≡ j → ⊥) → seen num k (cell new i j) ≡ join (seen num k (cell old i j)) (asked (sided num k e) i j) = λ ne.
      let place : (i * 32 + j ≡ e.first * 32 + e.last → ⊥) = λ eq. ne (omega arith) (omega arith) in
      ap (seen num k) (others (i * 32 + j) place) ∙ sym (ap (join (seen num k (cell old i j))) (asked-other (sided num k e) i j ne) ∙ join-none (seen num k (cell old i j))) in
      ⊎_elim
      (λ fi. ⊎_elim
      (λ la. subst (λ a. seen num k (cell new a j) ≡ join (seen num k (cell old a j)) (asked (sided num k e) a j)) fi
      (subst (λ b. seen num k (cell new e.first b) ≡ join (seen num k (cell old e.first b)) (asked (sided num k e) e.first b)) la
      (here k kc ∙ ap (join (seen num k (cell old e.first e.last))) (sym (asked-own (sided num k e))))))
      (λ ne. elsewhere (λ _ la. ne la))
      (cases_eq e.last j))
      (λ ne. elsewhere (λ fi _. ne fi))
      (cases_eq e.first i)

  pub tabled_push : (es : List (Entry E)) → Tabled count num n old es → Tabled count num n new (es ++ e ∷ [])
  tabled_push es t =
      record {
        proper = All-push (λ x. (x.first ≤ x.last) × (x.last < n)) es e t.proper (forward, within);
        widths = λ k i j kc ij jc. cell-after k i j kc ij jc ∙ ap (λ o. join o (asked (sided num k e) i j)) (t.widths k i j kc ij jc)
            ∙ sym (widest-push (on_side num k es) (sided num k e) i j) ∙ ap (λ xs. widest xs i j) (sym (map-append (sided num k) es (e ∷ [])));
      }

-- entries lie where they lie on every side
pub proper-on : {E : Type 0} (num : E → ℕ → ℤ) (k n : ℕ) (es : List (Entry E)) → Proper n es → Proper n (on_side num k es)
proper-on num k n es h = All-map (λ x. (x.first ≤ x.last) × (x.last < n)) (sided num k) es h
