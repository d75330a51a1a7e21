-- What stands for a preamble that is refused. Assumes nothing.
use Rattle.std.proofs.Common.{◌≡◌, ℕ, zero, suc, ◌<◌, ◌≤◌, List, [], ◌∷◌, map, length, get_or, take, set, ℤ, pos, sym, refl, ap, ◌∙◌, subst, arith}
use Rattle.std.proofs.lemmas.Int.{ints}
use Rattle.extent.specs.Sizes.{Within}
use Rattle.lengths.specs.Gaps.{Parts, parts_of}
use Rattle.ledger.specs.declared.records.ColumnRecord.{ColumnRecord}
use Rattle.ledger.specs.declared.records.Owed.{Owed}
use Rattle.ledger.specs.Chunks.{chunks, total}
use Rattle.ledger.specs.Ledger.{Item}
use Rattle.ledger.specs.Calls.{Template, template_at}
use Rattle.ledger.specs.Naturals.{natural}
use Rattle.templates.specs.declared.memory.Templates.{Templates}
use Rattle.templates.specs.declared.memory.Read.{Read}
use Rattle.templates.specs.Readings.{templates_in, template_by, gap_by, empty_with}
use Rattle.templates.specs.Kept.{Lies, Widths}
use Rattle.table.specs.Making.{Shaped, no_gap}

pub first-set : {X : Type 0} (xs : List X) (y : X) → 0 < length xs → take 1 (set xs 0 y) ≡ y ∷ []
first-set [] y h = absurd (omega arith)
first-set (x ∷ xs) y h = refl

first_of : {X : Type 0} (xs : List X) (y d : X) → take 1 xs ≡ y ∷ [] → get_or xs 0 d ≡ y
first_of [] y d e = cc
first_of (x ∷ xs) y d e = cc

some-first : {X : Type 0} (xs : List X) (y : X) → take 1 xs ≡ y ∷ [] → 1 ≤ length xs
some-first [] y e = cc
some-first (x ∷ xs) y e = omega arith

abbrev bare : Read
bare = record { columns = 1; pieces = 0; bytes = 0 }

abbrev empty : Template
empty = record { u = []; v = [] }

module _ {E : Type 0} (text : List ℕ) (t : Templates E) (w : Owed E) (cs : take 1 t.columns ≡ empty_with 0 w t.start ∷ []) where
  blank-templates : templates_in (take 0 text) 0 1 t ≡ empty ∷ []
  unfolding chunks
  blank-templates = ap (λ (xs : List (ColumnRecord E)). map (template_by (take 0 text) (take 0 t.pieces)) xs) cs

  first-is : (c : ℕ) (e : ColumnRecord E) → c < 1 → get_or t.columns c e ≡ empty_with 0 w t.start
  first-is c e lt = let z : c ≡ 0 = omega arith in ap (λ (i : ℕ). get_or t.columns i e) z ∙ first_of t.columns (empty_with 0 w t.start) e cs

  pub blank-shaped : parts_of t.start ≡ no_gap → Shaped text t bare (empty ∷ []) (no_gap ∷ no_gap ∷ [])
  unfolding total
  blank-shaped gap = record {
    lying = record {
      some = omega arith;
      few = omega arith;
      room = omega arith;
      inside = omega arith;
      columns = λ c e lt. subst (λ (x : ColumnRecord E). Lies 0 x.template) (sym (first-is c e lt)) (record { within = omega arith; few-u = omega arith; few-v = omega arith });
      bare = refl;
      long-columns = some-first t.columns (empty_with 0 w t.start) cs;
      long-pieces = omega arith;
    };
    templates = blank-templates;
    gaps = ap (λ (xs : List (ColumnRecord E)). parts_of t.start ∷ map gap_by xs) cs ∙ ap (λ (g : Parts). g ∷ g ∷ []) gap;
  }

  u-none : (wide : Item → ℕ → ℤ) (c k : ℕ) → natural wide (template_at (empty ∷ []) c).u k ≡ pos 0
  unfolding natural
  u-none wide zero k = refl
  u-none wide (suc c) k = refl

  v-none : (wide : Item → ℕ → ℤ) (c k : ℕ) → natural wide (template_at (empty ∷ []) c).v k ≡ pos 0
  unfolding natural
  v-none wide zero k = refl
  v-none wide (suc c) k = refl

  zero-within : (z : ℤ) → z ≡ pos 0 → Within 68719476736 z
  zero-within z e = (omega (arith, ints), omega (arith, ints))

  pub blank-widths : (count : ℕ) (num : E → ℕ → ℤ) (wide : Item → ℕ → ℤ) → ((k : ℕ) → k < count → (num w.u k ≡ pos 0) × (num w.v k ≡ pos 0)) → Widths count num wide text t bare
  blank-widths count num wide zeros =
      let is-u : (c k : ℕ) → natural wide (template_at (templates_in (take 0 text) 0 1 t) c).u k ≡ pos 0 = λ c k. ap (λ (ts : List Template). natural wide (template_at ts c).u k) blank-templates ∙ u-none wide c k in
      let is-v : (c k : ℕ) → natural wide (template_at (templates_in (take 0 text) 0 1 t) c).v k ≡ pos 0 = λ c k. ap (λ (ts : List Template). natural wide (template_at ts c).v k) blank-templates ∙ v-none wide c k in
      record {
        us = λ c k e kc lt. ap (λ (x : ColumnRecord E). num x.widths.u k) (first-is c e lt) ∙ (zeros k kc).0 ∙ sym (is-u c k);
        vs = λ c k e kc lt. ap (λ (x : ColumnRecord E). num x.widths.v k) (first-is c e lt) ∙ (zeros k kc).1 ∙ sym (is-v c k);
        small_u = λ c k kc. zero-within _ (is-u c k);
        small_v = λ c k kc. zero-within _ (is-v c k);
      }
