-- What no refusal says. Assumes nothing.
use Rattle.std.proofs.Common.{◌≡◌, ℕ, ◌*◌, ◌<◌, ◌≤◌, true, ◌&&◌, List, [], ◌∷◌, map, length, get_or, Ok, Option, Result, sym, refl, ap, ◌∙◌, subst, arith}
use Rattle.std.specs.List.{list_all}
use Rattle.std.proofs.lemmas.Bool.Decides.{nat_tests}
use Rattle.std.proofs.lemmas.Bool.{and_parts, leb-true, ltb-true}
use Rattle.std.proofs.lemmas.List.{get_or-map, length-map}
use Rattle.std.proofs.ByRecursion.{All-get_or}
use Rattle.widths.specs.declared.Entry.{Entry}
use Rattle.widths.specs.Entries.{Proper}
use Rattle.spans.specs.declared.table.Misfit.{Misfit}
use Rattle.spans.specs.Refusals.{table_fault, span_fault, merge_fault, unless, lie, all_lie}

-- nothing is refused
abbrev pub Free : Option Misfit → Type 0
Free o = ◌≡◌ {A = Result (Unit {0}) Misfit} (Ok tt) (unless o tt)

pub record Fits (n room : ℕ) : Type 0 where
  pub some : 1 ≤ n
  pub few : n ≤ 32
  pub room_for : n * 32 ≤ room

pub table_fits : (n room : ℕ) → Free (table_fault n room) → Fits n room
table_fits n room h = record { some = grind (arith, nat_tests); few = grind (arith, nat_tests); room_for = grind (arith, nat_tests) }

pub record Lies (n room i j : ℕ) : Type 0 where
  pub fits : Fits n room
  pub forward : i ≤ j
  pub within : j < n

pub span-lies : (n room i j : ℕ) → Free (span_fault n room i j) → Lies n room i j
span-lies n room i j h =
    record { fits = record { some = grind (arith, nat_tests); few = grind (arith, nat_tests); room_for = grind (arith, nat_tests) }; forward = grind (arith, nat_tests); within = grind (arith, nat_tests) }

pub merge-fits : (n room widths gaps : ℕ) → Free (merge_fault n room widths gaps) → Fits n room
merge-fits n room widths gaps h = record { some = grind (arith, nat_tests); few = grind (arith, nat_tests); room_for = grind (arith, nat_tests) }

pub all_lie-each : {E : Type 0} (n : ℕ) (es : List (Entry E)) → all_lie n es ≡ list_all (lie n) es
all_lie-each n [] = refl
all_lie-each n (e ∷ es) = ap (λ b. lie n e && b) (all_lie-each n es)

pub lie-is : {E : Type 0} (n : ℕ) (e : Entry E) → lie n e ≡ true → (e.first ≤ e.last) × (e.last < n)
lie-is n e h = let p = and_parts _ _ h in (leb-true e.first e.last p.0, ltb-true e.last n p.1)

pub all_lie-proper : {E : Type 0} (n : ℕ) (es : List (Entry E)) → all_lie n es ≡ true → Proper n es
all_lie-proper n [] h = tt
all_lie-proper n (e ∷ es) h = let p = and_parts (lie n e) (all_lie n es) h in (lie-is n e p.0, all_lie-proper n es p.1)

-- at the entry in hand
pub proper-at : {E : Type 0} (n : ℕ) (es : List (Entry E)) (i : ℕ) (e : Entry E) → i < length es → e ≡ get_or es i e → Proper n es → (e.first ≤ e.last) × (e.last < n)
proper-at n es i e lt is h =
    subst (λ x. (x.first ≤ x.last) × (x.last < n)) (sym is) (All-get_or (λ x. (x.first ≤ x.last) × (x.last < n)) es i e lt h)

-- the entry that the record in hand stands for
pub spanned-at : {X Y : Type 0} (f : X → Y) (xs : List X) (i : ℕ) (x : X) (y : Y) → i < length xs → x ≡ get_or xs i x → y ≡ f x → (i < length (map f xs)) × (y ≡ get_or (map f xs) i y)
spanned-at f xs i x y lt is e =
    let l = length-map xs f in
    (omega arith, e ∙ ap f is ∙ sym (get_or-map f xs i x y lt))
