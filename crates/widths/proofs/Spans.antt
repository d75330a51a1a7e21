-- Laws of W(i,j), the larger-of of the entries over columns i to j. Assumes nothing.
use Rattle.std.proofs.Common.{◌≡◌, ℕ, ◌&&◌, eqb, List, [], ◌∷◌, ◌++◌, ℤ, ◌≤ℤ◌, Some, None, Option, sym, refl, ap, ◌∙◌, subst, ⊎_elim, arith}
use Rattle.std.specs.List.{AllByRecursion}
use Rattle.std.proofs.lemmas.Int.{ints, clamps}
use Rattle.std.proofs.lemmas.Bool.{cond-true, cond-false, cases_Bool, and_parts, and_from, and_right, eq-eqb, eqb-true, ne_eqb}
use Rattle.std.proofs.lemmas.Option.{none-some}
use Rattle.extent.specs.Sizes.{Within}
use Rattle.widths.specs.declared.Entry.{Entry}
use Rattle.widths.specs.Merging.{join}
use Rattle.widths.specs.Entries.{asked, widest, NoneEnds}
use Rattle.widths.proofs.Options.{join-assoc, join-none, join-from, Above, join-above_left, join-above_right}
use Rattle.widths.proofs.Sizes.{WithinIf}

-- an entry asks for its width over its own columns
pub asked-own : (e : Entry ℤ) → asked e e.first e.last ≡ Some e.width
asked-own e = cond-true _ _ _ (and_from _ _ (eq-eqb e.first e.first refl) (eq-eqb e.last e.last refl))

-- and over no others
pub asked-other : (e : Entry ℤ) (i j : ℕ) → (e.first ≡ i → e.last ≡ j → ⊥) → asked e i j ≡ None
asked-other e i j h = ⊎_elim
    (λ t. let b = and_parts (eqb e.first i) (eqb e.last j) t in absurd (h (eqb-true e.first i b.0) (eqb-true e.last j b.1)))
    (λ f. cond-false (eqb e.first i && eqb e.last j) (Some e.width) None f)
    (cases_Bool (eqb e.first i && eqb e.last j))

asked-from : (P : ℤ → Type 0) (e : Entry ℤ) (i j : ℕ) (z : ℤ) → (e.first ≡ i → e.last ≡ j → P e.width) → asked e i j ≡ Some z → P z
asked-from P e i j z p h = ⊎_elim
    (λ t. let b = and_parts (eqb e.first i) (eqb e.last j) t in
    let k = cond-true (eqb e.first i && eqb e.last j) (Some e.width) None t in
    let w : e.width ≡ z = cc in
    subst P w (p (eqb-true e.first i b.0) (eqb-true e.last j b.1)))
    (λ f. absurd (none-some z (sym (cond-false (eqb e.first i && eqb e.last j) (Some e.width) None f) ∙ h)))
    (cases_Bool (eqb e.first i && eqb e.last j))

-- what W(i,j) is, some entry over i to j is
pub widest-from : (P : ℤ → Type 0) (es : List (Entry ℤ)) (i j : ℕ) (z : ℤ) → AllByRecursion (λ e. e.first ≡ i → e.last ≡ j → P e.width) es → widest es i j ≡ Some z → P z
unfolding widest
widest-from P [] i j z all h = absurd (none-some z h)
widest-from P (e ∷ es) i j z all h = join-from (asked e i j) (widest es i j) z h
    (λ here. asked-from P e i j z all.0 here)
    (λ there. widest-from P es i j z all.1 there)

self-reaches : (x : ℤ) → x ≤ℤ x
self-reaches x = omega (arith, ints)

above_in : (all es : List (Entry ℤ)) → ((x : Entry ℤ) (i j : ℕ) → Above x.width (widest es i j) → Above x.width (widest all i j)) → AllByRecursion (λ e. Above e.width (widest all e.first e.last)) es
unfolding widest
above_in all [] lift = tt
above_in all (e ∷ es) lift = (
  lift e e.first e.last (join-above_left e.width (asked e e.first e.last) (widest es e.first e.last) (record { top = e.width; is = asked-own e; reaches = self-reaches e.width })),
  above_in all es (λ x i j h. lift x i j (join-above_right x.width (asked e i j) (widest es i j) h)),
)

-- W over an entry's columns reaches its width
pub widest-above : (es : List (Entry ℤ)) → AllByRecursion (λ e. Above e.width (widest es e.first e.last)) es
widest-above es = above_in es es (λ e i j h. h)

-- where no entry ends in j, no W(i,j) is there
pub widest-none : (es : List (Entry ℤ)) (i j : ℕ) → NoneEnds j es → widest es i j ≡ None
unfolding widest
widest-none [] i j h = refl
widest-none (e ∷ es) i j h =
    let a : asked e i j ≡ None = cond-false _ _ _ (and_right (eqb e.first i) (eqb e.last j) (ne_eqb e.last j h.0)) in
    let b = widest-none es i j h.1 in cc

join-within : (b : ℕ) (x y : Option ℤ) → WithinIf b x → WithinIf b y → WithinIf b (join x y)
join-within b (Some x) (Some y) hx hy = (omega (arith, ints, clamps), omega (arith, ints, clamps))
join-within b (Some x) None hx hy = hx
join-within b None y hx hy = hy

asked-within : (b : ℕ) (e : Entry ℤ) (i j : ℕ) → Within b e.width → WithinIf b (asked e i j)
asked-within b e i j h = ⊎_elim
    (λ t. subst (WithinIf b) (sym (cond-true (eqb e.first i && eqb e.last j) (Some e.width) None t)) h)
    (λ f. subst (WithinIf b) (sym (cond-false (eqb e.first i && eqb e.last j) (Some e.width) None f)) tt)
    (cases_Bool (eqb e.first i && eqb e.last j))

pub widest-within : (b : ℕ) (es : List (Entry ℤ)) (i j : ℕ) → AllByRecursion (λ e. Within b e.width) es → WithinIf b (widest es i j)
unfolding widest
widest-within b [] i j all = tt
widest-within b (e ∷ es) i j all = join-within b (asked e i j) (widest es i j) (asked-within b e i j all.0) (widest-within b es i j all.1)

pub widest-empty : (i j : ℕ) → widest [] i j ≡ None
unfolding widest
widest-empty i j = refl

-- one entry more
pub widest-push : (es : List (Entry ℤ)) (e : Entry ℤ) (i j : ℕ) → widest (es ++ e ∷ []) i j ≡ join (widest es i j) (asked e i j)
unfolding widest
widest-push [] e i j = join-none (asked e i j)
widest-push (x ∷ es) e i j = ap (join (asked x i j)) (widest-push es e i j) ∙ join-assoc (asked x i j) (widest es i j) (asked e i j)
