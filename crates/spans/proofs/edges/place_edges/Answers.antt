use Rattle.std.proofs.Common.{◌≡◌, ℕ, ◌+◌, ◌<◌, get_or, take, set, ℤ, pos, ◌+ℤ◌, Some, None, Option, sym, ap, ◌∙◌, subst, ⊎_elim, add-one, arith, w64, SFits, rules}
use Rattle.std.proofs.lemmas.Int.{to_z-of_z, ints}
use Rattle.std.proofs.lemmas.List.{get_or-set_same, get_or-set_other, get_or_read, get_or-take, length-take-le}
use Rattle.std.proofs.lemmas.Bool.{cases_eq}
use Rattle.extent.specs.Sizes.{Near}
use Rattle.widths.specs.Merging.{seen, size, counted}
use Rattle.widths.specs.Formula.{moves, edge, natural}
use Rattle.widths.proofs.Sums.{between_none, between_more}
use Rattle.spans.specs.Tables.{column, starting, after, SizedOn}
use Rattle.spans.proofs.edges.place_edges.Goals as goal

natural-none : (start : ℤ) (w : ℕ → Option ℤ) (g : ℕ → ℤ) → start ≡ natural start w g 0
natural-none start w g = let e = between_none (moves w g) 0 in omega (arith, ints)

natural-more : (start : ℤ) (w : ℕ → Option ℤ) (g : ℕ → ℤ) (j : ℕ) → edge start w g j +ℤ counted (w j) (g j) ≡ natural start w g (j + 1)
natural-more start w g j = subst (λ n. edge start w g j +ℤ counted (w j) (g j) ≡ natural start w g n) (sym (add-one j)) (let e = between_more (moves w g) 0 j (omega arith) in omega (arith, ints))

edge-from : (start : ℤ) (w : ℕ → Option ℤ) (g : ℕ → ℤ) (j : ℕ) → natural start w g j +ℤ size (w j) ≡ edge start w g j
edge-from start w g j = omega (arith, ints)

near-counted : (o : Option ℤ) (z : ℤ) → Near z → Near (counted o z)
near-counted (Some w) z h = h
near-counted None z h = (omega (arith, ints), omega (arith, ints))

pub loop-j-init : goal.loop-j-init
loop-j-init g c =
    let m = g.E.Extent in
    let gaps = c.args.gaps.now in
    let gap : ℤ = get_or gaps 0 (pos 0) in
    let fits : SFits w64 gap = search rules in (
      (λ k kc sized. c.enter-left.ensures k kc ∙ ap (m.entered k) (to_z-of_z w64 gap fits)
          ∙ natural-none (starting m.entered k gaps) (column m.num k c.args.widths.now) (after m.entered k gaps)),
      (λ k kc sized i d lt. absurd (omega arith)),
      search rules,
    )

pub loop-j-preserved : goal.loop-j-preserved
loop-j-preserved g c =
    let m = g.E.Extent in
    let gaps = c.args.gaps.now in
    let ws = c.args.widths.now in
    let j = c.loop-j.j in
    let x = c.width-item.result in
    let len = length-take-le c.args.columns ws c.requires.0 in
    let below : j < c.args.columns = omega arith in
    let gap : ℤ = get_or gaps (j + 1) (pos 0) in
    let fits : SFits w64 gap = search rules in
    let is : x ≡ get_or ws j None = get_or_read (take c.args.columns ws) j x c.loop-j-test.true c.width-item.is None ∙ get_or-take c.args.columns ws j None below in
    let stored = set c.loop-j.edges j c.sum-right.result in
    let right_is : (k : ℕ) → k < m.count → SizedOn m.num m.entered k gaps c.args.columns ws → m.num c.sum-right.result k ≡ edge (starting m.entered k gaps) (column m.num k ws) (after m.entered k gaps) j =
    λ k kc sized.
    let a = c.loop-j.invariant.0 k kc sized in
    let b : m.num c.width_counted.result k ≡ size (column m.num k ws j) = c.width_counted.ensures k kc ∙ ap (λ o. size (seen m.num k o)) is in
    c.sum-right.ensures k kc (subst Near (sym a) (sized.sums j (omega arith))) (subst Near (sym b) (sized.widths j (omega arith)))
    ∙ ap (λ z. z +ℤ m.num c.width_counted.result k) a ∙ ap (λ z. natural (starting m.entered k gaps) (column m.num k ws) (after m.entered k gaps) j +ℤ z) b
    ∙ edge-from (starting m.entered k gaps) (column m.num k ws) (after m.entered k gaps) j in (
      (λ k kc sized.
          let a = right_is k kc sized in
          let e : m.num c.enter.result k ≡ after m.entered k gaps j = c.enter.ensures k kc ∙ ap (m.entered k) (to_z-of_z w64 gap fits) in
          let b : m.num c.gap_counted.result k ≡ counted (column m.num k ws j) (after m.entered k gaps j) =
          c.gap_counted.ensures k kc ∙ ap (λ o. counted (seen m.num k o) (m.num c.enter.result k)) is ∙ ap (counted (column m.num k ws j)) e in
          c.sum-left.ensures k kc (subst Near (sym a) (sized.edges j (omega arith))) (subst Near (sym b) (near-counted (column m.num k ws j) (after m.entered k gaps j) (sized.gaps j)))
          ∙ ap (λ z. z +ℤ m.num c.gap_counted.result k) a ∙ ap (λ z. edge (starting m.entered k gaps) (column m.num k ws) (after m.entered k gaps) j +ℤ z) b
          ∙ natural-more (starting m.entered k gaps) (column m.num k ws) (after m.entered k gaps) j),
      (λ k kc sized i d lt. ⊎_elim
          (λ here. subst (λ n. m.num (get_or stored n d) k ≡ edge (starting m.entered k gaps) (column m.num k ws) (after m.entered k gaps) n) (sym here)
          (ap (λ v. m.num v k) (get_or-set_same c.loop-j.edges j c.sum-right.result d (omega arith)) ∙ right_is k kc sized))
          (λ ne. ap (λ v. m.num v k) (get_or-set_other c.loop-j.edges j i c.sum-right.result d ne) ∙ c.loop-j.invariant.1 k kc sized i d (omega arith))
          (cases_eq i j)),
      (λ i d h. get_or-set_other c.loop-j.edges j i c.sum-right.result d (omega arith) ∙ c.loop-j.invariant.2 i d (omega arith)),
    )
