use Rattle.std.proofs.Common.{◌≡◌, ℕ, ◌+◌, ◌*◌, ◌≢◌, get_or, set, None, sym, ap, ◌∙◌, subst, ⊎_elim, arith}
use Rattle.std.proofs.lemmas.List.{get_or-set_same, get_or-set_other, get_or_read}
use Rattle.std.proofs.lemmas.Bool.{cases_eq}
use Rattle.extent.specs.Sizes.{Near}
use Rattle.widths.specs.Merging.{seen, size}
use Rattle.spans.specs.Tables.{cell}
use Rattle.spans.proofs.table.SpanTable.carry_row.Goals as goal

pub loop-j-preserved : goal.loop-j-preserved
loop-j-preserved g c =
    let m = g.E.Extent in
    let ws = c.loop-j.row in
    let old = c.args.row.now in
    let j = c.loop-j.j in
    let x = c.joined.result in
    let other : (i : ℕ) → i ≢ j → get_or (set ws j x) i None ≡ get_or ws i None = λ i ne. get_or-set_other ws j i x None ne in
    let here : get_or (set ws j x) j None ≡ x = get_or-set_same ws j x None (omega arith) in
    let was : c.index-row-j.result ≡ get_or old j None =
    get_or_read ws j c.index-row-j.result (omega arith) c.index-row-j.is None ∙ c.loop-j.invariant.1 j (omega arith) in
    let below = c.args.self.now.cells.now in
    let at : c.index-self-q.result ≡ cell below (c.args.q + 1) j = get_or_read below ((c.args.q + 1) * 32 + j) c.index-self-q.result (omega arith) c.index-self-q.is None in (
      (λ i h. other i (omega arith) ∙ c.loop-j.invariant.0 i h),
      (λ i h. other i (omega arith) ∙ c.loop-j.invariant.1 i (omega arith)),
      (λ k i kc qi ij near by. ⊎_elim
          (λ e.
          let near' : Near (size (seen m.num k c.index-row-j.result)) = subst (λ v. Near (size (seen m.num k v))) (ap (λ n. get_or old n None) e ∙ sym was) near in
          let a = c.lessened.ensures k kc near' by in
          let b = c.joined.ensures k kc in
          cc)
          (λ ne. ap (seen m.num k) (other i ne) ∙ c.loop-j.invariant.2 k i kc qi (omega arith) near by)
          (cases_eq i j)),
    )
