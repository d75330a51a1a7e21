use Rattle.std.proofs.Common.{◌≡◌, ℕ, ◌+◌, ◌≤◌, min, get_or, ℤ, pos, None, Option, sym, ap, ◌∙◌, subst, ⊎_elim, zero-add, arith, w64, SFits, rules}
use Rattle.std.proofs.lemmas.Int.{to_z-of_z, ints}
use Rattle.std.proofs.lemmas.List.{get_or_read}
use Rattle.std.proofs.lemmas.Bool.{cases_lt}
use Rattle.extent.specs.Sizes.{Near, Within}
use Rattle.widths.specs.Merging.{seen, less, join, size, step, row}
use Rattle.widths.specs.Entries.{widest, on_side}
use Rattle.widths.proofs.Sizes.{WithinIf, row_near, step-near}
use Rattle.widths.proofs.Merges.{row-start, row-turn}
use Rattle.widths.proofs.Spans.{widest-within}
use Rattle.spans.specs.Tables.{cell, after, column}
use Rattle.spans.proofs.table.SpanTable.merge_rows.Goals as goal

wider : (z : ℤ) → Within 16777215 z → Near z
wider z h = (omega (arith, ints), omega (arith, ints))

pub loop-q-init : goal.loop-q-init
loop-q-init g c =
    let m = g.E.Extent in
    let table = c.args.self.now.cells.now in (
      (λ es tabled k i kc tame lt.
          let W : ℕ → ℕ → Option ℤ = widest (on_side m.num k es) in
          let e : ℕ → ℤ = after m.entered k c.args.gaps.now in
          ap (seen m.num k) (c.start_row.ensures.here i lt ∙ sym (ap (λ n. get_or table n None) (zero-add i)))
          ∙ tabled.widths k 0 i kc (omega arith) lt ∙ sym (row-start W e i)),
      search rules,
    )

pub loop-q-preserved : goal.loop-q-preserved
loop-q-preserved g c =
    let m = g.E.Extent in
    let table = c.args.self.now.cells.now in
    let q = c.loop-q.q in
    let ws = c.loop-q.widths in
    let gap : ℤ = get_or c.args.gaps.now (q + 1) (pos 0) in
    let fits : SFits w64 gap = search rules in (
      (λ es tabled k i kc tame lt.
          let W : ℕ → ℕ → Option ℤ = widest (on_side m.num k es) in
          let e : ℕ → ℤ = after m.entered k c.args.gaps.now in
          let enters : m.num c.enter.result k ≡ e q = c.enter.ensures k kc ∙ ap (m.entered k) (to_z-of_z w64 gap fits) in
          let small : (a b : ℕ) → WithinIf 1073741823 (W a b) = λ a b. widest-within 1073741823 (on_side m.num k es) a b tame.entries in
          let skips : (a : ℕ) → Within 16777215 (e a) = λ a. g.met.E.Extent.bounded k 16777215 (get_or c.args.gaps.now (a + 1) (pos 0)) kc (tame.gaps a) in
          let below : q ≤ 32 = omega arith in
          let here : seen m.num k c.index-widths-q.result ≡ row W e q q =
          ap (seen m.num k) (get_or_read ws q c.index-widths-q.result (omega arith) c.index-widths-q.is None)
          ∙ c.loop-q.invariant.0 es tabled k q kc tame (omega arith) ∙ ap (λ n. row W e n q) (omega arith) in
          let near-gap : Near (m.num c.enter.result k) = subst Near (sym enters) (wider (e q) (skips q)) in
          let by-is : m.num c.advance-by.result k ≡ step (row W e q q) (e q) =
          c.advance-by.ensures k kc (subst (λ o. Near (size o)) (sym here) (row_near W e small skips q q below)) near-gap
          ∙ ap (λ r. step r (m.num c.enter.result k)) here ∙ ap (step (row W e q q)) enters in
          ⊎_elim
          (λ after.
          let was : column m.num k ws i ≡ row W e q i = c.loop-q.invariant.0 es tabled k i kc tame (omega arith) ∙ ap (λ n. row W e n i) (omega arith) in
          let then = c.carry_row.ensures.carried k i kc after (omega arith) (subst (λ o. Near (size o)) (sym was) (row_near W e small skips q i below)) (subst Near (sym by-is) (step-near W e small skips q below)) in
          then ∙ ap (λ r. join (seen m.num k (cell table (q + 1) i)) (less r (m.num c.advance-by.result k))) was
          ∙ ap (λ z. join (seen m.num k (cell table (q + 1) i)) (less (row W e q i) z)) by-is
          ∙ ap (λ o. join o (less (row W e q i) (step (row W e q q) (e q)))) (tabled.widths k (q + 1) i kc (omega arith) lt)
          ∙ sym (row-turn W e q i) ∙ ap (λ n. row W e n i) (omega arith))
          (λ before. ap (seen m.num k) (c.carry_row.ensures.before i before) ∙ c.loop-q.invariant.0 es tabled k i kc tame (omega arith) ∙ ap (λ n. row W e n i) (omega arith))
          (cases_lt q i)),
      (λ j h. c.carry_row.ensures.rest j h ∙ c.loop-q.invariant.1 j h),
    )

pub returns : goal.returns
returns g c =
    let m = g.E.Extent in
    record {
      merged = λ es tabled k j kc tame lt.
          let W : ℕ → ℕ → Option ℤ = widest (on_side m.num k es) in
          let e : ℕ → ℤ = after m.entered k c.args.gaps.now in
          let at : min c.loop-q.q j ≡ j = omega arith in
          c.loop-q.invariant.0 es tabled k j kc tame lt ∙ ap (λ n. row W e n j) at;
      rest = λ j h. c.loop-q.invariant.1 j h ∙ c.start_row.ensures.rest j h;
    }
