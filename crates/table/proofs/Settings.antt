-- The columns of a table on one side are of the sizes that set takes. Assumes nothing.
use Rattle.std.proofs.Common.{◌≡◌, ℕ, zero, suc, ◌+◌, ◌<◌, List, [], ◌∷◌, map, length, get_or, ℤ, pos, None, sym, refl, ap, ◌∙◌, subst, arith}
use Rattle.std.proofs.lemmas.Int.{ints}
use Rattle.std.proofs.lemmas.List.{length-map}
use Rattle.std.proofs.lemmas.List.FromFn.{get_or-map-range_with_len, length-map-range_with_len}
use Rattle.std.proofs.Math.Path.{fun_ext}
use Rattle.extent.specs.Sizes.{Within}
use Rattle.extent.specs.declared.Extent.{Ghosts as Sides}
use Rattle.measure.specs.declared.measurer.Measurer.{Ghosts as Meaning}
use Rattle.lengths.specs.Gaps.{Parts}
use Rattle.widths.specs.Merging.{width}
use Rattle.widths.specs.Entries.{widest}
use Rattle.widths.specs.Settling.{Settled, Sized as SizedTo}
use Rattle.spans.specs.Tables.{starting, after}
use Rattle.sharing.specs.Columns.{first_natural, naturals}
use Rattle.sharing.specs.Views.{widths_on, gaps_on, Tame}
use Rattle.ledger.specs.declared.records.ColumnRecord.{ColumnRecord}
use Rattle.rows.specs.declared.preamble.Preamble.{Preamble}
use Rattle.table.specs.declared.table.Table.{Table}
use Rattle.rows.proofs.Asking.{sound-settles_to}
use Rattle.table.specs.Views.{natural_in, gap_after, gaps_of, lengths_in, columns_in, wide_in, laid_in}
use Rattle.table.specs.Setting.{widths_of, gap_on, side_gaps}
use Rattle.table.proofs.Askings.{lengths-within}

-- the stretch of every gap is within ±16,777,215
after-stretch : {E : Type 0} (entered : ℕ → ℤ → ℤ) (k : ℕ) (cs : List (ColumnRecord E)) (j : ℕ) → Within 16777215 (gaps_on (map (gap_on entered k) (map gap_after cs)) j).stretch
after-stretch entered k [] j = (omega (arith, ints), omega (arith, ints))
after-stretch entered k (c ∷ cs) zero = (omega (arith, ints, c.gap.fits.0), c.gap.fits.1)
after-stretch entered k (c ∷ cs) (suc j) = after-stretch entered k cs j

pub gap-stretch : {E : Type 0} (entered : ℕ → ℤ → ℤ) (k : ℕ) (q : Preamble E) (j : ℕ) → Within 16777215 (gaps_on (map (gap_on entered k) (gaps_of q)) j).stretch
gap-stretch entered k q zero = (omega (arith, ints, q.start.fits.0), q.start.fits.1)
gap-stretch entered k q (suc j) = after-stretch entered k q.columns.now j

-- a gap's natural length on a side is its length as it enters there
gap-natural : (entered : ℕ → ℤ → ℤ) (k : ℕ) → entered k (pos 0) ≡ pos 0 → (gs : List Parts) (j : ℕ) → (gaps_on (map (gap_on entered k) gs) j).natural ≡ entered k (get_or (map natural_in gs) j (pos 0))
gap-natural entered k e [] j = sym e
gap-natural entered k e (p ∷ ps) zero = refl
gap-natural entered k e (p ∷ ps) (suc j) = gap-natural entered k e ps j

module _ {X E : Type 0} {m : Meaning X E} {s : Sides E} (t : Table X E m s) (k : ℕ) where
  pub widths-same : (j : ℕ) → j < columns_in t → widths_on (widths_of t k) j ≡ width (widest (laid_in t k)) (after s.entered k (lengths_in t)) j
  widths-same j lt = get_or-map-range_with_len (width (widest (laid_in t k)) (after s.entered k (lengths_in t))) 0 (columns_in t) j j None lt (omega arith)

  pub widths-count : length (widths_of t k) ≡ columns_in t
  widths-count = length-map-range_with_len (width (widest (laid_in t k)) (after s.entered k (lengths_in t))) 0 (columns_in t)

  pub gaps-count : length (side_gaps t k) ≡ columns_in t + 1
  gaps-count =
      let a = length-map (gaps_of t.rows.preamble) (gap_on s.entered k) in
      let b = length-map t.rows.preamble.columns.now (λ (x : ColumnRecord E). gap_after x) in
      let c = length-map t.rows.preamble.columns.now (λ (x : ColumnRecord E). x.template) in
      omega arith

  module _ (kc : k < s.count) (nothing : s.entered k (pos 0) ≡ pos 0) (bounded : (z : ℤ) → Within 16777215 z → Within 16777215 (s.entered k z)) where
    naturals-same : naturals (gaps_on (side_gaps t k)) ≡ after s.entered k (lengths_in t)
    naturals-same = fun_ext (λ j. let e : suc j ≡ j + 1 = omega arith in gap-natural s.entered k nothing (gaps_of t.rows.preamble) (suc j) ∙ ap (λ (i : ℕ). s.entered k (get_or (lengths_in t) i (pos 0))) e)

    first-same : first_natural (gaps_on (side_gaps t k)) ≡ starting s.entered k (lengths_in t)
    first-same = gap-natural s.entered k nothing (gaps_of t.rows.preamble) 0

    -- gaps are no longer on a side than they are
    pub first-within : Within 16777215 (first_natural (gaps_on (side_gaps t k)))
    first-within = subst (Within 16777215) (sym first-same) (bounded (get_or (lengths_in t) 0 (pos 0)) (lengths-within t.rows.preamble 0))

    pub naturals-within : (j : ℕ) → Within 16777215 (naturals (gaps_on (side_gaps t k)) j)
    naturals-within j = subst (λ (g : ℕ → ℤ). Within 16777215 (g j)) (sym naturals-same) (bounded (get_or (lengths_in t) (j + 1) (pos 0)) (lengths-within t.rows.preamble (j + 1)))

    -- the widths are settled between the gaps as they are on the side
    pub settled-sides : Settled (laid_in t k) (first_natural (gaps_on (side_gaps t k))) (naturals (gaps_on (side_gaps t k))) (columns_in t) (widths_on (widths_of t k))
    settled-sides =
        let q = t.rows.preamble in
        let ok : (j : ℕ) → Within 16777215 (s.entered k (get_or (lengths_in t) j (pos 0))) = λ j. bounded (get_or (lengths_in t) j (pos 0)) (lengths-within q j) in
        subst (λ (z : ℤ). Settled (laid_in t k) z (naturals (gaps_on (side_gaps t k))) (columns_in t) (widths_on (widths_of t k))) (sym first-same)
        (subst (λ (g : ℕ → ℤ). Settled (laid_in t k) (starting s.entered k (lengths_in t)) g (columns_in t) (widths_on (widths_of t k))) (sym naturals-same)
        (sound-settles_to s.count s.num (wide_in t) q t.rows.draft.state t.rows.draft.memory t.meant t.few (starting s.entered k (lengths_in t)) (after s.entered k (lengths_in t)) (ok 0) (λ j. ok (j + 1)) k kc (widths_on (widths_of t k)) widths-same))

    pub tame-sides : Tame (widths_of t k) (side_gaps t k)
    tame-sides = record {
      few = let f = t.few in let c = widths-count in omega arith;
      paired = let a = widths-count in let b = gaps-count in omega arith;
      stretches = gap-stretch s.entered k t.rows.preamble;
      sized = subst (λ (n : ℕ). SizedTo (first_natural (gaps_on (side_gaps t k))) (naturals (gaps_on (side_gaps t k))) n (widths_on (widths_of t k))) (sym widths-count) settled-sides.sized;
    }
