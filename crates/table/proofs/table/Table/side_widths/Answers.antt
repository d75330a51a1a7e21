use Rattle.std.proofs.Common.{◌≡◌, ℕ, ◌≤◌, List, length, map, get_or, take, ℤ, pos, None, sym, ap, ◌∙◌, subst, arith}
use Rattle.std.specs.List.{range_with_len}
use Rattle.extent.specs.Sizes.{Within}
use Rattle.widths.specs.Merging.{width, seen}
use Rattle.widths.specs.Entries.{widest}
use Rattle.spans.specs.Tables.{after}
use Rattle.table.specs.Views.{columns_in, laid_in}
use Rattle.table.proofs.Askings.{lengths-within}
use Rattle.table.proofs.Sides.{map-first_are, columns-count}
use Rattle.table.proofs.table.Table.side_widths.Goals as goal

pub returns-clause-is : goal.returns-clause-is
returns-clause-is g c =
    let X = g.M.Extent.Extent in
    let t = c.args.self.now in
    let k = c.args.side in
    let ls = c.args.gaps.now in
    let ws = c.all_widths.new.widths in
    let tame : (i : ℕ) → Within 16777215 (get_or ls i (pos 0)) = λ i. subst (λ (xs : List ℤ). Within 16777215 (get_or xs i (pos 0))) (sym c.requires.gaps) (lengths-within t.rows.preamble i) in
    let count : c.columns-count.result ≡ columns_in t = c.columns-count.ensures ∙ columns-count t in
    let room : columns_in t ≤ length ws = let few = t.few in omega arith in
    let whole : map (seen X.num k) (take (columns_in t) ws) ≡ map (width (widest (laid_in t k)) (after X.entered k ls)) (range_with_len 0 (columns_in t)) =
    map-first_are (width (widest (laid_in t k)) (after X.entered k ls)) (seen X.num k) ws (columns_in t) None room (λ j lt. c.all_widths.ensures.merged tame k j c.requires.side lt) in
    ap (λ (n : ℕ). take n c.numbers.new.numbers) (sym count)
    ∙ c.numbers.ensures.is
    ∙ ap (λ (n : ℕ). map (seen X.num k) (take n ws)) count
    ∙ whole
    ∙ ap (λ (xs : List ℤ). map (width (widest (laid_in t k)) (after X.entered k xs)) (range_with_len 0 (columns_in t))) c.requires.gaps
