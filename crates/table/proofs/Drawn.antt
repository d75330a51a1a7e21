-- A table's lines as they are set. Assumes nothing.
use Rattle.std.proofs.Common.{◌≡◌, ℕ, true, List, ◌++◌, length, ℤ, Option, sym, ap, ◌∙◌}
use Rattle.std.specs.List.{list_all, flat_map}
use Rattle.std.proofs.lemmas.Bool.{and_parts}
use Rattle.std.proofs.lemmas.List.Folds.{list_all-append}
use Rattle.std.proofs.lemmas.List.Concat.{flat_map-append}
use Rattle.measure.specs.declared.measurer.Measurer.{Ghosts as Meaning}
use Rattle.extent.specs.declared.Extent.{Ghosts as Sides}
use Rattle.ledger.specs.Calls.{items_in, laid_entries, done_of, items_of}
use Rattle.ledger.specs.Lawful.{fine, all_fine}
use Rattle.sharing.specs.declared.Aim.{Aim}
use Rattle.sharing.specs.declared.SideGap.{SideGap}
use Rattle.sharing.specs.Columns.{width_set, edges_of, edges_set}
use Rattle.sharing.specs.Views.{widths_on, gaps_on}
use Rattle.table.specs.declared.table.Table.{Table}
use Rattle.table.specs.Views.{ledger_in}
use Rattle.table.specs.Setting.{widths_of, side_gaps, columns_at, width_at}
use Rattle.table.proofs.Settings.{widths-count}

-- the laid items are fine
pub laid-fine : {X E : Type 0} {m : Meaning X E} {s : Sides E} (t : Table X E m s) → all_fine (m.meaning t.measurer.now) (flat_map items_in (laid_entries (ledger_in t))) ≡ true
laid-fine {m = m} t =
    let g = ledger_in t in
    let f = fine (m.meaning t.measurer.now) in
    let laid = flat_map items_in (laid_entries g) in
    let done = flat_map items_in (done_of g.hand) in
    let whole : list_all f (flat_map items_in (laid_entries g ++ done_of g.hand) ++ items_of g.hand) ≡ true = t.lawful.items in
    let first : list_all f (flat_map items_in (laid_entries g ++ done_of g.hand)) ≡ true = (and_parts _ _ (sym (list_all-append f (flat_map items_in (laid_entries g ++ done_of g.hand)) (items_of g.hand)) ∙ whole)).0 in
    let parts : list_all f (laid ++ done) ≡ true = ap (list_all f) (sym (flat_map-append items_in (laid_entries g) (done_of g.hand))) ∙ first in
    (and_parts _ _ (sym (list_all-append f laid done) ∙ parts)).0

module _ {X E : Type 0} {m : Meaning X E} {s : Sides E} (t : Table X E m s) (k : ℕ) (ws : List (Option ℤ)) (gs : List SideGap) (widths : ws ≡ widths_of t k) (gaps : gs ≡ side_gaps t k) (a : Aim) where
  -- lent widths and gaps that are the table's give its width and edges
  pub lent-width : width_set (widths_on ws) (gaps_on gs) (length ws) a ≡ width_at t k a
  lent-width =
      ap (λ (xs : List (Option ℤ)). width_set (widths_on xs) (gaps_on gs) (length xs) a) widths
      ∙ ap (λ (ys : List SideGap). width_set (widths_on (widths_of t k)) (gaps_on ys) (length (widths_of t k)) a) gaps
      ∙ ap (λ (n : ℕ). width_set (widths_on (widths_of t k)) (gaps_on (side_gaps t k)) n a) (widths-count t k)

  pub lent-edges : (j : ℕ) → edges_set (widths_on ws) (gaps_on gs) (length ws) a j ≡ edges_of (columns_at t k a).widths (columns_at t k a).first (columns_at t k a).gaps j
  lent-edges j =
      ap (λ (xs : List (Option ℤ)). edges_set (widths_on xs) (gaps_on gs) (length xs) a j) widths
      ∙ ap (λ (ys : List SideGap). edges_set (widths_on (widths_of t k)) (gaps_on ys) (length (widths_of t k)) a j) gaps
      ∙ ap (λ (n : ℕ). edges_set (widths_on (widths_of t k)) (gaps_on (side_gaps t k)) n a j) (widths-count t k)
