use Rattle.std.proofs.Common.{◌≡◌, ℕ, ◌<◌, ℤ, length, slice_index_or}
use Rattle.sharing.specs.Rule.{portion}
use Rattle.sharing.specs.Gaps.{sum_to, sharers, all_sharers, set_gap}
use Rattle.sharing.specs.Views.{widths_on, gaps_on}
use Rattle.sharing.proofs.columns.share.Given as goal

abbrev pub invariant-loop-place : goal.invariant-loop-place
invariant-loop-place l = record {
  part : l.part ≡ sum_to (sharers (widths_on l.widths) (gaps_on l.gaps) (length l.widths)) l.place;
  shared : l.shared ≡ portion l.surplus (sum_to (sharers (widths_on l.widths) (gaps_on l.gaps) (length l.widths)) l.place) (all_sharers (widths_on l.widths) (gaps_on l.gaps) (length l.widths));
  gaps : (k : ℕ) → k < l.place → (d : ℤ) → slice_index_or l.set k d ≡ set_gap (widths_on l.widths) (gaps_on l.gaps) (length l.widths) l.surplus k;
}
