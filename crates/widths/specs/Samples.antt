-- Worked tables: entries, gaps and the widths that they settle to. Assumes nothing.
use Rattle.std.specs.Prelude.{◌≡◌, ℕ, zero, suc, List, [], ◌∷◌, ◌++◌, get_or, ℤ, pos, negsuc, Some, None, Option, slice_index_or}
use Rattle.std.specs.List.{AllByRecursion}
use Rattle.widths.specs.declared.Entry.{Entry}
use Rattle.widths.specs.Merging.{width, counted}
use Rattle.widths.specs.Formula.{natural}
use Rattle.widths.specs.Entries.{widest}

pub record Sample : Type 0 where
  pub entries : List (Entry ℤ)
  -- the starting gap, then the gap after each column
  pub start : ℤ
  pub gaps : List ℤ
  pub columns : ℕ
  pub widths : List (Option ℤ)
  -- the gaps as they count
  pub counting : List ℤ
  pub total : ℤ

abbrev entry : ℕ → ℕ → ℤ → Entry ℤ
entry i j w = record { first = i; last = j; width = w }

abbrev pub widths_of : Sample → ℕ → List (Option ℤ)
widths_of s zero = []
widths_of s (suc n) = widths_of s n ++ (width (widest s.entries) (λ k. get_or s.gaps k (pos 0)) n ∷ [])

abbrev pub gaps_of : Sample → ℕ → List ℤ
gaps_of s zero = []
gaps_of s (suc n) = gaps_of s n ++ (counted (width (widest s.entries) (λ k. get_or s.gaps k (pos 0)) n) (slice_index_or s.gaps n (pos 0)) ∷ [])

abbrev pub total_of : Sample → ℤ
total_of s = natural s.start (width (widest s.entries) (λ k. get_or s.gaps k (pos 0))) (λ k. get_or s.gaps k (pos 0)) s.columns

abbrev pub samples : List Sample
samples =
    record {
      entries = entry 0 0 (pos 10) ∷ entry 1 1 (pos 20) ∷ entry 0 1 (pos 50) ∷ [];
      start = pos 0;
      gaps = pos 2 ∷ pos 3 ∷ pos 4 ∷ [];
      columns = 3;
      widths = Some (pos 10) ∷ Some (pos 38) ∷ None ∷ [];
      counting = pos 2 ∷ pos 3 ∷ pos 0 ∷ [];
      total = pos 53;
    }
    ∷ record {
      entries = entry 0 0 (pos 40) ∷ entry 0 1 (pos 30) ∷ [];
      start = pos 0;
      gaps = pos 5 ∷ pos 0 ∷ [];
      columns = 2;
      widths = Some (pos 40) ∷ Some (negsuc 14) ∷ [];
      counting = pos 5 ∷ pos 0 ∷ [];
      total = pos 30;
    }
    ∷ record {
      entries = entry 0 1 (pos 30) ∷ [];
      start = pos 0;
      gaps = pos 7 ∷ pos 0 ∷ [];
      columns = 2;
      widths = None ∷ Some (pos 30) ∷ [];
      counting = pos 0 ∷ pos 0 ∷ [];
      total = pos 30;
    }
    ∷ record {
      entries = entry 0 0 (pos 10) ∷ entry 1 1 (pos 20) ∷ entry 2 2 (pos 5) ∷ entry 1 2 (pos 60) ∷ entry 0 2 (pos 100) ∷ [];
      start = pos 0;
      gaps = pos 1 ∷ pos 2 ∷ pos 0 ∷ [];
      columns = 3;
      widths = Some (pos 10) ∷ Some (pos 20) ∷ Some (pos 67) ∷ [];
      counting = pos 1 ∷ pos 2 ∷ pos 0 ∷ [];
      total = pos 100;
    }
    ∷ []

-- a worked table settles to its widths, its gaps count as listed, and its natural width is its total
abbrev pub Settles : Sample → Type 0
Settles s = (widths_of s s.columns ≡ s.widths) × (gaps_of s s.columns ≡ s.counting) × (total_of s ≡ s.total)

abbrev pub SamplesSettle : Type 0
SamplesSettle = AllByRecursion Settles samples
