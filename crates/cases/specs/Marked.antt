-- The marked cases, as rows of one table. Assumes nothing.
use Rattle.std.specs.Prelude.{◌≡◌, ℕ, suc, ◌-◌, List, [], ◌∷◌, ◌++◌, map, length, ℤ, pos, negsuc, Some, Ok, Err, Result, codes, slice_index_or}
use Rattle.std.specs.List.{range_with_len, AllByRecursion}
use Rattle.boxlist.specs.declared.BoxRecord.{BoxRecord}
use Rattle.faults.specs.declared.Cause.TheVariants.{BadLength}
use Rattle.faults.specs.declared.Fault.{Fault}
use Rattle.faults.specs.Faults.{fault_at}
use Rattle.lengths.specs.declared.length.Length.{Length}
use Rattle.lengths.specs.declared.order.Order.TheVariants.{Points}
use Rattle.lengths.specs.Gaps.{parts}
use Rattle.lengths.specs.Lengths.{length_at}
use Rattle.widths.specs.Formula.{between}
use Rattle.widths.specs.Samples.{Sample, samples, Settles}
use Rattle.sharing.specs.Gaps.{set_gap}
use Rattle.ledger.specs.Chunks.{total}
use Rattle.ledger.specs.Ledger.{Item, cell_word, hfil}
use Rattle.packer.specs.Looks.{Look, fill_in}
use Rattle.packer.specs.Boxes.{item_boxes}

pub data Row : Type 0 where
  -- a worked table settles to its widths and its natural width
  settles : Sample → Row
  -- a text reads as a length, or is refused
  reads : List ℕ → Result Length Fault → Row
  -- gaps of these stretches share a surplus: what gaps 0 to k together grow by
  shares : List ℕ → ℕ → List ℤ → Row
  -- items whose fills share a surplus: how far each word moves
  moves : List Item → ℕ → List ℤ → Row

-- gaps 0 to n of these stretches, set for a surplus
abbrev pub gap_set : List ℕ → ℕ → ℕ → ℤ
gap_set ss e = set_gap (λ _. Some (pos 0)) (λ k. parts (pos 0) (pos (slice_index_or ss k 0)) Points) (length ss - 1) e

abbrev pub sums_of : List ℕ → ℕ → List ℤ
sums_of ss e = map (λ k. between (gap_set ss e) 0 (suc k)) (range_with_len 0 (length ss))

-- items of no width
abbrev pub flat : Look
flat = record { wide = λ _. pos 0; high = λ _. pos 0; deep = λ _. pos 0; entered = λ z. z }

abbrev pub left_edge : BoxRecord → ℤ
left_edge r = r.x

abbrev pub moved_by : List Item → ℕ → List ℤ
moved_by is f = map left_edge (item_boxes flat (record { surplus = f; count = total fill_in is }) 0 (record { x = pos 0; y = pos 0; place = 0 }) is)

abbrev pub Stands : Row → Type 0
Stands (settles s) = Settles s
Stands (reads t r) = length_at t 0 ≡ r
Stands (shares ss e sums) = sums_of ss e ≡ sums
Stands (moves is f xs) = moved_by is f ≡ xs

abbrev pub rows : List Row
rows =
    map settles samples
    ++ (reads (codes "0.1pt") (Ok (record { sp = pos 6554; end = 5 }))
    ∷ reads (codes "0.4pt") (Ok (record { sp = pos 26214; end = 5 }))
    ∷ reads (codes "-0.5pt") (Ok (record { sp = negsuc 32767; end = 6 }))
    ∷ reads (codes "255.99999pt") (Ok (record { sp = pos 16777215; end = 11 }))
    ∷ reads (codes "256pt") (Err (fault_at BadLength 0))
    ∷ shares (1 ∷ 1 ∷ 1 ∷ []) 2 (pos 0 ∷ pos 1 ∷ pos 2 ∷ [])
    ∷ moves (hfil ∷ cell_word (codes "a") ∷ hfil ∷ []) 15 (pos 7 ∷ [])
    ∷ [])

abbrev pub MarkedCases : Type 0
MarkedCases = AllByRecursion Stands rows
