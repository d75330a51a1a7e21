-- The widths that ask answers. Assumes nothing.
use Rattle.std.proofs.Common.{◌≡◌, ℕ, zero, suc, ◌-◌, Bool, true, cond, List, [], ◌∷◌, map, get_or, ℤ, pos, Ok, Err, Option, sym, ap, ◌∙◌, arith}
use Rattle.std.proofs.lemmas.Int.{ints}
use Rattle.extent.specs.Sizes.{Within}
use Rattle.widths.specs.declared.Entry.{Entry as Sized}
use Rattle.widths.specs.Merging.{width}
use Rattle.widths.specs.Entries.{widest}
use Rattle.ledger.specs.declared.records.ColumnRecord.{ColumnRecord}
use Rattle.rows.specs.declared.preamble.Preamble.{Preamble}
use Rattle.table.specs.Promises.{has_column, no_column, ask_on}
use Rattle.table.specs.Views.{natural_in, gap_after, lengths_of}

-- the natural length of every gap is within ±16,777,215
after-within : {E : Type 0} (cs : List (ColumnRecord E)) (j : ℕ) → Within 16777215 (get_or (map natural_in (map gap_after cs)) j (pos 0))
after-within [] j = (omega (arith, ints), omega (arith, ints))
after-within (c ∷ cs) zero = (c.gap.ok.0, c.gap.ok.1)
after-within (c ∷ cs) (suc j) = after-within cs j

pub lengths-within : {E : Type 0} (q : Preamble E) (j : ℕ) → Within 16777215 (get_or (lengths_of q) j (pos 0))
lengths-within q zero = (q.start.ok.0, q.start.ok.1)
lengths-within q (suc j) = after-within q.columns.now j

pub asked-some : (es : List (Sized ℤ)) (g : ℕ → ℤ) (n c : ℕ) (w : Option ℤ) → has_column n c ≡ true → w ≡ width (widest es) g (c - 1) → Ok w ≡ ask_on es g n c
asked-some es g n c w h e = ap (λ (x : Option ℤ). Ok x) e ∙ sym (ap (λ (b : Bool). cond b (Ok (width (widest es) g (c - 1))) (Err no_column)) h)
