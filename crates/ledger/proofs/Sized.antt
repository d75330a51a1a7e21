-- No item that a table may have is wider than a word may be, by a measurer's meaning.
use Rattle.std.proofs.Common.{◌≡◌, ℕ, ◌<◌, true, List, ℤ, Ok, Err, Result, refl, arith}
use Rattle.std.proofs.lemmas.Int.{ints}
use Rattle.std.proofs.lemmas.Bool.Decides.{nat_tests}
use Rattle.std.specs.Result.{is_ok}
use Rattle.faults.specs.declared.Fault.{Fault}
use Rattle.extent.specs.Sizes.{Within}
use Rattle.measure.specs.declared.measurer.Metrics.{Metrics}
use Rattle.measure.specs.Bounds.{Bounded, Spaced}
use Rattle.measure.specs.Words.{IsWord}
use Rattle.measure.specs.Asked.{measured_by, Measured}
use Rattle.measure.proofs.Worded.{measured-law}
use Rattle.lengths.specs.Gaps.{natural_fits}
use Rattle.ledger.specs.Ledger.{cell_word, template_word, space, kern, hfil}
use Rattle.ledger.specs.Naturals.{word_by, wide_by}
use Rattle.ledger.specs.Lawful.{FineSized}
use Rattle.ledger.proofs.Words.{within_more}
use Rattle.ledger.proofs.Fines.{within-none}

module _ {E : Type 0} (count : ℕ) (num : E → ℕ → ℤ) (entered : ℕ → ℤ → ℤ) (meaning : List ℕ → Result (Metrics E) ℕ) (blank : E)
    (words : (w : List ℕ) (x : Metrics E) → IsWord w → meaning w ≡ Ok x → Bounded count num x) (spaced : Spaced count num blank)
    (bounded : (k b : ℕ) (z : ℤ) → k < count → Within b z → Within b (entered k z)) where
  word-size : (w : List ℕ) (k : ℕ) → k < count → (r : Result (Metrics E) ℕ) → meaning w ≡ r → IsWord w → Within 1073741823 (word_by num r k)
  word-size w k lt (Ok x) e is = (words w x is e k lt).0
  word-size w k lt (Err p) e is = within-none 1073741823

  measured-size : (w : List ℕ) (k : ℕ) (r : Result (Metrics E) Fault) → k < count → is_ok r ≡ true → Measured meaning w r → Within 1073741823 (word_by num (meaning w) k)
  measured-size w k (Ok x) lt e m = word-size w k lt (meaning w) refl m.0
  measured-size w k (Err f) lt e m = cc

  kern-size : (z : ℤ) → natural_fits z ≡ true → Within 16777215 z
  kern-size z e = (grind (arith, ints, nat_tests), grind (arith, ints, nat_tests))

  pub fine-sized : FineSized meaning count (wide_by num entered meaning blank)
  fine-sized (cell_word w) k f lt = measured-size w k (measured_by meaning w) lt f (measured-law meaning w (measured_by meaning w) refl)
  fine-sized (template_word a w) k f lt = measured-size w k (measured_by meaning w) lt f (measured-law meaning w (measured_by meaning w) refl)
  fine-sized space k f lt = let s = spaced k lt in (omega (arith, ints, s.0, s.1), omega (arith, ints, s.0, s.1))
  fine-sized (kern z) k f lt = within_more 16777215 1073741823 (entered k z) (omega arith) (bounded k 16777215 z lt (kern-size z f))
  fine-sized hfil k f lt = within-none 1073741823
