-- What tokens give is fine, and no wider than a word. Assumes nothing.
use Rattle.std.proofs.Common.{◌≡◌, ℕ, ◌<◌, List, take, drop, ℤ, Ok, Err, Result, refl, arith}
use Rattle.std.proofs.lemmas.Int.{ints}
use Rattle.extent.specs.Sizes.{Within}
use Rattle.measure.specs.declared.measurer.Metrics.{Metrics}
use Rattle.measure.specs.Bounds.{Bounded, Spaced}
use Rattle.measure.specs.Words.{IsWord}
use Rattle.ledger.specs.declared.records.ItemRecord.TheVariants.{Space, CellWord, TemplateWord, Kern, Hfil}
use Rattle.ledger.specs.Naturals.{word_by, wide_by}
use Rattle.ledger.proofs.Words.{within_more}
use Rattle.templates.specs.Kept.{Sized}

module _ {E : Type 0} (count : ℕ) (num : E → ℕ → ℤ) (entered : ℕ → ℤ → ℤ) (meaning : List ℕ → Result (Metrics E) ℕ) (blank : E)
    (words : (w : List ℕ) (x : Metrics E) → IsWord w → meaning w ≡ Ok x → Bounded count num x) (spaced : Spaced count num blank)
    (bounded : (k b : ℕ) (z : ℤ) → k < count → Within b z → Within b (entered k z)) where
  word-sized : (k : ℕ) → k < count → (w : List ℕ) → IsWord w → (r : Result (Metrics E) ℕ) → meaning w ≡ r → Within 1073741823 (word_by num r k)
  word-sized k lt w is (Ok x) e = (words w x is e k lt).0
  word-sized k lt w is (Err p) e = (omega (arith, ints), omega (arith, ints))

  pub sized : (text : List ℕ) → Sized count (wide_by num entered meaning blank) text
  sized text Space b k f lt = let s = spaced k lt in (omega (arith, ints, s.0, s.1), omega (arith, ints, s.0, s.1))
  sized text (CellWord n) b k f lt = absurd f
  sized text (TemplateWord a n) b k f lt = word-sized k lt (take n (drop a text)) f.0 (meaning (take n (drop a text))) refl
  sized text (Kern z) b k f lt = within_more 16777215 1073741823 (entered k z) (omega arith) (bounded k 16777215 z lt f)
  sized text Hfil b k f lt = (omega (arith, ints), omega (arith, ints))
