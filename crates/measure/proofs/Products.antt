-- The width of so many bytes as it is computed, and what is measured of up to 255 of them.
use Rattle.std.specs.Prelude.{◌≡◌, ℕ, ◌-◌, ◌*◌, ◌^◌, ◌<◌, ◌≤◌, min, List, length, take, ℤ, pos, ◌*ℤ◌, Result, FitsSigned}
use Rattle.std.proofs.Common.{arith, inl, inr, sym, ap, subst, ◌∙◌}
use Rattle.std.specs.Int.{w64}
use mir.Val.{of_z, to_z, hbits}
use Rattle.std.proofs.lemmas.List.{take_all}
use Rattle.std.proofs.lemmas.Bool.{cases_lt}
use Rattle.std.proofs.lemmas.Int.{ints, to_z-of_z, to_z_pos}
use Rattle.extent.specs.declared.Plain.{Plain}
use Rattle.measure.specs.declared.measurer.Metrics.{Metrics}
use Rattle.measure.specs.Monos.{Parts, mono_meaning, Monospaced}
use Rattle.measure.specs.Ranges.{Upto}
use Rattle.measure.specs.Words.{IsWord}
use Rattle.measure.specs.Pitched.{pitch-size, mono-law}

-- the product as it is computed
module _ (z : ℤ) (n : ℕ) (h : Upto 4194304 z) (l : n ≤ 255) where
  fits : FitsSigned w64 z
  fits = omega (arith, ints)

  product : to_z w64 (of_z w64 z) *ℤ to_z w64 n ≡ z *ℤ pos n
  product = let f = fits in let g : n < 2 ^ hbits w64 = omega arith in rw (to_z-of_z w64 z f, to_z_pos w64 n g)

  pub product-fits : FitsSigned w64 (to_z w64 (of_z w64 z) *ℤ to_z w64 n)
  product-fits = rw product (let p = pitch-size z n h l in omega (arith, ints))

  pub product_is : to_z w64 (of_z w64 (to_z w64 (of_z w64 z) *ℤ to_z w64 n)) ≡ z *ℤ pos n
  product_is = to_z-of_z w64 _ product-fits ∙ product

front-taken : (w : List ℕ) (n : ℕ) → n ≡ min (length w) 255 → take (n - 0) w ≡ take 255 w
front-taken w n e =
    elim (cases_lt (length w) 255) [
      | inl h ↦ take_all (n - 0) w (omega arith) ∙ sym (take_all 255 w (omega arith))
      | inr h ↦ ap (λ k. take k w) (let q : n - 0 ≡ 255 = omega arith in q)
    ]

module _ (m : Parts) (w : List ℕ) (n : ℕ) (r : Result (Metrics Plain) ℕ) (size : n ≡ min (length w) 255) (e : r ≡ mono_meaning m (take (n - 0) w)) where
  pub always_mono : r ≡ mono_meaning m (take 255 w)
  always_mono = e ∙ ap (mono_meaning m) (front-taken w n size)

  pub word-mono : IsWord w → r ≡ mono_meaning m w
  word-mono h = always_mono ∙ ap (mono_meaning m) (take_all 255 w h.1)

  pub word-monospaced : IsWord w → Monospaced m w r
  word-monospaced h = subst (Monospaced m w) (sym (word-mono h)) (mono-law m w)
