-- The monospaced measurer: its answers are in their ranges, and its definitions have their laws.
use Rattle.std.specs.Prelude.{◌≡◌, ℕ, ◌*◌, ◌<◌, ◌≤◌, min, true, false, List, length, take, ℤ, pos, negsuc, ◌*ℤ◌, ◌≤ℤ◌, ◌<ℤ◌, Some, None, Ok, Err, Option, Result, slice_index, refl}
use Rattle.std.proofs.Common.{mul-le-mul, arith, sym, ap, subst, ◌∙◌}
use Rattle.std.proofs.ByRecursion.{All-weaker}
use Rattle.std.proofs.lemmas.List.{take_all, take_min}
use Rattle.std.proofs.lemmas.Int.{ints}
use Rattle.extent.specs.declared.Plain.{Plain}
use Rattle.measure.specs.declared.measurer.Metrics.{Metrics}
use Rattle.measure.specs.Bounds.{Bounded}
use Rattle.measure.specs.Monos.{Parts, has_character, mono_metrics, refused_or, mono_meaning, Monospaced}
use Rattle.measure.specs.Ranges.{Upto, MonoRanges}
use Rattle.measure.specs.Words.{IsWord, first_not}
use Rattle.measure.specs.Firsts.{first-is, none-all}

pub pitch-size : (z : ℤ) (n : ℕ) → Upto 4194304 z → n ≤ 255 → Upto 1073741823 (z *ℤ pos n)
pitch-size (pos a) n h l =
    let p : a * n ≤ 4194304 * 255 = let q : a ≤ 4194304 = omega (arith, ints) in mul-le-mul q l in
    omega (arith, ints)
pitch-size (negsuc a) n h l = absurd h.0.le

has_le : (last : ℤ) (b : ℕ) → has_character last b ≡ true → pos b ≤ℤ last
has_le last b e = grind (arith, ints)

lacks-lt : (last : ℤ) (b : ℕ) → has_character last b ≡ false → last <ℤ pos b
lacks-lt last b e = grind (arith, ints)

-- the definition has the law
mono_at : (m : Parts) (w : List ℕ) (o : Option ℕ) → first_not (has_character m.last) w ≡ o → Monospaced m w (refused_or o (mono_metrics m (length w)))
mono_at m w None e = (All-weaker (λ b. has_character m.last b ≡ true) (λ b. pos b ≤ℤ m.last) (has_le m.last) w (none-all (has_character m.last) w e), refl, refl, refl)
mono_at m w (Some p) e =
    let f = first-is (has_character m.last) w p e in
    (f.0, lacks-lt m.last (slice_index w p) f.1, λ k l. has_le m.last (slice_index w k) (f.2 k l))

pub mono-law : (m : Parts) (w : List ℕ) → Monospaced m w (mono_meaning m w)
mono-law m w = mono_at m w (first_not (has_character m.last) w) refl

-- .. and its answers their ranges
pub mono-bounded : (m : Parts) (w : List ℕ) (x : Metrics Plain) → MonoRanges m.pitch m.height m.depth m.last → IsWord w → mono_meaning m w ≡ Ok x → Bounded 1 (λ e _. e.strip) x
mono-bounded m w x h g e k l =
    let s : Monospaced m w (Ok x) = subst (Monospaced m w) e (mono-law m w) in
    let p = pitch-size m.pitch (length w) h.0 g.1 in
    let q : Upto 1073741823 x.width.strip = subst (Upto 1073741823) (sym s.1) p in
    (omega (arith, ints), subst (Upto 16777215) (sym s.2) h.1, subst (Upto 16777215) (sym s.3) h.2)

pub mono-placed : (m : Parts) (w : List ℕ) (p : ℕ) → mono_meaning m w ≡ Err p → p < length w
mono-placed m w p e = let s : Monospaced m w (Err p) = subst (Monospaced m w) e (mono-law m w) in s.0

-- of more than 255 bytes the first 255 are measured, of fewer all
pub front-taken : (w : List ℕ) (n : ℕ) → n ≡ min (length w) 255 → take n w ≡ take 255 w
front-taken w n e = let f : n ≡ min 255 (length w) = omega arith in ap (λ k. take k w) f ∙ take_min 255 w

pub word-monospaced : (m : Parts) (w : List ℕ) (r : Result (Metrics Plain) ℕ) → r ≡ mono_meaning m (take 255 w) → IsWord w → Monospaced m w r
word-monospaced m w r e h =
    let q : r ≡ mono_meaning m w = e ∙ ap (mono_meaning m) (take_all 255 w h.1) in
    subst (Monospaced m w) (sym q) (mono-law m w)
