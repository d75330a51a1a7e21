-- The monospaced measurer: its numbers, and what it means by a word. Assumes nothing.
use Rattle.std.specs.Prelude.{◌≡◌, ℕ, ◌<◌, Bool, cond, ◌&&◌, List, length, ℤ, pos, ◌*ℤ◌, ◌≤ℤ◌, ◌<ℤ◌, Some, None, Ok, Err, Option, Result, int_le, slice_index}
use Rattle.std.specs.List.{AllByRecursion}
use Rattle.extent.specs.declared.Plain.{Plain}
use Rattle.faults.specs.declared.Cause.TheVariants as cause
use Rattle.faults.specs.declared.Fault.{Fault}
use Rattle.faults.specs.Faults.{fault_at}
use Rattle.measure.specs.declared.measurer.Metrics.{Metrics}
use Rattle.measure.specs.declared.mono.Mono.{Mono}
use Rattle.measure.specs.Ranges.{MonoRanges}
use Rattle.measure.specs.Words.{first_not}

-- its numbers
pub record Parts : Type 0 where
  pub pitch : ℤ
  pub height : ℤ
  pub depth : ℤ
  pub last : ℤ

abbrev pub parts_of : Mono → Parts
parts_of m = record { pitch = m.pitch; height = m.height; depth = m.depth; last = m.last }

abbrev pub parts_in : Result Mono Fault → Result Parts Fault
parts_in (Ok m) = Ok (parts_of m)
parts_in (Err f) = Err f

-- whether all are in their ranges
abbrev pub between : ℕ → ℕ → ℤ → Bool
between a b z = int_le (pos a) z && int_le z (pos b)

abbrev pub in_ranges : Parts → Bool
in_ranges m = between 0 4194304 m.pitch && (between 0 16777215 m.height && (between 0 16777215 m.depth && between 32 126 m.last))

-- a measurer has the numbers that it is given, if these are in their ranges
abbrev pub mono_made : Parts → Result Parts Fault
mono_made m = cond (in_ranges m) (Ok m) (Err (fault_at cause.MeasurerRange 0))

abbrev pub MonoMade : Parts → Result Parts Fault → Type 0
MonoMade m (Ok x) = MonoRanges m.pitch m.height m.depth m.last × (x ≡ m)
MonoMade m (Err f) = (MonoRanges m.pitch m.height m.depth m.last → ⊥) × (f ≡ fault_at cause.MeasurerRange 0)

-- the bytes up to the last have a character
abbrev pub has_character : ℤ → ℕ → Bool
has_character last b = int_le (pos b) last

abbrev pub plain_of : ℤ → Plain
plain_of z = record { strip = z }

-- n bytes, all with a character
abbrev pub mono_metrics : Parts → ℕ → Metrics Plain
mono_metrics m n = record { width = plain_of (m.pitch *ℤ pos n); height = plain_of m.height; depth = plain_of m.depth }

-- a refusal at a place, or else an answer
abbrev pub refused_or : {X : Type 0} → Option ℕ → X → Result X ℕ
refused_or None x = Ok x
refused_or (Some p) x = Err p

abbrev pub mono_meaning : Parts → List ℕ → Result (Metrics Plain) ℕ
mono_meaning m w = refused_or (first_not (has_character m.last) w) (mono_metrics m (length w))

-- every byte has the pitch, the height and the depth; what is missing is the first byte above the last
abbrev pub Monospaced : Parts → List ℕ → Result (Metrics Plain) ℕ → Type 0
Monospaced m w (Ok x) = AllByRecursion (λ b. pos b ≤ℤ m.last) w × (x.width.strip ≡ m.pitch *ℤ pos (length w)) × (x.height.strip ≡ m.height) × (x.depth.strip ≡ m.depth)
Monospaced m w (Err p) = (p < length w) × (m.last <ℤ pos (slice_index w p)) × ((k : ℕ) → k < p → pos (slice_index w k) ≤ℤ m.last)

abbrev pub mono_blank : Parts → Plain
mono_blank m = plain_of m.pitch
