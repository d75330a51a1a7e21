-- Texts with the length or the glue at their start, to be shown of the definitions. Assumes nothing.
use Rattle.std.specs.Prelude.{◌≡◌, ℕ, List, [], ◌∷◌, ℤ, pos, negsuc, Ok, Err, codes, Result}
use Prim.Native.String.{String}
use Rattle.faults.specs.declared.Fault.{Fault}
use Rattle.faults.specs.declared.Cause.TheVariants.{BadByte, UnknownControl, BadLength}
use Rattle.faults.specs.Faults.{fault_at}
use Rattle.lengths.specs.declared.order.Order.{Order}
use Rattle.lengths.specs.declared.order.Order.TheVariants.{Points, Fil, Fill, Filll}
use Rattle.lengths.specs.declared.length.Length.{Length}
use Rattle.lengths.specs.Gaps.{parts}
use Rattle.lengths.specs.Glues.{GlueParts, glue_at}
use Rattle.lengths.specs.Lengths.{length_at}

pub data Row : Type 0 where
  length_row : String → Result Length Fault → Row
  glue_row : String → Result GlueParts Fault → Row

abbrev pub length_ok : ℤ → ℕ → Result Length Fault
length_ok z n = Ok (record { sp = z; end = n })

abbrev pub glue_ok : ℤ → ℤ → Order → ℕ → Result GlueParts Fault
glue_ok z s o n = Ok (record { gap = parts z s o; end = n })

abbrev pub samples : List Row
samples =
    length_row "0.1pt" (length_ok (pos 6554) 5)
    ∷ length_row "0.4pt" (length_ok (pos 26214) 5)
    ∷ length_row "-0.5pt" (length_ok (negsuc 32767) 6)
    ∷ length_row "255.99999pt" (length_ok (pos 16777215) 11)
    ∷ length_row "256pt" (Err (fault_at BadLength 0))
    ∷ length_row "-255.99999pt" (length_ok (negsuc 16777214) 12)
    ∷ length_row "255.999999pt" (Err (fault_at BadLength 0))
    ∷ length_row "3ptabc" (length_ok (pos 196608) 3)
    ∷ length_row "3pt  a" (length_ok (pos 196608) 4)
    ∷ length_row "5$" (Err (fault_at BadLength 0))
    ∷ length_row "- 1pt" (Err (fault_at BadLength 0))
    ∷ length_row "--1pt" (Err (fault_at BadLength 0))
    ∷ length_row "+1pt" (Err (fault_at BadLength 0))
    ∷ length_row "1 pt" (Err (fault_at BadLength 0))
    ∷ length_row "1PT" (Err (fault_at BadLength 0))
    ∷ length_row "1px" (Err (fault_at BadLength 0))
    ∷ length_row ".5pt" (Err (fault_at BadLength 0))
    ∷ length_row "1.pt" (Err (fault_at BadLength 0))
    ∷ length_row "000000001pt" (Err (fault_at BadLength 0))
    ∷ length_row "0.00000000000000000pt" (length_ok (pos 0) 21)
    ∷ length_row "0.000000000000000000pt" (Err (fault_at BadLength 0))
    ∷ length_row "1fil" (Err (fault_at BadLength 0))
    ∷ length_row "$" (Err (fault_at BadByte 0))
    ∷ length_row "\\foo" (Err (fault_at UnknownControl 0))
    ∷ length_row "\\cr" (Err (fault_at BadLength 0))
    ∷ length_row "&" (Err (fault_at BadLength 0))
    ∷ length_row "" (Err (fault_at BadLength 0))
    ∷ glue_row "1pt" (glue_ok (pos 65536) (pos 0) Points 3)
    ∷ glue_row "1pt plus 2fil x" (glue_ok (pos 65536) (pos 131072) Fil 14)
    ∷ glue_row "1ptplus1.5pt" (glue_ok (pos 65536) (pos 98304) Points 12)
    ∷ glue_row "1pt  plus 2fil" (glue_ok (pos 65536) (pos 0) Points 4)
    ∷ glue_row "0pt plus  1fillll" (glue_ok (pos 0) (pos 65536) Filll 16)
    ∷ glue_row "0pt plus 0fil" (glue_ok (pos 0) (pos 0) Fil 13)
    ∷ glue_row "0pt plus 1fillx" (glue_ok (pos 0) (pos 65536) Fill 14)
    ∷ glue_row "0pt plus 1fi" (Err (fault_at BadLength 9))
    ∷ glue_row "0pt plus 256fil" (Err (fault_at BadLength 9))
    ∷ glue_row "0pt plus -1fil" (Err (fault_at BadLength 9))
    ∷ glue_row "0pt plush" (Err (fault_at BadLength 8))
    ∷ glue_row "0pt plus" (Err (fault_at BadLength 8))
    ∷ glue_row "0pt plus  $" (Err (fault_at BadByte 10))
    ∷ glue_row "0pt plus\\x" (Err (fault_at UnknownControl 8))
    ∷ glue_row "plus 1fil" (Err (fault_at BadLength 0))
    ∷ []

abbrev pub Stands : Row → Type 0
Stands (length_row t r) = length_at (codes t) 0 ≡ r
Stands (glue_row t r) = glue_at (codes t) 0 ≡ r

abbrev pub Each : List Row → Type 0
Each [] = Unit {0}
Each (r ∷ rs) = Stands r × Each rs
