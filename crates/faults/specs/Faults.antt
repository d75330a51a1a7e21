-- The causes of a refusal: their numbers, their layers, and the text of a fault. Assumes nothing.
use Rattle.std.specs.Prelude.{ℕ, List, ◌++◌, codes, decimal}
use Rattle.faults.specs.declared.Cause.{Cause}
use Rattle.faults.specs.declared.Cause.TheVariants as cause
use Rattle.faults.specs.declared.Layer.{Layer}
use Rattle.faults.specs.declared.Layer.TheVariants as layer
use Rattle.faults.specs.declared.Fault.{Fault}

abbrev pub number_of : Cause → ℕ
number_of cause.BadByte = 1
number_of cause.UnknownControl = 2
number_of cause.BadLength = 3
number_of cause.Misplaced = 5
number_of cause.TemplateMark = 6
number_of cause.TooManyColumns = 7
number_of cause.TextOver = 8
number_of cause.WordLength = 9
number_of cause.EntryTooWide = 10
number_of cause.RowInHand = 21
number_of cause.Full = 22
number_of cause.CannotSet = 23
number_of cause.NoSuchColumn = 24
number_of cause.NoSuchSide = 24
number_of cause.TooLittleRoom = 26
number_of cause.OutOfRange = 27
number_of cause.MeasurerRange = 27
number_of cause.BadBox = 28
number_of cause.NoCharacter = 41

abbrev pub layer_of : Cause → Layer
layer_of cause.BadByte = layer.Reader
layer_of cause.UnknownControl = layer.Reader
layer_of cause.BadLength = layer.Reader
layer_of cause.Misplaced = layer.Alignment
layer_of cause.TemplateMark = layer.Alignment
layer_of cause.TooManyColumns = layer.Alignment
layer_of cause.TextOver = layer.Alignment
layer_of cause.WordLength = layer.Reader
layer_of cause.EntryTooWide = layer.Alignment
layer_of cause.RowInHand = layer.Alignment
layer_of cause.Full = layer.Alignment
layer_of cause.CannotSet = layer.Packer
layer_of cause.NoSuchColumn = layer.Alignment
layer_of cause.NoSuchSide = layer.Packer
layer_of cause.TooLittleRoom = layer.Packer
layer_of cause.OutOfRange = layer.Alignment
layer_of cause.MeasurerRange = layer.Measurer
layer_of cause.BadBox = layer.Packer
layer_of cause.NoCharacter = layer.Measurer

abbrev pub layer_number : Layer → ℕ
layer_number layer.Reader = 1
layer_number layer.Alignment = 2
layer_number layer.Packer = 3
layer_number layer.Measurer = 4

-- the fault of a cause at a place
abbrev pub fault_at : Cause → ℕ → Fault
fault_at c p = record { cause = c; place = p; layer = layer_of c }

-- `fault N place P layer L`
abbrev pub text_of : Fault → List ℕ
text_of f = codes "fault " ++ (decimal (number_of f.cause) ++ (codes " place " ++ (decimal f.place ++ (codes " layer " ++ decimal (layer_number f.layer)))))
