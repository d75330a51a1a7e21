-- The numbers that stand for a list of boxes, in their order, and the bytes of these. Assumes nothing.
use Rattle.std.specs.Prelude.{ℕ, List, [], ◌∷◌, ◌++◌, length, ℤ, pos, negsuc}
use Rattle.std.specs.List.{flat_map}
use Rattle.boxlist.specs.declared.Kind.{Kind}
use Rattle.boxlist.specs.declared.Kind.TheVariants as kinds
use Rattle.boxlist.specs.declared.Store.{Store}
use Rattle.boxlist.specs.declared.Store.TheVariants as stores
use Rattle.boxlist.specs.declared.BoxRecord.{BoxRecord}
use Rattle.boxlist.specs.declared.BoxList.{BoxList}
use Rattle.boxlist.specs.Groups.{all_groups, zigzag}

-- an unlisted kind is never written
abbrev pub kind_number : Kind → ℕ
kind_number kinds.Word = 1
kind_number kinds.Rule = 2
kind_number (kinds.Unlisted n) = 0

-- an unlisted store is never written
abbrev pub store_number : Store → ℕ
store_number stores.Preamble = 0
store_number stores.Lines = 1
store_number (stores.Unlisted n) = 0

-- a number from zero up as it is; one below zero is never written
abbrev pub natural : ℤ → ℕ
natural (pos n) = n
natural (negsuc n) = 0

-- what every box has
abbrev pub frame_numbers : BoxRecord → List ℕ
frame_numbers r = kind_number r.kind ∷ zigzag r.x ∷ natural r.y ∷ zigzag r.width ∷ natural r.height ∷ natural r.depth ∷ []

-- what a word has besides
abbrev pub part_numbers : BoxRecord → List ℕ
part_numbers r = store_number r.store ∷ natural r.place ∷ natural r.len ∷ []

abbrev pub only_of_words : Kind → List ℕ → List ℕ
only_of_words kinds.Word ns = ns
only_of_words kinds.Rule ns = []
only_of_words (kinds.Unlisted n) ns = []

-- the numbers of a box
abbrev pub box_numbers : BoxRecord → List ℕ
box_numbers r = frame_numbers r ++ only_of_words r.kind (part_numbers r)

-- the numbers before the boxes: width, total height, how many boxes
abbrev pub head_numbers : ℤ → ℤ → ℕ → List ℕ
head_numbers t h n = natural t ∷ natural h ∷ n ∷ []

-- the numbers of a list
abbrev pub list_numbers : ℤ → ℤ → List BoxRecord → List ℕ
list_numbers t h boxes = head_numbers t h (length boxes) ++ flat_map box_numbers boxes

-- the bytes of a box
unfoldable pub bytes_of_box : BoxRecord → List ℕ
bytes_of_box r = all_groups (box_numbers r)

-- the bytes of a list
unfoldable pub bytes_of : ℤ → ℤ → List BoxRecord → List ℕ
bytes_of t h boxes = all_groups (head_numbers t h (length boxes)) ++ flat_map bytes_of_box boxes

-- what is said of a width, a height and boxes, said of the list that has them
abbrev pub of_list {ℓ} : {A : Type ℓ} → (ℤ → ℤ → List BoxRecord → A) → BoxList → A
of_list says l = says l.width l.height l.boxes.now
