-- The bytes of boxes, by their kind and one box further. Assumes nothing.
use Rattle.std.proofs.Common.{◌≡◌, ℕ, ◌+◌, ◌≤◌, List, [], ◌++◌, length, ℤ, refl, ap, ◌∙◌, arith}
use Rattle.std.specs.List.{flat_map}
use Rattle.std.proofs.lemmas.List.{length-append}
use Rattle.std.proofs.lemmas.List.Concat.{flat_map-append}
use Rattle.boxlist.specs.declared.Kind.{Kind}
use Rattle.boxlist.specs.declared.Kind.TheVariants as kinds
use Rattle.boxlist.specs.declared.BoxRecord.{BoxRecord}
use Rattle.boxlist.specs.Groups.{all_groups, groups_of}
use Rattle.boxlist.specs.Format.{frame_numbers, part_numbers, only_of_words, bytes_of_box, bytes_of, head_numbers}

pub bytes_word : (r : BoxRecord) → r.kind ≡ kinds.Word → bytes_of_box r ≡ all_groups (frame_numbers r) ++ all_groups (part_numbers r)
unfolding bytes_of_box
bytes_word r e =
    ap (λ k. all_groups (frame_numbers r ++ only_of_words k (part_numbers r))) e
    ∙ flat_map-append groups_of (frame_numbers r) (part_numbers r)

nothing_else : (k : Kind) (ns : List ℕ) → (k ≡ kinds.Word → ⊥) → only_of_words k ns ≡ []
nothing_else kinds.Word ns h = absurd (h refl)
nothing_else kinds.Rule ns h = refl
nothing_else (kinds.Unlisted n) ns h = refl

pub bytes_other : (r : BoxRecord) → (r.kind ≡ kinds.Word → ⊥) → bytes_of_box r ≡ all_groups (frame_numbers r)
unfolding bytes_of_box
bytes_other r h = ap (λ ns. all_groups (frame_numbers r ++ ns)) (nothing_else r.kind (part_numbers r) h)

pub frame-within : (r : BoxRecord) → length (all_groups (frame_numbers r)) ≤ length (bytes_of_box r)
unfolding bytes_of_box
frame-within r =
    omega (arith, ap length (flat_map-append groups_of (frame_numbers r) (only_of_words r.kind (part_numbers r))), length-append (all_groups (frame_numbers r)) (all_groups (only_of_words r.kind (part_numbers r))))

pub bytes-list : (t h : ℤ) (boxes : List BoxRecord) → bytes_of t h boxes ≡ all_groups (head_numbers t h (length boxes)) ++ flat_map bytes_of_box boxes
unfolding bytes_of
bytes-list t h boxes = refl

pub length-bytes_list : (t h : ℤ) (boxes : List BoxRecord) → length (bytes_of t h boxes) ≡ length (all_groups (head_numbers t h (length boxes))) + length (flat_map bytes_of_box boxes)
length-bytes_list t h boxes = ap length (bytes-list t h boxes) ∙ length-append (all_groups (head_numbers t h (length boxes))) (flat_map bytes_of_box boxes)
