-- The numbers of a list that may be written are below 2^42. Assumes nothing.
use Rattle.std.proofs.Common.{◌≡◌, ℕ, ◌^◌, ◌<◌, List, [], ◌∷◌, length, ℤ, pos, negsuc, refl, arith}
use Rattle.std.specs.List.{flat_map, AllByRecursion}
use Rattle.std.proofs.ByRecursion.{All-append}
use Rattle.boxlist.specs.declared.Kind.{Kind}
use Rattle.boxlist.specs.declared.Kind.TheVariants as kinds
use Rattle.boxlist.specs.declared.Store.{Store}
use Rattle.boxlist.specs.declared.Store.TheVariants as stores
use Rattle.boxlist.specs.declared.BoxRecord.{BoxRecord}
use Rattle.boxlist.specs.Groups.{zigzag}
use Rattle.boxlist.specs.Format.{kind_number, store_number, natural, part_numbers, frame_numbers, only_of_words, box_numbers, head_numbers, list_numbers}
use Rattle.boxlist.specs.Lists.{Sized, Counted, WritableBox, Writable}

abbrev Small : ℕ → Type 0
Small n = n < 2 ^ 42

folded_small : (z : ℤ) → Sized z → Small (zigzag z)
folded_small (pos n) h = omega arith
folded_small (negsuc n) h = omega arith

natural-small : (z : ℤ) → Counted z → Small (natural z)
natural-small (pos n) h = omega (arith, h.0)
natural-small (negsuc n) h = omega arith

kind-small : (k : Kind) → Small (kind_number k)
kind-small kinds.Word = omega arith
kind-small kinds.Rule = omega arith
kind-small (kinds.Unlisted n) = omega arith

store-small : (s : Store) → Small (store_number s)
store-small stores.Preamble = omega arith
store-small stores.Lines = omega arith
store-small (stores.Unlisted n) = omega arith

part_small : (k : Kind) (r : BoxRecord) → r.kind ≡ k → WritableBox r → AllByRecursion Small (only_of_words k (part_numbers r))
part_small kinds.Word r j w = (store-small r.store, (natural-small r.place (w.part j).begins, (natural-small r.len (w.part j).long, tt)))
part_small kinds.Rule r j w = tt
part_small (kinds.Unlisted n) r j w = tt

box_small : (r : BoxRecord) → WritableBox r → AllByRecursion Small (box_numbers r)
box_small r w =
    All-append Small (frame_numbers r) (only_of_words r.kind (part_numbers r))
    (kind-small r.kind, (folded_small r.x w.across, (natural-small r.y w.down, (folded_small r.width w.wide, (natural-small r.height w.above, (natural-small r.depth w.below, tt))))))
    (part_small r.kind r refl w)

boxes-small : (boxes : List BoxRecord) → AllByRecursion WritableBox boxes → AllByRecursion Small (flat_map box_numbers boxes)
boxes-small [] w = tt
boxes-small (r ∷ rs) w = All-append Small (box_numbers r) (flat_map box_numbers rs) (box_small r w.0) (boxes-small rs w.1)

pub six_each : (t h : ℤ) (boxes : List BoxRecord) → Writable t h boxes → AllByRecursion (λ n. n < 2 ^ 42) (list_numbers t h boxes)
six_each t h boxes w =
    All-append Small (head_numbers t h (length boxes)) (flat_map box_numbers boxes)
    (natural-small t w.wide, (natural-small h w.high, (omega (arith, w.few), tt)))
    (boxes-small boxes w.each)
