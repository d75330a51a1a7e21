use Rattle.std.proofs.Common.{◌≡◌, ℕ, ◌≤◌, List, ◌++◌, length, ap, ◌∙◌, arith, rules}
use Rattle.std.specs.List.{flat_map}
use Rattle.boxlist.specs.declared.BoxList.{BoxList}
use Rattle.boxlist.specs.Groups.{all_groups}
use Rattle.boxlist.specs.Format.{bytes_of_box, bytes_of, head_numbers, of_list}
use Rattle.boxlist.specs.Over.{over}
use Rattle.boxlist.specs.Outputs.{HasRoom, Added}
use Rattle.boxlist.specs.declared.numbers.Output.{Output}
use Rattle.boxlist.proofs.Bytes.{length-bytes_list}
use Rattle.boxlist.proofs.Overs.{room-behind, added-append, added-front}
use Rattle.boxlist.proofs.BoxList.put.Goals as goal

abbrev head_bytes : BoxList → List ℕ
head_bytes l = all_groups (head_numbers l.width l.height (length l.boxes.now))

abbrev box_bytes : BoxList → List ℕ
box_bytes l = flat_map bytes_of_box l.boxes.now

room : (o : Output) (l : BoxList) (old : List ℕ) → o.bytes.now ≡ old → o.place ≡ 0 → length (of_list bytes_of l) ≤ length old → HasRoom o (head_bytes l ++ box_bytes l)
unfolding bytes_of
room o l old held front fits = omega (arith, ap length held)

whole : (o p : Output) (l : BoxList) → Added o p (head_bytes l ++ box_bytes l) → Added o p (of_list bytes_of l)
unfolding bytes_of
whole o p l a = a

pub put_all-requires : goal.put_all-requires
put_all-requires c =
    let head = ap (λ l. length (all_groups l)) c.head.ensures in
    let held = ap length c.new-output.ensures.held in
    omega (arith, length-bytes_list c.args.self.width c.args.self.height c.args.self.boxes.now)

pub put_boxes-requires : goal.put_boxes-requires
put_boxes-requires c =
    let l = c.args.self in
    room-behind _ _ (head_bytes l) (box_bytes l) (rw c.head.ensures at c.put_all.ensures)
    (room c.new-output.result l c.args.out.now c.new-output.ensures.held c.new-output.ensures.front c.requires)

pub returns : goal.returns
returns c =
    let l = c.args.self in
    let added = added-append _ _ (head_bytes l) (box_bytes l) (rw c.head.ensures at c.put_all.ensures) (room c.new-output.result l c.args.out.now c.new-output.ensures.held c.new-output.ensures.front c.requires) c.put_boxes.new.out c.put_boxes.ensures in
    let same = added.same ∙ c.new-output.ensures.same in
    let bytes : c.put_boxes.new.out.bytes.now ≡ over c.args.out.now 0 (of_list bytes_of l) = added-front c.new-output.result _ _ _ c.new-output.ensures.held c.new-output.ensures.front (whole _ _ l added) in
    search rules
