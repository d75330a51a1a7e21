use Rattle.std.proofs.Common.{◌≡◌, length, sym, ap, arith, subst, rules, tests}
use Rattle.boxlist.specs.declared.Kind.TheVariants as kinds
use Rattle.boxlist.specs.Groups.{all_groups}
use Rattle.boxlist.specs.Format.{frame_numbers, part_numbers}
use Rattle.boxlist.specs.Outputs.{HasRoom, Added}
use Rattle.boxlist.proofs.Bytes.{bytes_word, bytes_other, frame-within}
use Rattle.boxlist.proofs.Overs.{room-behind, added-append}
use Rattle.boxlist.proofs.BoxRecord.put.Goals as goal

pub put_all-requires : goal.put_all-requires
put_all-requires c =
    let frame = ap (λ l. length (all_groups l)) c.frame.ensures in
    omega (arith, frame-within c.args.self.now)

pub put_all-requires-then-eq : goal.put_all-requires-then-eq
put_all-requires-then-eq c =
    let r = c.args.self.now in
    let is : r.kind ≡ kinds.Word = search (rules, tests) in
    let room = subst (HasRoom c.args.out.now) (bytes_word r is) c.requires in
    rw c.part.ensures (room-behind _ _ (all_groups (frame_numbers r)) (all_groups (part_numbers r)) (rw c.frame.ensures at c.put_all.ensures) room)

pub returns-then-eq : goal.returns-then-eq
returns-then-eq c =
    let r = c.args.self.now in
    let is : r.kind ≡ kinds.Word = search (rules, tests) in
    let room = subst (HasRoom c.args.out.now) (bytes_word r is) c.requires in
    let added = added-append _ _ (all_groups (frame_numbers r)) (all_groups (part_numbers r)) (rw c.frame.ensures at c.put_all.ensures) room _ (rw c.part.ensures at c.put_all-then-eq.ensures) in
    subst (Added _ _) (sym (bytes_word r is)) added

pub returns-else-eq : goal.returns-else-eq
returns-else-eq c =
    let isnt : c.args.self.now.kind ≡ kinds.Word → ⊥ = search (rules, tests) in
    subst (Added _ _) (sym (bytes_other c.args.self.now isnt)) (rw c.frame.ensures at c.put_all.ensures)
