use Rattle.std.proofs.Common.{◌%◌, ◌+◌, ◌/◌, [], ◌∷◌, arith, rules, sym, subst}
use Rattle.boxlist.specs.Groups.{groups_of}
use Rattle.boxlist.specs.Outputs.{HasRoom, Added}
use Rattle.boxlist.proofs.Steps.{groups_last, groups_more, length-groups_last, length-groups_more}
use Rattle.boxlist.proofs.Overs.{room-behind, added-append}
use Rattle.boxlist.proofs.numbers.Output.+put.Goals as goal

pub put_byte-requires : goal.put_byte-requires
put_byte-requires t c = omega (arith, length-groups_last c.args.n)

pub put_byte-requires-else-n-lt128 : goal.put_byte-requires-else-n-lt128
put_byte-requires-else-n-lt128 t c = omega (arith, length-groups_more c.args.n)

pub put-requires : goal.put-requires
put-requires t c =
    let room = subst (HasRoom c.args.self.now) (groups_more c.args.n c.if-n-lt128.false) c.requires in
    (search rules, room-behind _ _ ((c.args.n % 128 + 128) ∷ []) (groups_of (c.args.n / 128)) c.put_byte-else-n-lt128.ensures room)

pub returns-then-n-lt128 : goal.returns-then-n-lt128
returns-then-n-lt128 t c = subst (Added _ _) (sym (groups_last c.args.n c.if-n-lt128.true)) c.put_byte.ensures

pub returns-else-n-lt128 : goal.returns-else-n-lt128
returns-else-n-lt128 t c =
    let room = subst (HasRoom c.args.self.now) (groups_more c.args.n c.if-n-lt128.false) c.requires in
    subst (Added _ _) (sym (groups_more c.args.n c.if-n-lt128.false)) (added-append _ _ ((c.args.n % 128 + 128) ∷ []) (groups_of (c.args.n / 128)) c.put_byte-else-n-lt128.ensures room _ c.put.ensures)
