use Rattle.boxlist.specs.Groups.{groups_of}
use Rattle.boxlist.proofs.Overs.{room-each, added-each}
use Rattle.boxlist.proofs.numbers.Output.put_all.Goals as goal

pub put-requires : goal.put-requires
put-requires c =
    room-each groups_of c.args.numbers.now c.loop-n.n-index 0 c.args.self.now c.loop-n.self c.loop-n-test.true c.loop-n.invariant c.requires

pub loop-n-preserved : goal.loop-n-preserved
loop-n-preserved c =
    added-each groups_of c.args.numbers.now c.loop-n.n-index 0 c.args.self.now c.loop-n.self c.loop-n-test.true c.loop-n.invariant c.requires c.put.new.self c.put.ensures
