use Rattle.std.proofs.Common.{arith, refl}
use Rattle.boxlist.proofs.Joins.{over_last}
use Rattle.packer.proofs.pen.Pen.put.Goals as goal

pub returns : goal.returns
returns c = record {
  same = refl;
  next = refl;
  records = over_last c.args.self.now.records.now c.args.self.now.next c.args.drawn (omega arith);
}
