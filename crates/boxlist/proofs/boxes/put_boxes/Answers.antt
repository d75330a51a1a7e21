use Rattle.std.proofs.Common.{pos}
use Rattle.boxlist.specs.Format.{bytes_of_box}
use Rattle.boxlist.specs.declared.BoxRecord.{BoxRecord}
use Rattle.boxlist.specs.declared.Kind.TheVariants.{Word}
use Rattle.boxlist.specs.declared.Store.TheVariants.{Preamble}
use Rattle.boxlist.proofs.Overs.{room-each, added-each}
use Rattle.boxlist.proofs.boxes.put_boxes.Goals as goal

-- what stands past the end of a row of boxes
abbrev blank : BoxRecord
blank = record { kind = Word; x = pos 0; y = pos 0; width = pos 0; height = pos 0; depth = pos 0; store = Preamble; place = pos 0; len = pos 0 }

pub put-requires : goal.put-requires
put-requires c =
    room-each bytes_of_box c.args.boxes.now c.loop-rec.rec-index blank c.args.out.now c.loop-rec.out c.loop-rec-test.true c.loop-rec.invariant c.requires

pub loop-rec-preserved : goal.loop-rec-preserved
loop-rec-preserved c =
    added-each bytes_of_box c.args.boxes.now c.loop-rec.rec-index blank c.args.out.now c.loop-rec.out c.loop-rec-test.true c.loop-rec.invariant c.requires c.put.new.out c.put.ensures
