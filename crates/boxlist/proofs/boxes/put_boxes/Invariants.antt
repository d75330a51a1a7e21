use Rattle.std.proofs.Common.{take}
use Rattle.std.specs.List.{flat_map}
use Rattle.boxlist.specs.Format.{bytes_of_box}
use Rattle.boxlist.specs.Outputs.{Added}
use Rattle.boxlist.proofs.boxes.put_boxes.Given as goal

abbrev pub invariant-loop-rec : goal.invariant-loop-rec
invariant-loop-rec l = Added l.initial.out l.out (flat_map bytes_of_box (take l.rec-index l.boxes))
