use Rattle.std.proofs.Common.{◌+◌, ◌*◌, ◌^◌, drop}
use Rattle.extent.specs.Sizes.{Within}
use Rattle.packer.specs.Boxes.{item_boxes}
use Rattle.packer.specs.Walks.{spot_at, fills_by}
use Rattle.packer.specs.Views.{look_in, items_from}
use Rattle.packer.proofs.Walks.{Left}
use Rattle.packer.proofs.source.Source.draw_items.Given as goal

abbrev pub invariant-loop-item : goal.invariant-loop-item
invariant-loop-item g l =
    let look = look_in g.M.Measurer g.M.Extent.Extent l.self in
    let f = fills_by l.shared in
    record {
      near : Within (2 ^ 41 + 1073741823 * l.item-index) l.at.x;
      left : Left l.self (g.M.Measurer.meaning l.self.measurer.now) look f l.initial.pen (item_boxes look f 0 (spot_at l.initial.at) (items_from l.self l.items l.initial.at.place)) (drop l.item-index l.items) l.passed (spot_at l.at) l.pen;
    }
