use Rattle.std.proofs.Common.{ℤ, w64, subst, rules}
use Rattle.std.proofs.lemmas.Int.{to_z-of_z}
use Rattle.packer.specs.Views.{Drawn}
use Rattle.packer.proofs.Going.{going-start}
use Rattle.packer.proofs.RowLeft.{boxes_from, room-at, few-own, known-own, text-own, lies-own, stored-own, room-own, next-left, none-left}
use Rattle.packer.proofs.source.Source.draw_row.Goals as goal

pub loop-entry-init : goal.loop-entry-init
loop-entry-init g c =
    let r = c.requires in
    record { ready = record { few = r.few; known = r.known; stored = r.stored; counts = r.counts; text = r.text }; going = λ q a. going-start _ _ }

pub draw_entry-requires-clause-few : goal.draw_entry-requires-clause-few
draw_entry-requires-clause-few g c =
    few-own c.loop-entry-test.true c.entry-item.is c.loop-entry.invariant c.split_at.ensures.front c.min.ensures

pub draw_entry-requires-clause-known : goal.draw_entry-requires-clause-known
draw_entry-requires-clause-known g c =
    known-own c.loop-entry-test.true c.entry-item.is c.loop-entry.invariant c.split_at.ensures.front c.min.ensures

pub draw_entry-requires-clause-text : goal.draw_entry-requires-clause-text
draw_entry-requires-clause-text g c =
    text-own c.loop-entry-test.true c.entry-item.is c.loop-entry.invariant c.split_at.ensures.front c.min.ensures

pub draw_entry-requires-clause-lies : goal.draw_entry-requires-clause-lies
draw_entry-requires-clause-lies g c =
    lies-own c.loop-entry-test.true c.entry-item.is c.loop-entry.invariant c.split_at.ensures.front c.min.ensures

pub draw_entry-requires-clause-stored : goal.draw_entry-requires-clause-stored
draw_entry-requires-clause-stored g c =
    stored-own c.loop-entry-test.true c.entry-item.is c.loop-entry.invariant c.split_at.ensures.front c.min.ensures

pub draw_entry-requires-clause-room : goal.draw_entry-requires-clause-room
draw_entry-requires-clause-room g c =
    room-own c.loop-entry-test.true c.entry-item.is c.loop-entry.invariant c.split_at.ensures.front c.min.ensures
    (room-at g.M.Measurer g.M.Extent.Extent c.args.self.now c.args.columns.now c.args.entries.now c.args.items.now c.args.place c.args.pen.now c.args.baseline c.ranges.baseline c.requires.room)

pub total_bytes-place-requires : goal.total_bytes-place-requires
total_bytes-place-requires g c =
    let fits = text-own c.loop-entry-test.true c.entry-item.is c.loop-entry.invariant c.split_at.ensures.front c.min.ensures in
    search rules

pub overflow_add-place : goal.overflow_add-place
overflow_add-place g c =
    let fits = text-own c.loop-entry-test.true c.entry-item.is c.loop-entry.invariant c.split_at.ensures.front c.min.ensures in
    search rules

pub loop-entry-preserved : goal.loop-entry-preserved
loop-entry-preserved g c =
    next-left c.loop-entry-test.true c.entry-item.is c.loop-entry.invariant c.split_at.ensures.front c.min.ensures
    (room-at g.M.Measurer g.M.Extent.Extent c.args.self.now c.args.columns.now c.args.entries.now c.args.items.now c.args.place c.args.pen.now c.args.baseline c.ranges.baseline c.requires.room) _ _ _ c.split_at.ensures.back c.total_bytes-place.ensures c.draw_entry.ensures

pub returns : goal.returns
returns g c q a =
    subst (λ (y : ℤ). Drawn c.args.pen.now c.loop-entry.pen (boxes_from g.M.Measurer g.M.Extent.Extent c.args.self.now q y c.args.entries.now c.args.items.now c.args.place)) (to_z-of_z w64 c.args.baseline c.ranges.baseline)
    (none-left c.loop-entry-test.false c.loop-entry.invariant q a)
