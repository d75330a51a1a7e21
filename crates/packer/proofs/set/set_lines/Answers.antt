use Rattle.std.proofs.Common.{◌≡◌, ℕ, ◌+◌, ◌<◌, ◌≤◌, true, false, nat_le, List, length, pos, Ok, Err, to_z, of_z, w64, FitsSigned, sym, ap, ◌∙◌, subst, arith, rules}
use Rattle.std.proofs.lemmas.Bool.Decides.{nat_tests}
use Rattle.std.proofs.lemmas.Int.{to_z-of_z}
use Rattle.faults.specs.declared.Cause.TheVariants as cause
use Rattle.faults.specs.Faults.{fault_at}
use Rattle.boxlist.specs.declared.BoxRecord.{BoxRecord}
use Rattle.boxlist.specs.Over.{over}
use Rattle.ledger.specs.Ledger.{Item}
use Rattle.ledger.specs.Lawful.{all_fine}
use Rattle.rows.specs.Views.{ledger_at}
use Rattle.packer.specs.declared.pen.Pen.{Pen}
use Rattle.packer.specs.Looks.{look_of}
use Rattle.packer.specs.Lines.{table_boxes}
use Rattle.packer.specs.Settings.{Setting, lines_set, laid_of, set_answer, set_records}
use Rattle.packer.specs.Views.{Stored, Drawn}
use Rattle.packer.proofs.Sounds.{held_items, held_entries, laid-items, laid-count, laid-stored}
use Rattle.packer.proofs.set.set_lines.Goals as goal

module _ (room : ℕ) (s : Setting) where
  refused : room < length s.boxes → Err (fault_at cause.TooLittleRoom 0) ≡ set_answer room (Ok s)
  refused h = let f : nat_le (length s.boxes) room ≡ false = grind (arith, nat_tests) in rw f

  answered : length s.boxes ≤ room → Ok (laid_of s) ≡ set_answer room (Ok s)
  answered h = let f : nat_le (length s.boxes) room ≡ true = grind (arith, nat_tests) in rw f

module _ (old : List BoxRecord) (s : Setting) where
  untouched : length old < length s.boxes → old ≡ set_records (Ok s) old
  untouched h = let f : nat_le (length s.boxes) (length old) ≡ false = grind (arith, nat_tests) in rw f

  written : length s.boxes ≤ length old → over old 0 s.boxes ≡ set_records (Ok s) old
  written h = let f : nat_le (length s.boxes) (length old) ≡ true = grind (arith, nat_tests) in rw f

-- what is drawn from the front on
drawn-front : (o p : Pen) (old bs : List BoxRecord) → o.records.now ≡ old → o.next ≡ 0 → Drawn o p bs → p.records.now ≡ over old 0 bs
drawn-front o p old bs held front drawn = drawn.records ∙ (λ i. over (held i) (front i) bs)

pub returns-then-records-boxes-clause-answer : goal.returns-then-records-boxes-clause-answer
returns-then-records-boxes-clause-answer g c q a =
    let r = c.args.rows.now in
    let l = look_of g.M.Measurer g.M.Extent.Extent c.args.measurer.now c.args.side in
    let n = laid-count r.preamble r.draft.state r.draft.memory r.good.fit l q c.args.width (pos 0) 0 in
    (λ i. Err (c.at.ensures i)) ∙ refused (length c.args.records.now) (lines_set l q (ledger_at r).lines c.args.width) (omega (arith, n, c.count_words.ensures.is, c.count_rules.ensures.is, c.if-records-boxes.true))

pub returns-then-records-boxes-clause-records : goal.returns-then-records-boxes-clause-records
returns-then-records-boxes-clause-records g c q a =
    let r = c.args.rows.now in
    let l = look_of g.M.Measurer g.M.Extent.Extent c.args.measurer.now c.args.side in
    let n = laid-count r.preamble r.draft.state r.draft.memory r.good.fit l q c.args.width (pos 0) 0 in
    untouched c.args.records.now (lines_set l q (ledger_at r).lines c.args.width) (omega (arith, n, c.count_words.ensures.is, c.count_rules.ensures.is, c.if-records-boxes.true))

pub draw_lines-height-requires-clause-known : goal.draw_lines-height-requires-clause-known
draw_lines-height-requires-clause-known g c =
    let r = c.args.rows.now in
    subst (λ (xs : List Item). all_fine (g.M.Measurer.meaning c.args.measurer.now) xs ≡ true) (laid-items r.preamble r.draft.state r.draft.memory r.good.fit) c.requires.known

pub draw_lines-height-requires-clause-stored : goal.draw_lines-height-requires-clause-stored
draw_lines-height-requires-clause-stored g c =
    let r = c.args.rows.now in
    subst (λ (n : ℕ). Stored g.M.Extent.Extent.num (look_of g.M.Measurer g.M.Extent.Extent c.args.measurer.now c.args.side) c.args.side n (held_entries r.preamble r.draft.state r.draft.memory r.good.fit) (held_items r.preamble r.draft.state r.draft.memory r.good.fit)) (sym c.requires.columns)
    (laid-stored r.preamble r.draft.state r.draft.memory r.good.fit g.M.Measurer g.M.Extent.Extent c.args.measurer.now c.args.side c.requires.side c.requires.sound)

pub draw_lines-height-requires-clause-room : goal.draw_lines-height-requires-clause-room
draw_lines-height-requires-clause-room g c q a =
    let r = c.args.rows.now in
    let l = look_of g.M.Measurer g.M.Extent.Extent c.args.measurer.now c.args.side in
    let n = laid-count r.preamble r.draft.state r.draft.memory r.good.fit l q (to_z w64 (of_z w64 c.args.width)) (pos 0) 0 in
    let p = c.new-pen.ensures in
    omega (arith, n, c.count_words.ensures.is, c.count_rules.ensures.is, c.if-records-boxes.false, p.front, ap length p.held)

pub returns-clause-answer : goal.returns-clause-answer
returns-clause-answer g c q a =
    let r = c.args.rows.now in
    let l = look_of g.M.Measurer g.M.Extent.Extent c.args.measurer.now c.args.side in
    let n = laid-count r.preamble r.draft.state r.draft.memory r.good.fit l q c.args.width (pos 0) 0 in
    let w = to_z-of_z w64 c.args.width c.ranges.width in
    let kept : FitsSigned w64 c.draw_lines-height.result = record { sfits = c.draw_lines-height.type_inv } in
    let h = to_z-of_z w64 c.draw_lines-height.result kept ∙ c.draw_lines-height.ensures.height in
    let boxes : c.count_words.result + c.count_rules.result ≡ length (table_boxes l q c.args.width (pos 0) 0 (ledger_at r).lines) = omega (arith, n, c.count_words.ensures.is, c.count_rules.ensures.is) in
    (λ i. Ok (record { width = w i; height = h i; boxes = boxes i })) ∙ answered (length c.args.records.now) (lines_set l q (ledger_at r).lines c.args.width) (omega (arith, n, c.count_words.ensures.is, c.count_rules.ensures.is, c.if-records-boxes.false))

pub returns-clause-records : goal.returns-clause-records
returns-clause-records g c q a =
    let r = c.args.rows.now in
    let l = look_of g.M.Measurer g.M.Extent.Extent c.args.measurer.now c.args.side in
    let n = laid-count r.preamble r.draft.state r.draft.memory r.good.fit l q c.args.width (pos 0) 0 in
    let p = c.new-pen.ensures in
    let drawn = c.draw_lines-height.ensures.boxes q a in
    let same = drawn.same ∙ p.same in
    let w = to_z-of_z w64 c.args.width c.ranges.width in
    let bs = table_boxes l q c.args.width (pos 0) 0 (ledger_at r).lines in
    let records : c.draw_lines-height.new.pen.records.now ≡ over c.args.records.now 0 bs =
    drawn-front c.new-pen.result c.draw_lines-height.new.pen c.args.records.now _ p.held p.front drawn ∙ (λ i. over c.args.records.now 0 (table_boxes l q (w i) (pos 0) 0 (ledger_at r).lines)) in
    let all = records ∙ written c.args.records.now (lines_set l q (ledger_at r).lines c.args.width) (omega (arith, n, c.count_words.ensures.is, c.count_rules.ensures.is, c.if-records-boxes.false)) in
    search rules
