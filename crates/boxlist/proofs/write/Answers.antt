use Rattle.std.proofs.Common.{◌≡◌, ℕ, length, Ok, Err, Result, sym, rules}
use Rattle.faults.specs.declared.Fault.{Fault}
use Rattle.boxlist.specs.Writing.{write_answer, written_over}
use Rattle.boxlist.proofs.Decided.{writable-count}
use Rattle.boxlist.proofs.Outcomes.{wrote}
use Rattle.boxlist.proofs.write.Goals as goal

pub byte_count-need-requires : goal.byte_count-need-requires
byte_count-need-requires c =
    writable-count c.args.list.width c.args.list.height c.args.list.boxes.now (sym c.if-not-is_writable.ensures)

pub returns-then-not-is_writable : goal.returns-then-not-is_writable
returns-then-not-is_writable c =
    let a : ◌≡◌ {A = Result ℕ Fault} (Err c.at.result) (write_answer c.args.list.width c.args.list.height c.args.list.boxes.now (length c.args.out.now)) = search rules in
    let b : c.args.out.now ≡ written_over c.args.list.width c.args.list.height c.args.list.boxes.now c.args.out.now = search rules in
    record { answer = a; bytes = b; law = wrote c.args.list.width c.args.list.height c.args.list.boxes.now c.args.out.now c.args.out.now (Err c.at.result) a b }

pub returns-then-out-need : goal.returns-then-out-need
returns-then-out-need c =
    let a : ◌≡◌ {A = Result ℕ Fault} (Err c.at-then-out-need.result) (write_answer c.args.list.width c.args.list.height c.args.list.boxes.now (length c.args.out.now)) = search rules in
    let b : c.args.out.now ≡ written_over c.args.list.width c.args.list.height c.args.list.boxes.now c.args.out.now = search rules in
    record { answer = a; bytes = b; law = wrote c.args.list.width c.args.list.height c.args.list.boxes.now c.args.out.now c.args.out.now (Err c.at-then-out-need.result) a b }

pub returns : goal.returns
returns c =
    let a : ◌≡◌ {A = Result ℕ Fault} (Ok c.byte_count-need.result) (write_answer c.args.list.width c.args.list.height c.args.list.boxes.now (length c.args.out.now)) = search rules in
    let b : c.put.new.out ≡ written_over c.args.list.width c.args.list.height c.args.list.boxes.now c.args.out.now = search rules in
    record { answer = a; bytes = b; law = wrote c.args.list.width c.args.list.height c.args.list.boxes.now c.args.out.now c.put.new.out (Ok c.byte_count-need.result) a b }
