use Rattle.std.proofs.Common.{◌≡◌, ℕ, Option, None, Some, Ok, Err, refl, sym, ap, ◌∙◌, arith}
use Rattle.std.proofs.lemmas.Result.{err_from_is_err_and}
use Rattle.faults.specs.declared.Fault.{Fault}
use Rattle.ledger.specs.Ledger.{Ledger}
use Rattle.ledger.specs.Calls.{rule_verdict}
use Rattle.rows.specs.Views.{templates_at, room_at, ledger_at}
use Rattle.lines.specs.Lines.{noalign_by}
use Rattle.lines.specs.Bares.{line_with}
use Rattle.lines.proofs.Bares.{noalign-is}
use Rattle.lines.proofs.Calling.{placed-ok, placed-err}
use Rattle.lines.proofs.Crowding.{none-verdict, some-verdict}
use Rattle.lines.proofs.noalign.read_noalign.Goals as goal

pub returns-in_err-placed : goal.returns-in_err-placed
returns-in_err-placed g c = λ wide meaning.
    let X = g.E.Extent in
    let r = c.args.rows.now in
    let P = templates_at r in
    let old = ledger_at r in
    let v = rule_verdict P (room_at r) old in
    let err = err_from_is_err_and c.from_residual.result c.from_residual.ensures.1 in
    let why = placed-err c.args.place c.check_rule.result c.in_err-placed.field-0.0 c.in_err-placed.ensures in
    let is : Some why.0 ≡ v = some-verdict v why.0 (sym why.1 ∙ c.check_rule.ensures.answer) in
    rw (err.1, err.2) (record {
      is = λ s. ap Err why.2 ∙ ap (λ (x : Option Fault). noalign_by c.args.text.now meaning P X.count wide (room_at r) x old c.args.place c.args.end) is;
      sound = λ s. s;
      stays = record { preamble = refl; lens = refl };
      lines = refl;
    })

pub returns-in_err-bare : goal.returns-in_err-bare
returns-in_err-bare g c = λ wide meaning.
    let X = g.E.Extent in
    let r = c.args.rows.now in
    let P = templates_at r in
    let old = ledger_at r in
    let v = rule_verdict P (room_at r) old in
    let err = err_from_is_err_and c.from_residual-in_err-bare.result c.from_residual-in_err-bare.ensures.1 in
    let is : None ≡ v = none-verdict v (sym (placed-ok c.args.place c.check_rule.result c.in_ok-placed.field-0 c.in_ok-placed.ensures) ∙ c.check_rule.ensures.answer) in
    rw (err.1, err.2) (record {
      is = λ s. ap (line_with old) c.in_err-bare.ensures.is ∙ noalign-is c.args.text.now meaning P X.count wide (room_at r) old c.args.end ∙ ap (λ (x : Option Fault). noalign_by c.args.text.now meaning P X.count wide (room_at r) x old c.args.place c.args.end) is;
      sound = λ s. s;
      stays = record { preamble = refl; lens = refl };
      lines = refl;
    })

pub returns-in_err-rule : goal.returns-in_err-rule
returns-in_err-rule g c = λ wide meaning.
    let r = c.args.rows.now in
    let v = rule_verdict (templates_at r) (room_at r) (ledger_at r) in
    let none : None ≡ v = none-verdict v (sym (placed-ok c.args.place c.check_rule.result c.in_ok-placed.field-0 c.in_ok-placed.ensures) ∙ c.check_rule.ensures.answer) in
    let some : Some c.in_err-rule.field-0.0 ≡ v = some-verdict v c.in_err-rule.field-0.0 c.in_err-rule.ensures.answer in
    let z : ◌≡◌ {A = Option Fault} None (Some c.in_err-rule.field-0.0) = none ∙ sym some in
    let u : ◌≡◌ {A = ℕ} 0 1 = cc in
    absurd (omega arith)

pub returns : goal.returns
returns g c = λ wide meaning.
    let X = g.E.Extent in
    let r = c.args.rows.now in
    let P = templates_at r in
    let old = ledger_at r in
    let v = rule_verdict P (room_at r) old in
    let b = c.in_ok-bare.bare in
    let is : None ≡ v = none-verdict v (sym (placed-ok c.args.place c.check_rule.result c.in_ok-placed.field-0 c.in_ok-placed.ensures) ∙ c.check_rule.ensures.answer) in
    record {
      is = λ s. ap (λ (k : Ledger). Ok (record { bytes = b.end; ledger = k })) c.in_ok-rule.ensures.ledger
          ∙ ap (line_with old) c.in_ok-bare.ensures.is ∙ noalign-is c.args.text.now meaning P X.count wide (room_at r) old c.args.end ∙ ap (λ (x : Option Fault). noalign_by c.args.text.now meaning P X.count wide (room_at r) x old c.args.place c.args.end) is;
      sound = c.in_ok-rule.ensures.sound wide;
      stays = c.in_ok-rule.ensures.stays;
      lines = tt;
    }
