use Rattle.std.proofs.Common.{◌≡◌, Ok, Err, Some, sym, ap, ◌∙◌, rules}
use Rattle.std.proofs.lemmas.Result.{err_from_is_err_and}
use Rattle.ledger.specs.Naturals.{fault_in}
use Rattle.table.specs.Making.{start_of, read_from}
use Rattle.table.proofs.Shapes.{fault-made}
use Rattle.table.proofs.table.Table.try_make.Goals as goal

pub returns-in_err-table-clause-answer : goal.returns-in_err-table-clause-answer
returns-in_err-table-clause-answer g c =
    let R = read_from c.args.text.now (g.M.Measurer.meaning c.args.measurer.now) (start_of c.args.start) in
    let p = err_from_is_err_and c.from_residual.result c.from_residual.ensures.1 in
    let is : c.make-table.result.made ≡ Err c.in_err-table.field-0.0 = search rules in
    ap fault_in p.1 ∙ ap Some p.2 ∙ sym (ap fault_in is) ∙ fault-made R _ c.make-table.ensures.answer

pub returns-clause-answer : goal.returns-clause-answer
returns-clause-answer g c =
    let R = read_from c.args.text.now (g.M.Measurer.meaning c.args.measurer.now) (start_of c.args.start) in
    let is : c.make-table.result.made ≡ Ok c.in_ok-table.field-0 = search rules in
    sym (ap fault_in is) ∙ fault-made R _ c.make-table.ensures.answer
