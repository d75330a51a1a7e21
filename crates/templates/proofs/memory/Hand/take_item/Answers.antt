use Rattle.std.proofs.Common.{◌≡◌, ℕ, ◌<◌, length, None, Some, subst, ◌∙◌, rules}
use Rattle.std.proofs.lemmas.Result.{err_from_is_err_and}
use Rattle.templates.proofs.Taking.{full-turns, item-turns}
use Rattle.templates.proofs.memory.Hand.take_item.Goals as goal

pub returns-in_err-column : goal.returns-in_err-column
returns-in_err-column g c = λ text wide suits.
    let p = err_from_is_err_and c.from_residual.result c.from_residual.ensures.1 in
    let none : c.longer.result ≡ None = search rules in
    let at : c.in_err-column.field-0.0 ≡ c.at.result = search rules in
    rw (p.1, p.2) (full-turns _ _ _ _ c.args.self c.args.into.now c.args.piece c.requires suits (c.longer.ensures.full none) c.in_err-column.field-0.0 (at ∙ c.at.ensures))

pub returns : goal.returns
returns g c = λ text wide suits.
    let t = c.args.into.now in
    let some : c.longer.result ≡ Some c.in_ok-column.column = search rules in
    let put = c.put_item.ensures in
    rw (put.memory, c.written.ensures)
    (item-turns _ _ _ _ c.args.self t c.args.piece c.requires suits (subst (λ (i : ℕ). i < length t.pieces) c.written.ensures put.room) c.in_ok-column.column
    (rw some at c.longer.ensures.before) (rw some at c.longer.ensures.behind))
