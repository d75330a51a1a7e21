use Rattle.std.proofs.Common.{◌≡◌, ℕ, ◌-◌, take, ap, ◌∙◌, arith}
use Rattle.table.proofs.Bytes.{text-is}
use Rattle.table.proofs.table.Table.line_text.Goals as goal

pub returns : goal.returns
returns g c =
    let t = c.args.self.now in
    let n = t.rows.draft.state.laid.text in
    ap (λ (i : ℕ). take i t.rows.draft.memory.text.now) (let e : n - 0 ≡ n = omega arith in e) ∙ text-is t
