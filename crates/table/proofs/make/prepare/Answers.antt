use Rattle.std.proofs.Common.{◌≡◌, ℕ, [], take, ℤ, Result, sym, refl, ap, ◌∙◌, subst}
use Rattle.faults.specs.declared.Fault.{Fault}
use Rattle.ledger.specs.Ledger.{Item}
use Rattle.ledger.specs.Naturals.{wide_of}
use Rattle.ledger.specs.Preambles.{Preamble}
use Rattle.templates.specs.declared.memory.Read.{Read}
use Rattle.templates.specs.Kept.{Widths}
use Rattle.table.specs.Making.{start_of, read_from, bytes_read, text_made, templates_made, gaps_made, Shaped}
use Rattle.table.proofs.Shapes.{read-shaped}
use Rattle.table.proofs.Blanks.{blank-shaped, blank-widths}
use Rattle.table.proofs.make.prepare.Goals as goal

pub returns-in-Ok : goal.returns-in-Ok
returns-in-Ok g c =
    let text = c.args.text.now in
    let t = c.read_at.new.templates in
    let d = c.in-Ok.read in
    let e = c.in-Ok.ensures in
    let s = start_of c.args.start in
    let k = e.kept in
    let R = read_from text (g.M.Measurer.meaning c.args.measurer.now) s in
    record {
      made = ap bytes_read e.answer;
      shaped = read-shaped text t d s k.0 R k.1 k.2 e.answer;
      widths = e.widths;
      text = subst (λ (r : Result Preamble Fault). take d.bytes text ≡ text_made text r) e.answer refl;
    }

pub returns-in-Err : goal.returns-in-Err
returns-in-Err g c =
    let text = c.args.text.now in
    let t = c.blank.new.templates in
    let e = c.in-Err.ensures.answer in
    let s = start_of c.args.start in
    let b = c.blank.ensures in
    let X = g.M.Extent.Extent in
    let wide : Item → ℕ → ℤ = wide_of g.M.Measurer g.M.Extent.Extent c.args.measurer.now in
    let is = sym b.answer in
    record {
      made = ap bytes_read e;
      shaped = subst (λ (d : Read). Shaped text t d (templates_made (read_from text (g.M.Measurer.meaning c.args.measurer.now) s)) (gaps_made s (read_from text (g.M.Measurer.meaning c.args.measurer.now) s))) is
          (subst (λ (r : Result Preamble Fault). Shaped text t (record { columns = 1; pieces = 0; bytes = 0 }) (templates_made r) (gaps_made s r)) e (blank-shaped text t b.column.0 b.column.1.0 b.gap));
      widths = subst (λ (d : Read). Widths X.count X.num wide text t d) is (blank-widths text t b.column.0 b.column.1.0 X.count X.num wide b.column.1.1);
      text = ap (λ (d : Read). take d.bytes text) b.answer ∙ subst (λ (r : Result Preamble Fault). [] ≡ text_made text r) e refl;
    }
