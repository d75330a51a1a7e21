use Rattle.std.proofs.Common.{◌≡◌, Bool, true, Result, sym, ap, ◌∙◌}
use Rattle.faults.specs.declared.Fault.{Fault}
use Rattle.reader.specs.declared.tokens.Lexeme.{Lexeme}
use Rattle.ledger.specs.Naturals.{wide_of}
use Rattle.rows.specs.Views.{templates_at, room_at, ledger_at}
use Rattle.lines.specs.Lines.{is_noalign, line_by, line_from}
use Rattle.lines.proofs.Whole.{reads-to}
use Rattle.lines.proofs.read.read_from.Goals as goal

pub returns-then-is_noalign : goal.returns-then-is_noalign
returns-then-is_noalign g c =
    let X = g.M.Extent.Extent in
    let wide = wide_of g.M.Measurer X c.args.measurer.now in
    let meaning = g.M.Measurer.meaning c.args.measurer.now in
    let r = c.args.rows.now in
    let P = templates_at r in
    let old = ledger_at r in
    let m = room_at r in
    let text = c.args.text.now in
    let place = c.args.place in
    let l = c.in_ok-lexeme.lexeme in
    let yes : true ≡ is_noalign l.token = sym c.if-is_noalign.true ∙ c.is_noalign.ensures in
    reads-to X.count X.num wide r _ _ c.read_noalign.new.rows c.read_noalign.result
    (ap (λ (b : Bool). line_by text meaning P X.count wide m b old place l) yes ∙ ap (λ (x : Result Lexeme Fault). line_from text meaning P X.count wide m old place x) c.in_ok-lexeme.ensures.answer)
    (c.read_noalign.ensures wide meaning)
