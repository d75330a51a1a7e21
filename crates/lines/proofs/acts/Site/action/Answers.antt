use Rattle.std.proofs.Common.{refl, ◌∙◌}
use Rattle.ledger.specs.Naturals.{wide_of}
use Rattle.lines.proofs.Same.{control-same}
use Rattle.lines.proofs.acts.Site.action.Goals as goal

pub returns-in-Word-clause-is : goal.returns-in-Word-clause-is
returns-in-Word-clause-is g c = λ p columns len. rw c.in-Word.is (c.word.ensures.is p columns)

pub returns-in-Control-clause-is : goal.returns-in-Control-clause-is
returns-in-Control-clause-is g c = λ p columns len.
    let text = c.args.text.now in
    rw c.in-Control.is (c.control.ensures.is p text columns len ∙ control-same text (g.M.Measurer.meaning c.args.measurer.now) columns c.args.self.place c.args.self.column c.in-Control.control)

pub returns-in-Control-clause-measured : goal.returns-in-Control-clause-measured
returns-in-Control-clause-measured g c = c.control.ensures.measured (wide_of g.M.Measurer g.M.Extent.Extent c.args.measurer.now) (λ k. refl)
