use Rattle.std.proofs.Common.{ap, ◌∙◌}
use Rattle.measure.specs.Monos.{parts_of, mono_meaning}
use Rattle.measure.specs.Pitched.{front-taken, word-monospaced}
use Rattle.measure.proofs.mono.measuring.MonoMeasurer.word.Goals as goal

pub returns-clause-law : goal.returns-clause-law
returns-clause-law c =
    let m = parts_of c.args.self.now in
    let w = c.args.bytes.now in
    word-monospaced m w c.measure.result (c.measure.ensures ∙ ap (mono_meaning m) (front-taken w c.min.result c.min.ensures))

pub returns-clause-always : goal.returns-clause-always
returns-clause-always c =
    let m = parts_of c.args.self.now in
    c.measure.ensures ∙ ap (mono_meaning m) (front-taken c.args.bytes.now c.min.result c.min.ensures)
