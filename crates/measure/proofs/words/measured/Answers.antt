use Rattle.std.proofs.Common.{◌≡◌, Err, ap, ◌∙◌, rules}
use Rattle.std.proofs.lemmas.Result.{err_from_is_err_and}
use Rattle.measure.specs.Asked.{characterless}
use Rattle.measure.specs.Bounds.{Bounded}
use Rattle.measure.proofs.Worded.{word_passed, measured-refused, measured-meant, measured-word, measured-law, measured_within}
use Rattle.measure.proofs.words.measured.Goals as goal

pub returns-in_err-check_word : goal.returns-in_err-check_word
returns-in_err-check_word g c =
    let meant = g.M.Measurer.meaning c.args.m.now in
    let w = c.args.word.now in
    let p = err_from_is_err_and c.from_residual.result c.from_residual.ensures.1 in
    let a = measured-refused meant w c.in_err-check_word.field-0.0 c.in_err-check_word.ensures in
    let l = measured-law meant w (Err c.in_err-check_word.field-0.0) a in
    let n = measured_within (Bounded g.M.Extent.Extent.count g.M.Extent.Extent.num) meant w (Err c.in_err-check_word.field-0.0) (g.met.M.Measurer.bounded c.args.m.now w) (g.met.M.Measurer.placed c.args.m.now w) l in
    rw (p.1, p.2) (record { answer = a; meant = λ h. a ∙ measured-meant meant w h; law = l; within = n })

pub returns : goal.returns
returns g c =
    let meant = g.M.Measurer.meaning c.args.m.now in
    let w = c.args.word.now in
    let h = word_passed w c.in_ok-check_word.ensures in
    let m : c.map_err.result ≡ characterless c.word.result = search rules in
    let r : c.map_err.result ≡ characterless (meant w) = m ∙ ap characterless (c.word.ensures.answer h) in
    let a = measured-word meant w h c.map_err.result r in
    let l = measured-law meant w c.map_err.result a in
    let n = measured_within (Bounded g.M.Extent.Extent.count g.M.Extent.Extent.num) meant w c.map_err.result (g.met.M.Measurer.bounded c.args.m.now w) (g.met.M.Measurer.placed c.args.m.now w) l in
    record { answer = a; meant = λ _. r; law = l; within = n }
