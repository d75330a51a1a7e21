use Rattle.std.proofs.Common.{◌≡◌, ℤ, pos, codes, ap, ◌∙◌, arith, w64, to_z, of_z}
use Rattle.std.proofs.lemmas.Result.{err_from_is_err_and}
use Rattle.std.proofs.lemmas.Int.{ints}
use Rattle.lengths.specs.declared.order.Order.TheVariants.{Points}
use Rattle.lengths.specs.Dimens.{begins_with}
use Rattle.lengths.specs.Gaps.{parts}
use Rattle.lengths.proofs.Glueing.{glue-refused, glue-plain, glue-short, glue-stretched}
use Rattle.lengths.proofs.GlueLaws.{reads-glue}
use Rattle.lengths.proofs.glue.glue_at.Goals as goal

pub returns-in_err-sp : goal.returns-in_err-sp
returns-in_err-sp c =
    let p = err_from_is_err_and c.from_residual.result c.from_residual.ensures.1 in
    let e = glue-refused c.args.text.now c.args.place c.in_err-sp.field-0.0 c.in_err-sp.ensures.answer in
    rw (p.1, p.2) (record { answer = e; within = tt; law = reads-glue c.args.text.now c.args.place _ e })

pub returns-in_err-stretch : goal.returns-in_err-stretch
returns-in_err-stretch c =
    let p = err_from_is_err_and c.from_residual-in_err-stretch.result c.from_residual-in_err-stretch.ensures.1 in
    let l = c.in_ok-sp.field-0 in
    let text = c.args.text.now in
    let e = glue-short text c.args.place l c.in_ok-sp.ensures.answer c.spaces_end.result c.spaces_end.ensures.answer
    (c.if-begins.ensures.is ∙ ap (begins_with (codes "plus")) c.rest_at.ensures.is)
    c.in_err-stretch.field-0.0 c.in_err-stretch.ensures.is in
    rw (p.1, p.2) (record { answer = e; within = tt; law = reads-glue text c.args.place _ e })

pub returns-in_ok-stretch : goal.returns-in_ok-stretch
returns-in_ok-stretch c =
    let l = c.in_ok-sp.field-0 in
    let s = c.in_ok-stretch.stretch in
    let text = c.args.text.now in
    let told = c.in_ok-sp.ensures.within in
    let more = c.in_ok-stretch.ensures.inside in
    let natural : to_z w64 (of_z w64 l.sp) ≡ l.sp = omega (arith, ints, told.0.0, told.0.1) in
    let stretch : to_z w64 s.size ≡ pos s.size = omega (arith, ints, more.0) in
    let same = c.of-gap.ensures.answer ∙ ap (λ (z : ℤ). parts z (to_z w64 s.size) s.order) natural ∙ ap (λ (z : ℤ). parts l.sp z s.order) stretch in
    let e = glue-stretched text c.args.place l c.in_ok-sp.ensures.answer c.spaces_end.result c.spaces_end.ensures.answer
    (c.if-begins.ensures.is ∙ ap (begins_with (codes "plus")) c.rest_at.ensures.is)
    s _ same c.in_ok-stretch.ensures.is in
    record { answer = e; within = (omega (arith, told.1, more.1), more.2); law = reads-glue text c.args.place _ e }

pub returns-else-begins : goal.returns-else-begins
returns-else-begins c =
    let l = c.in_ok-sp.field-0 in
    let text = c.args.text.now in
    let told = c.in_ok-sp.ensures.within in
    let natural : to_z w64 (of_z w64 l.sp) ≡ l.sp = omega (arith, ints, told.0.0, told.0.1) in
    let e = glue-plain text c.args.place l c.in_ok-sp.ensures.answer
    _ (c.of-gap-else-begins.ensures.answer ∙ ap (λ (z : ℤ). parts z (pos 0) Points) natural)
    (c.if-begins.ensures.is ∙ ap (begins_with (codes "plus")) c.rest_at.ensures.is) in
    record { answer = e; within = (told.1, told.2); law = reads-glue text c.args.place _ e }
