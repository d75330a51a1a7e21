use Rattle.std.proofs.Common.{◌≡◌, ◌≤◌, ◌<◌, length, sym, ap, ◌∙◌, ⊎_elim, inl, inr, arith, rules}
use Rattle.std.proofs.lemmas.Bool.{cases_lt}
use Rattle.faults.specs.declared.Cause.TheVariants.{BadLength}
use Rattle.faults.specs.Faults.{number_of, fault_at}
use Rattle.lengths.proofs.Missing.{missing-end, missing-token, missing-fault, missing-other, number-above}
use Rattle.lengths.proofs.length.missing.Goals as goal
use Rattle.lengths.proofs.length.missing.Goals.{in_default-via-in-Err+else-matches, in-BadByte, in_default-matches, in_default-via-in_default}

pub returns-in-Err : goal.returns-in-Err
returns-in-Err c =
    let inside : c.args.place < length c.args.text.now = c.in-Err.ensures.onward.1 in
    let small : number_of c.in-Err.fault.cause ≤ 2 = elim c.match-matches.branch [
      | in-BadByte w ↦ ⊎_elim (λ e. omega (arith, ap number_of e)) (λ e. omega (arith, ap number_of e)) w.in-BadByte.is
      | in_default-matches w ↦ absurd (search rules)
    ] in
    sym (missing-fault c.args.text.now c.args.place c.in-Err.fault inside (sym c.in-Err.ensures.answer) small)

pub returns-in_default : goal.returns-in_default
returns-in_default c =
    let text = c.args.text.now in
    let place = c.args.place in
    elim c.in_default.branch [
      | in_default-via-in-Err+else-matches w ↦
          let inside : place < length text = w.in-Err.ensures.onward.1 in
          let near : c.min.result ≡ place = omega arith in
          elim w.match-matches.branch [
            | in-BadByte v ↦ absurd (search rules)
            | in_default-matches v ↦
                c.at.ensures ∙ ap (fault_at BadLength) near
                ∙ sym (missing-other text place w.in-Err.fault inside (sym w.in-Err.ensures.answer) (number-above w.in-Err.fault.cause v.in_default-matches.not-BadByte v.in_default-matches.not-UnknownControl))
          ]
      | in_default-via-in_default w ↦
          let token = sym c.token_at.ensures.answer ∙ w.in_default.is in
          elim (cases_lt place (length text)) [
            | inl inside ↦
                let near : c.min.result ≡ place = omega arith in
                c.at.ensures ∙ ap (fault_at BadLength) near ∙ sym (missing-token text place w.in_default.field-0 inside token)
            | inr over ↦
                let last : c.min.result ≡ length text = omega arith in
                c.at.ensures ∙ ap (fault_at BadLength) last ∙ sym (missing-end text place over)
          ]
    ]
