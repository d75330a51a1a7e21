use Rattle.std.proofs.Common.{◌≡◌, ℕ, take, sym, ◌∙◌, subst, rules, tests}
use Rattle.std.specs.List.{prefix_len}
use Rattle.std.proofs.lemmas.Iterator.{YieldsList-from_slice}
use Rattle.std.proofs.lemmas.Iterator.Consumers.{count_from_yields_List, YieldsList-at}
use Rattle.std.proofs.lemmas.Iterator.Search.{YieldsList-from_take_while}
use Rattle.std.proofs.lemmas.List.Folds.{length-prefix_len}
use Rattle.lengths.specs.Fractions.{Digits}
use Rattle.lengths.specs.Amounts.{digit_byte}
use Rattle.lengths.proofs.Runs.{run-digits}
use Rattle.lengths.proofs.amount.digit_run.Goals as goal

pub returns-clause-digits : goal.returns-clause-digits
returns-clause-digits c =
    let run : c.count.result ≡ prefix_len digit_byte c.args.s.now =
    count_from_yields_List c.take_while.result _ c.count.ensures.ran
    (YieldsList-from_take_while _ digit_byte (YieldsList-at c.take_while.ensures.source (YieldsList-from_slice c.args.s.now (cc))) c.take_while.ensures.closure c.take_while.ensures.done
    (λ x b q k. search (rules, tests)))
    ∙ length-prefix_len digit_byte c.args.s.now in
    subst (λ (n : ℕ). Digits (take n c.args.s.now)) (sym run) (run-digits c.args.s.now)
