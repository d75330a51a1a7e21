use Rattle.std.proofs.Common.{◌∙◌, rules, tests}
use Rattle.std.proofs.lemmas.Iterator.{YieldsList-from_slice}
use Rattle.std.proofs.lemmas.Iterator.Consumers.{count_from_yields_List, YieldsList-at}
use Rattle.std.proofs.lemmas.Iterator.Search.{YieldsList-from_take_while}
use Rattle.std.proofs.lemmas.List.Folds.{length-prefix_len}
use Rattle.reader.proofs.text.run_len.Goals as goal

pub returns-clause-is : goal.returns-clause-is
returns-clause-is g c p h =
    count_from_yields_List c.take_while.result _ c.count.ensures.ran
    (YieldsList-from_take_while _ p (YieldsList-at c.take_while.ensures.source (YieldsList-from_slice c.args.s.now (cc))) c.take_while.ensures.closure c.take_while.ensures.done
    (λ x b q k. search (rules, tests, h)))
    ∙ length-prefix_len p c.args.s.now
