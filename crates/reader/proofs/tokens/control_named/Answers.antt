use Rattle.std.proofs.Common.{◌∷◌, sym, ◌∙◌, rules, tests}
use Rattle.std.specs.Str.{bytes_eq}
use Rattle.std.proofs.lemmas.Iterator.{YieldsList-from_slice}
use Rattle.std.proofs.lemmas.Iterator.Adapters.{option_map_id}
use Rattle.std.proofs.lemmas.Iterator.Consumers.{YieldsList-at, YieldsList-from_copied}
use Rattle.std.proofs.lemmas.Iterator.Search.{find_from_yields_List}
use Rattle.reader.specs.Tokens.{letters_of, controls}
use Rattle.reader.proofs.Spellings.{spelled-found}
use Rattle.reader.proofs.tokens.control_named.Goals as goal

pub returns : goal.returns
returns c =
    sym (option_map_id c.find.result)
    ∙ (find_from_yields_List (λ k. bytes_eq (c.args.first ∷ c.args.more.now) (letters_of k)) _ _ c.find.result c.find.ensures.ran
    (YieldsList-from_copied (YieldsList-at c.copied.ensures.source (YieldsList-from_slice controls (cc))))
    (λ x b q k. search (rules, tests))
    ∙ spelled-found (c.args.first ∷ c.args.more.now))
