use Rattle.std.proofs.Common.{ℕ, List, sym, ap, ◌∙◌, subst}
use Rattle.reader.specs.Reads.{Reads, Onward}
use Rattle.reader.specs.Tokens.{token_at, token_of}
use Rattle.reader.proofs.Reading.{reads, reads-one}
use Rattle.reader.proofs.Reaching.{token-onward}
use Rattle.reader.proofs.tokens.token_at.Goals as goal

pub returns : goal.returns
unfolding token_at
returns c =
    let text = c.args.text.now in
    let place = c.args.place in
    let is = c.first.ensures ∙ ap (λ (s : List ℕ). token_of s place) c.rest_at.ensures.is in
    record {
      answer = is;
      law = subst (Reads text place) (sym is) (reads text place);
      only = λ s h. reads-one text place s h ∙ sym is;
      onward = subst (Onward text place) (sym is) (token-onward text place);
    }
