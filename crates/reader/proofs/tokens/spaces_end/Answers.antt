use Rattle.std.proofs.Common.{◌+◌, sym, ap, ◌∙◌, subst}
use Rattle.std.specs.List.{prefix_len}
use Rattle.reader.specs.Reads.{Longest}
use Rattle.reader.specs.Tokens.{blank_byte, spaces_end}
use Rattle.reader.proofs.Runs.{spaces-longest}
use Rattle.reader.proofs.tokens.spaces_end.Goals as goal

pub returns : goal.returns
unfolding spaces_end
returns c =
    let text = c.args.text.now in
    let place = c.args.place in
    let is = ap (λ n. place + n) (c.run_len.ensures.is blank_byte (λ b r e. e) ∙ ap (prefix_len blank_byte) c.rest_at.ensures.is) in
    record { answer = is; law = subst (Longest blank_byte text place) (sym is) (spaces-longest text place) }
