use Rattle.std.proofs.Common.{◌≡◌, Some, None, Err, refl, ap, ◌∙◌, rules}
use Rattle.std.proofs.lemmas.List.{take_rest}
use Rattle.reader.proofs.Backslash.{nothing_left, no_letter, lettered}
use Rattle.reader.proofs.tokens.Rest.control_word.Goals as goal

pub returns-in_default : goal.returns-in_default
returns-in_default c = ap Err c.at-unknown.ensures ∙ nothing_left c.args.self.bytes.now c.args.self.place c.in_default.len_below

pub returns-then-not-is_letter : goal.returns-then-not-is_letter
returns-then-not-is_letter c = ap Err c.at-unknown.ensures ∙ no_letter c.args.self.bytes.now c.args.self.place c.in-len2-up.len_at_least (search rules)

pub returns-in_err-control : goal.returns-in_err-control
returns-in_err-control c =
    let r = take_rest c.args.self.bytes.now 2 in
    let is : c.from_residual.result ≡ Err c.at-unknown.result = search rules in
    is ∙ ap Err c.at-unknown.ensures
    ∙ lettered c.args.self.bytes.now c.args.self.place c.in-len2-up.len_at_least (search rules)
    c.split_at.result.0.now c.split_at.result.1.now c.run_len.result _ None (search (rules, r)) (search (rules, r)) c.split_at.ensures.front_len (search (rules, r)) (search rules) refl

pub returns : goal.returns
returns c =
    let r = take_rest c.args.self.bytes.now 2 in
    lettered c.args.self.bytes.now c.args.self.place c.in-len2-up.len_at_least (search rules)
    c.split_at.result.0.now c.split_at.result.1.now c.run_len.result c.run_len-spaces.result (Some c.in_ok-control.control) (search (rules, r)) (search (rules, r)) c.split_at.ensures.front_len (search (rules, r)) (search rules)
    (search rules)
