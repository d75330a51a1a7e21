use Rattle.std.proofs.Common.{◌≡◌, ◌+◌, ◌-◌, ◌*◌, ◌<◌, ◌≤◌, [], ◌∷◌, map, length, take, Some, refl, sym, ap, ◌∙◌, arith, rules, tests}
use Rattle.std.specs.List.{fold}
use Rattle.std.proofs.iter.runs.Made.{chains}
use Rattle.std.proofs.lemmas.List.{map-append, length-take-le}
use Rattle.std.proofs.lemmas.Fn.{serves_by}
use Rattle.std.proofs.lemmas.Iterator.{YieldsList-from_slice}
use Rattle.std.proofs.lemmas.Iterator.Consumers.{YieldsList-so_far, YieldsList-turn}
use Rattle.lengths.specs.Fractions.{numeral}
use Rattle.lengths.proofs.Runs.{digit_at, folded, numeral-push, numeral-few, take-digits}
use Rattle.lengths.proofs.amount.whole_value.Goals as goal

pub fold-requires-clause-callable : goal.fold-requires-clause-callable
fold-requires-clause-callable c =
    let ds = c.args.digits.bytes.now in
    let road = YieldsList-from_slice ds (cc) in
    serves_by _ (λ xs q. q.1 ≡ numeral (map (λ x. x.now) xs))
    (λ xs q x v j r.
    let step : v.1 ≡ q.1 * 10 + (x.now - 48) = search (rules, tests) in
    step ∙ ap (λ n. n * 10 + (x.now - 48)) j ∙ sym (ap numeral (map-append (λ y. y.now) xs (x ∷ [])) ∙ numeral-push (map (λ y. y.now) xs) x.now))
    _ _ _ _ refl
    (λ xs t q x u y step j.
    let k = length xs in
    let turn = YieldsList-turn road xs t y (Some x) u x refl step in
    let digit = digit_at ds k x.now turn.0 c.args.digits.digits in
    let low : 48 ≤ x.now = rw turn.1 digit.0 in
    let high : x.now ≤ 57 = rw turn.1 digit.1 in
    let so_far : q.1 ≡ numeral (take k ds) = j ∙ ap numeral (YieldsList-so_far road xs t y) in
    let front : length (take k ds) ≤ 8 = omega (arith, c.requires, length-take-le k ds) in
    let small : q.1 < 100000000 = rw so_far (numeral-few (take k ds) (take-digits ds k c.args.digits.digits) front) in
    search rules)

pub returns : goal.returns
returns c =
    let ds = c.args.digits.bytes.now in
    let is : c.fold.result ≡ fold (λ n d. n * 10 + (d - 48)) 0 ds = search (rules, chains) in
    let value : c.fold.result ≡ numeral ds = is ∙ folded ds 0 in
    record { is = value; small = rw value (numeral-few ds c.args.digits.digits (omega (arith, c.requires))) }
