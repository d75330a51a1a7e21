use Rattle.std.proofs.Common.{◌≡◌, rules}
use Rattle.measure.specs.Monos.{between}
use Rattle.measure.proofs.mono.measuring.in_ranges.Goals as goal

pub returns-then-is_upto-3 : goal.returns-then-is_upto-3
returns-then-is_upto-3 c =
    let q : c.contains.result ≡ between 32 126 c.args.last = search rules in
    search rules
