use Rattle.std.proofs.Common.{ℕ, ◌+◌, ◌/◌, sym, ap, subst, arith}
use Rattle.lengths.specs.Fractions.{Nearest}
use Rattle.lengths.proofs.Rounding.{nearest}
use Rattle.lengths.proofs.fraction.round_decimals.Goals as goal

pub returns : goal.returns
returns c =
    let e = ap (λ (n : ℕ). (n + 1) / 2) c.scale.ensures.is in
    record {
      is = e;
      nearest = subst (Nearest c.args.digits.bytes.now) (sym e) (nearest c.args.digits.bytes.now);
      small = omega (arith, c.scale.ensures.small);
    }
