use Rattle.std.proofs.Common.{◌≡◌, rules}
use Rattle.boxlist.specs.Parts.{held, fetch_answer}
use Rattle.boxlist.proofs.Fetching.{fetched}
use Rattle.boxlist.proofs.fetch.Goals as goal

pub returns : goal.returns
returns c =
    let a : held c.ok_or.result ≡ fetch_answer c.args.rec.now c.args.preamble.now c.args.lines.now = search rules in
    record { answer = a; law = fetched c.args.rec.now c.args.preamble.now c.args.lines.now (held c.ok_or.result) a }
