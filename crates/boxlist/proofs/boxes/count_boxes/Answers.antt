use Rattle.std.proofs.Common.{◌≡◌, ◌+◌, ◌*◌, ◌^◌, length, sym, ◌∙◌, arith, rules}
use Rattle.std.specs.List.{sum_by}
use Rattle.std.proofs.lemmas.Iterator.{YieldsList-from_slice}
use Rattle.std.proofs.lemmas.Iterator.Adapters.{fits_from_length, at_most_from_yields_List}
use Rattle.std.proofs.lemmas.List.Concat.{length-flat_map}
use Rattle.boxlist.specs.Format.{bytes_of_box}
use Rattle.boxlist.proofs.boxes.count_boxes.Goals as goal

pub returns : goal.returns
returns c =
    let s : c.sum.result ≡ sum_by (λ r. length (bytes_of_box r)) c.args.boxes.now = search rules in
    let run = c.sum.ensures.runs tt in
    let top = fits_from_length _ _ (2 ^ 40) (180 * 2 ^ 40 + 1) (at_most_from_yields_List (YieldsList-from_slice c.args.boxes.now cc) c.requires) c.map.ensures.closure (omega arith) (λ x r q k. search rules) run.0 run.0.seen run.1 in
    record { total = s ∙ sym (length-flat_map bytes_of_box c.args.boxes.now); within = omega (arith, top, run.3) }
