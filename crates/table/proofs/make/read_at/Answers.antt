use Rattle.std.proofs.Common.{◌≡◌, ℤ, Some, Option, sym, ap, ◌∙◌, w64, SFits, to_z, of_z, rules}
use Rattle.std.specs.Option.{option_map}
use Rattle.std.proofs.lemmas.Int.{to_z-of_z}
use Rattle.lengths.specs.Gaps.{Parts, parts_of, gap_of}
use Rattle.table.specs.Making.{start_of, read_from}
use Rattle.table.proofs.Shapes.{kept_from}
use Rattle.table.proofs.make.read_at.Goals as goal

pub returns : goal.returns
returns g c =
    let text = c.args.text.now in
    let s = c.args.start in
    let n : SFits w64 s.natural = search rules in
    let k : SFits w64 s.stretch = search rules in
    let o : SFits w64 s.order = search rules in
    let e : Some (parts_of c.in_ok-gap.gap) ≡ start_of s =
    ap (option_map parts_of) (sym c.in_ok-gap.ensures.ok_part)
    ∙ c.new.ensures.answer
    ∙ ap (λ (z : ℤ). gap_of z (to_z w64 (of_z w64 s.stretch)) (to_z w64 (of_z w64 s.order))) (to_z-of_z w64 s.natural n)
    ∙ ap (λ (z : ℤ). gap_of s.natural z (to_z w64 (of_z w64 s.order))) (to_z-of_z w64 s.stretch k)
    ∙ ap (λ (z : ℤ). gap_of s.natural s.stretch z) (to_z-of_z w64 s.order o) in
    record {
      answer = c.read_preamble.ensures.answer ∙ ap (λ (x : Option Parts). read_from text (g.M.Measurer.meaning c.args.measurer.now) x) e;
      kept = kept_from text (start_of s) (parts_of c.in_ok-gap.gap) c.read_preamble.new.into c.read_preamble.result (sym e) c.read_preamble.ensures.kept;
      widths = c.read_preamble.ensures.widths;
    }
