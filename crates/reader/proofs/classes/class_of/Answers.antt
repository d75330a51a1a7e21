-- The table is the list of the classes of 0 to 255: both are computed, and the rule at each byte follows.
use Rattle.std.proofs.Common.{◌<◌, sym, ◌∙◌, subst, zero-add, rules}
use Rattle.reader.specs.declared.classes.Class.TheVariants.{Bad}
use Rattle.std.proofs.lemmas.List.FromFn.{get_or-map-range_with_len}
use Rattle.reader.specs.Classes.{Classed, class_of}
use Rattle.reader.proofs.Ranges.{classed, classed-one}
use Rattle.reader.proofs.classes.class_of.Goals as goal

pub returns : goal.returns
returns c =
    let small : c.args.b < 256 = search rules in
    let is = get_or-map-range_with_len class_of 0 256 c.args.b c.args.b Bad small (zero-add c.args.b) in
    record {
      answer = is;
      law = subst (Classed c.args.b) (sym is) (classed c.args.b);
      only = λ k h. classed-one c.args.b k h ∙ sym is;
    }
