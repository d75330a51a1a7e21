use Rattle.std.proofs.Common.{◌≡◌, length, sym, ap, ◌∙◌, arith, rules, tests}
use Rattle.std.proofs.lemmas.List.{length-append}
use Rattle.boxlist.specs.declared.Kind.TheVariants as kinds
use Rattle.boxlist.specs.Groups.{all_groups}
use Rattle.boxlist.specs.Format.{frame_numbers, part_numbers}
use Rattle.boxlist.proofs.Bytes.{bytes_word, bytes_other}
use Rattle.boxlist.proofs.BoxRecord.byte_count.Goals as goal

pub returns-then-eq-clause-total : goal.returns-then-eq-clause-total
returns-then-eq-clause-total c =
    let r = c.args.self.now in
    let is : r.kind ≡ kinds.Word = search (rules, tests) in
    let frame = ap (λ l. length (all_groups l)) c.frame.ensures in
    let part = ap (λ l. length (all_groups l)) c.part.ensures in
    let whole = ap length (bytes_word r is) ∙ length-append (all_groups (frame_numbers r)) (all_groups (part_numbers r)) in
    omega arith

pub returns-else-eq-clause-total : goal.returns-else-eq-clause-total
returns-else-eq-clause-total c =
    let isnt : c.args.self.now.kind ≡ kinds.Word → ⊥ = search (rules, tests) in
    c.count_all-frame.ensures.total ∙ ap (λ l. length (all_groups l)) c.frame.ensures ∙ ap length (sym (bytes_other c.args.self.now isnt))
