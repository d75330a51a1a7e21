use Rattle.std.proofs.Common.{◌≡◌, true, take, drop, subst, arith}
use Rattle.std.proofs.lemmas.List.{length-take, length-drop}
use Rattle.ledger.specs.declared.records.ItemRecord.{ItemRecord}
use Rattle.ledger.specs.Lawful.{fine}
use Rattle.packer.specs.Views.{item_in}
use Rattle.packer.proofs.Fine.{fine-known}
use Rattle.packer.proofs.source.Source.draw_item.Goals as goal

-- a word that is known has a byte in the text
pub word_box-requires-in-TemplateWord-clause-place : goal.word_box-requires-in-TemplateWord-clause-place
word_box-requires-in-TemplateWord-clause-place g c =
    let s = c.args.self.now in
    let a = c.in-TemplateWord.from in
    let n = c.in-TemplateWord.count in
    let meaning = g.M.Measurer.meaning s.measurer.now in
    let known = subst (λ (i : ItemRecord). fine meaning (item_in s i c.args.at.place) ≡ true) c.in-TemplateWord.is c.requires.known in
    let word = (fine-known meaning (take n (drop a s.preamble.now)) known).word in
    omega (arith, word.0, length-take n (drop a s.preamble.now), length-drop a s.preamble.now)
