use Rattle.std.proofs.Common.{sym, ◌∙◌}
use Rattle.measure.specs.Words.{word_byte}
use Rattle.measure.specs.Firsts.{first-position}
use Rattle.measure.proofs.Worded.{unfit-byte, unfit-length, fits_word}
use Rattle.measure.proofs.words.check_word.Goals as goal

pub returns-in-Some : goal.returns-in-Some
returns-in-Some c =
    let bad = unfit-byte c.args.bytes.now c.in-Some.place (sym (first-position word_byte c.args.bytes.now) ∙ sym c.in-Some.ensures) in
    rw (bad, c.at.ensures)

pub returns-then-not-is_word_length : goal.returns-then-not-is_word_length
returns-then-not-is_word_length c =
    let long = unfit-length c.args.bytes.now (sym (first-position word_byte c.args.bytes.now) ∙ sym c.in_default.ensures) (sym c.if-not-is_word_length.ensures) in
    rw (long, c.at-then-not-is_word_length.ensures)

pub returns : goal.returns
returns c =
    let fits = fits_word c.args.bytes.now (sym (first-position word_byte c.args.bytes.now) ∙ sym c.in_default.ensures) (sym c.if-not-is_word_length.ensures) in
    rw fits
