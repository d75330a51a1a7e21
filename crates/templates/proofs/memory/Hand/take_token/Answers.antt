use Rattle.std.proofs.Common.{refl, ap, subst}
use Rattle.reader.specs.declared.tokens.Token.{Token}
use Rattle.reader.specs.Reads.{Reaches}
use Rattle.ledger.specs.Naturals.{wide_of}
use Rattle.ledger.specs.Preambles.{Outcome}
use Rattle.templates.specs.Kept.{Turns}
use Rattle.templates.specs.Readings.{reading_of}
use Rattle.templates.proofs.Moves.{control-same}
use Rattle.templates.proofs.Sizing.{sized}
use Rattle.templates.proofs.memory.Hand.take_token.Goals as goal

pub returns-in-Space : goal.returns-in-Space
returns-in-Space g c =
    let X = g.E.Extent in
    let m = c.args.measurer.now in
    let text = c.args.text.now in
    let f = subst (λ (k : Token). Reaches text c.args.self.place c.args.lexeme.end k) c.in-Space.is c.requires.reach in
    rw c.in-Space.is (c.add_space.ensures text _ (sized X.count X.num X.entered (g.M.Measurer.meaning m) (g.M.Measurer.blank m) (λ w x. g.met.M.Measurer.bounded m w x) (g.met.M.Measurer.spaced m) g.met.E.Extent.bounded text)
    (λ k. ap (λ (e : g.row.E.Denot). X.num e k) c.space.ensures) f.further f.inside)

pub returns-in-Control : goal.returns-in-Control
returns-in-Control g c =
    let X = g.E.Extent in
    let m = c.args.measurer.now in
    let text = c.args.text.now in
    let meaning = g.M.Measurer.meaning m in
    let wide = wide_of g.M.Measurer X m in
    let f = subst (λ (k : Token). Reaches text c.args.self.place c.args.lexeme.end k) c.in-Control.is c.requires.reach in
    rw c.in-Control.is
    (subst (λ (o : Outcome). Turns X.count X.num wide text c.args.self c.args.into.now o c.take_control.new.into c.take_control.result) (control-same text meaning (reading_of text c.args.self c.args.into.now) c.args.lexeme.end c.in-Control.control)
    (c.take_control.ensures wide (sized X.count X.num X.entered meaning (g.M.Measurer.blank m) (λ w x. g.met.M.Measurer.bounded m w x) (g.met.M.Measurer.spaced m) g.met.E.Extent.bounded text) (λ k z. refl) (λ k. refl) f.further f.inside))

pub returns-in-Ampersand : goal.returns-in-Ampersand
returns-in-Ampersand g c =
    let f = subst (λ (k : Token). Reaches c.args.text.now c.args.self.place c.args.lexeme.end k) c.in-Ampersand.is c.requires.reach in
    rw c.in-Ampersand.is (c.next_column.ensures c.args.text.now _ f.further f.inside)

pub returns-in-Hash : goal.returns-in-Hash
returns-in-Hash g c =
    let f = subst (λ (k : Token). Reaches c.args.text.now c.args.self.place c.args.lexeme.end k) c.in-Hash.is c.requires.reach in
    rw c.in-Hash.is (c.mark.ensures c.args.text.now _ c.args.into.now f.further f.inside)
