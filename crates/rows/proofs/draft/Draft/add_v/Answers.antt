use Rattle.std.proofs.Common.{◌≡◌, ◌+◌, ◌-◌, List, [], sym, refl, ap, ◌∙◌, rules}
use Rattle.rows.specs.declared.state.Stage.{Stage}
use Rattle.rows.specs.declared.state.Stage.TheVariants.{Begun}
use Rattle.ledger.specs.declared.records.Column.{Column}
use Rattle.ledger.specs.declared.records.ItemRecord.{ItemRecord}
use Rattle.ledger.specs.Items.{taken, decoded_items}
use Rattle.rows.specs.Held.{held_of, pushed}
use Rattle.rows.specs.Good.{v_of, v_pieces}
use Rattle.rows.proofs.Rooms.{rest-v, nothing-pushed, piece-is, zero-part}
use Rattle.rows.proofs.draft.Draft.add_v.Goals as goal

pub add_part-requires-clause-bytes : goal.add_part-requires-clause-bytes
add_part-requires-clause-bytes g c =
    let q = c.args.preamble.now in
    let r = c.column-here.result.template in
    zero-part taken q.pieces.now (r.from + r.u) (((r.from + r.u) + r.v) - (r.from + r.u)) q.bare

pub returns-then-eq-clause-acts : goal.returns-then-eq-clause-acts
returns-then-eq-clause-acts g c =
    let s = c.args.self.now.state in
    let m = c.args.self.now.memory in
    let q = c.args.preamble.now in
    let is : s.stage ≡ Begun = search rules in
    let r = c.column-here.result.template in
    let a = c.add_part.ensures.acts in
    record {
      held = λ p.
          a.held p
          ∙ ap (λ (x : List ItemRecord). pushed (held_of p s m) (decoded_items p x [])) (piece-is q.pieces.now (r.from + r.u) r.v)
          ∙ ap (λ (d : Column). pushed (held_of p s m) (decoded_items p (v_pieces q d) [])) c.column-here.ensures.template
          ∙ ap (λ (st : Stage). pushed (held_of p s m) (decoded_items p (v_of q st s.row.column) [])) (sym is);
      fit = a.fit;
      entries = a.entries;
      lens = a.lens;
    }

pub returns-else-eq-clause-acts : goal.returns-else-eq-clause-acts
returns-else-eq-clause-acts g c =
    let s = c.args.self.now.state in
    let m = c.args.self.now.memory in
    let not : s.stage ≡ Begun → ⊥ = search rules in
    record {
      held = λ p. nothing-pushed p (held_of p s m) ∙ ap (λ (x : List ItemRecord). pushed (held_of p s m) (decoded_items p x [])) (sym (rest-v c.args.preamble.now s.stage s.row.column not));
      fit = c.requires.good.fit;
      entries = refl;
      lens = refl;
    }
