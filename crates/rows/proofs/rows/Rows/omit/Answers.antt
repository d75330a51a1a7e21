use Rattle.std.proofs.Common.{eqb, List, map, ◌+ℤ◌, refl, ap, ◌∙◌, subst}
use Rattle.extent.specs.Sizes.{Within}
use Rattle.ledger.specs.Ledger.{Item}
use Rattle.ledger.specs.Naturals.{natural, owed_of, natural_by}
use Rattle.rows.specs.declared.state.Stage.TheVariants.{Omitted}
use Rattle.rows.specs.Held.{held_of}
use Rattle.rows.specs.Good.{templates_of, ledger_of, fresh_in}
use Rattle.rows.proofs.Verdicts.{passed}
use Rattle.rows.proofs.Rooms.{both}
use Rattle.rows.proofs.Adds.{fresh-open, fresh-owed}
use Rattle.rows.proofs.Sounds.{open-sound, open-items, open_done}
use Rattle.rows.proofs.rows.Rows.omit.Goals as goal

pub returns-clause-sound : goal.returns-clause-sound
returns-clause-sound g c =
    let s = c.args.self.now.draft.state in
    let m = c.args.self.now.draft.memory in
    let q = c.args.self.now.preamble in
    let p = q.text.now in
    let fit = c.args.self.now.good.fit in
    let h = held_of p s m in
    let t = passed _ _ c.in_ok-check_cell.ensures in
    let y = both (fresh_in s.stage) (eqb s.row.column c.args.column) t in
    let o = fresh-open s.stage y in
    λ wide sound.
    open-sound g.E.Extent.count g.E.Extent.num wide q s (record { lines = s.lines; laid = s.laid; marks = s.marks; stage = Omitted; row = s.row }) m m sound refl refl refl
    (λ k kc. sound.row o k kc ∙ ap (λ (x : List Item). natural wide x k) (open-items s.stage s.row.column s.row.first h o))
    (λ k kc.
    subst (λ (x : List Item). Within 1073741823 (natural wide h.items k +ℤ natural wide x k)) (fresh-owed (templates_of q) s.stage s.row.column s.row.first h y)
    (subst (λ (x : List Item). Within 1073741823 (natural wide x k +ℤ natural wide (owed_of (templates_of q) (ledger_of q s m).hand) k)) (open-items s.stage s.row.column s.row.first h o) (sound.near o k kc)))
    (λ k kc. sound.done o k kc ∙ ap (map (natural_by wide k)) (open_done s.stage s.row.column s.row.first h o))
    (λ k t d kc lt. sound.sized-done o k t d kc lt) (λ t d lt. sound.lies-done o t d lt) (sound.begins o)
