use Rattle.std.proofs.Common.{rules, length, ◌≡◌, ℕ, suc, ◌-◌, ◌<◌, ◌≤◌, leb, List, Result, inl, inr, ⊎_elim, sym, ◌∙◌, subst, arith}
use Rattle.std.proofs.lemmas.Bool.{and_parts, and_cases, leb-true, leb-false}
use Rattle.faults.specs.declared.Fault.{Fault}
use Rattle.boxlist.specs.declared.BoxRecord.{BoxRecord}
use Rattle.packer.specs.declared.Laid.{Laid}
use Rattle.packer.specs.Settings.{set_records}
use Rattle.table.specs.Setting.{set_at}
use Rattle.table.specs.Sets.{Sets, Barred, no_side}
use Rattle.table.proofs.Lawful.{set-law}
use Rattle.table.proofs.table.Table.set.Goals as goal

pub returns-then-not-has_side-clause-law : goal.returns-then-not-has_side-clause-law
returns-then-not-has_side-clause-law g c =
    let n = g.M.Extent.Extent.count in
    let side = c.args.side in
    let none = and_cases (leb 1 side) (leb side n) (sym c.has_side.ensures ∙ c.if-not-has_side.true) in
    subst (Barred c.args.self.now side c.args.aim (length c.args.records.now)) (sym c.at.ensures)
    (no_side (⊎_elim (λ x. let l = leb-false 1 side x in inl (omega arith)) (λ y. let l = leb-false side n y in inr (omega arith)) none))

pub set_on-requires : goal.set_on-requires
set_on-requires g c = search rules

pub returns-clause-law : goal.returns-clause-law
returns-clause-law g c =
    let t = c.args.self.now in
    let a = c.args.aim in
    let side = c.args.side in
    let X = g.met.M.Extent.Extent in
    let W = g.met.M.Measurer in
    let parts = and_parts (leb 1 side) (leb side g.M.Extent.Extent.count) (sym c.has_side.ensures ∙ c.if-not-has_side.false) in
    let some : 1 ≤ side = leb-true 1 side parts.0 in
    let few : side ≤ g.M.Extent.Extent.count = leb-true side g.M.Extent.Extent.count parts.1 in
    let kc : side - 1 < g.M.Extent.Extent.count = omega arith in
    let same : suc (side - 1) ≡ side = omega arith in
    let law = set-law t (side - 1) kc (X.nothing (side - 1) kc) (W.bounded t.measurer.now) (W.spaced t.measurer.now) (λ b z h. X.bounded (side - 1) b z kc h) (λ z h. X.upward (side - 1) z kc h) a c.args.records.now in
    subst (λ (x : ℕ). Sets t x a c.set_on.new.records c.set_on.result) same
    (subst (λ (rs : List BoxRecord). Sets t (suc (side - 1)) a rs c.set_on.result) (sym c.set_on.ensures.records)
    (subst (λ (r : Result Laid Fault). Sets t (suc (side - 1)) a (set_records (set_at t (side - 1) a) c.args.records.now) r) (sym c.set_on.ensures.answer) law))
