use Rattle.std.proofs.Common.{◌≡◌, ◌-◌, ◌<◌, List, length, get_or, take, ℤ, Some, None, Err, Option, sym, ap, ◌∙◌, subst, arith, w64, to_z, of_z}
use Rattle.std.proofs.lemmas.Int.{ints}
use Rattle.std.proofs.lemmas.List.{get_or-take, length-take}
use Rattle.extent.specs.Sizes.{Within}
use Rattle.sharing.specs.declared.Edges.{Edges as EdgesRecord}
use Rattle.sharing.specs.declared.SideGap.{SideGap}
use Rattle.sharing.specs.Views.{Tame}
use Rattle.packer.specs.Settings.{set_by, set_answer, set_records}
use Rattle.packer.specs.Views.{EdgesAre}
use Rattle.table.specs.Views.{columns_in, ledger_in}
use Rattle.table.specs.Setting.{widths_of, look_on, columns_at, width_at}
use Rattle.table.proofs.Sides.{columns-count}
use Rattle.table.proofs.Settings.{widths-count, gaps-count, tame-sides}
use Rattle.table.proofs.Drawn.{laid-fine, lent-width, lent-edges}
use Rattle.table.proofs.table.Table.set_between.Goals as goal

pub settle-requires-clause-tame : goal.settle-requires-clause-tame
settle-requires-clause-tame g c =
    let X = g.met.M.Extent.Extent in
    let t = c.args.self.now in
    let k = c.args.target.side in
    let kc = c.requires.side in
    let tame = tame-sides t k kc (X.nothing k kc) (λ z h. X.bounded k 16777215 z kc h) in
    subst (λ (xs : List (Option ℤ)). Tame xs c.args.gaps.now) (sym c.requires.widths)
    (subst (λ (ys : List SideGap). Tame (widths_of t k) ys) (sym c.requires.gaps) tame)

pub settle-requires-clause-room : goal.settle-requires-clause-room
settle-requires-clause-room g c =
    let t = c.args.self.now in
    let k = c.args.target.side in
    let few = t.few in
    let ws = ap length c.requires.widths ∙ widths-count t k in
    let gs = ap length c.requires.gaps ∙ gaps-count t k in
    (omega arith, omega arith)

pub returns-in_default-clause-answer : goal.returns-in_default-clause-answer
returns-in_default-clause-answer g c =
    let t = c.args.self.now in
    let k = c.args.target.side in
    let a = c.args.target.aim in
    let none : None ≡ width_at t k a = c.in_default.ensures.answer ∙ lent-width t k c.args.widths.now c.args.gaps.now c.requires.widths c.requires.gaps a in
    ap Err c.at.ensures ∙ ap (λ (o : Option ℤ). set_answer (length c.args.records.now) (set_by (look_on t k) (columns_at t k a) (ledger_in t).lines o)) none

pub returns-in_default-clause-records : goal.returns-in_default-clause-records
returns-in_default-clause-records g c =
    let t = c.args.self.now in
    let k = c.args.target.side in
    let a = c.args.target.aim in
    let none : None ≡ width_at t k a = c.in_default.ensures.answer ∙ lent-width t k c.args.widths.now c.args.gaps.now c.requires.widths c.requires.gaps a in
    ap (λ (o : Option ℤ). set_records (set_by (look_on t k) (columns_at t k a) (ledger_in t).lines o) c.args.records.now) none

pub set_lines-requires-clause-known : goal.set_lines-requires-clause-known
set_lines-requires-clause-known g c = laid-fine c.args.self.now

pub set_lines-requires-clause-low : goal.set_lines-requires-clause-low
set_lines-requires-clause-low g c = c.args.self.now.lawful.low_gaps

pub set_lines-requires-clause-near : goal.set_lines-requires-clause-near
set_lines-requires-clause-near g c = λ j d lt.
    let t = c.args.self.now in
    let k = c.args.target.side in
    let es = c.settle.new.columns in
    let count : c.columns-count.result ≡ columns_in t = c.columns-count.ensures ∙ columns-count t in
    let few = t.few in
    let long = length-take (c.columns-count.result - 0) es in
    let ws = ap length c.requires.widths ∙ widths-count t k in
    let inside : j < length c.args.widths.now = omega arith in
    let here : get_or (take (c.columns-count.result - 0) es) j d ≡ get_or es j d = get_or-take (c.columns-count.result - 0) es j d (omega arith) in
    let is = sym c.in-Some.is ∙ c.in-Some.is in
    let near = c.in-Some.ensures.near c.in-Some.width is in
    let there = here ∙ c.in-Some.ensures.columns c.in-Some.width is j inside d in
    (subst (λ (x : EdgesRecord). Within 2199023255552 x.left) (sym there) (near.lefts j inside), subst (λ (x : EdgesRecord). Within 2199023255552 x.right) (sym there) (near.rights j inside))

pub returns-clause-answer : goal.returns-clause-answer
returns-clause-answer g c =
    let t = c.args.self.now in
    let k = c.args.target.side in
    let a = c.args.target.aim in
    let cs = columns_at t k a in
    let es = c.settle.new.columns in
    let w = c.in-Some.width in
    let is = sym c.in-Some.is ∙ c.in-Some.is in
    let near = c.in-Some.ensures.near w is in
    let whole : to_z w64 (of_z w64 w) ≡ w = omega (arith, ints, near.least, near.most) in
    let count : c.columns-count.result ≡ columns_in t = c.columns-count.ensures ∙ columns-count t in
    let long = length-take (c.columns-count.result - 0) es in
    let ws = ap length c.requires.widths ∙ widths-count t k in
    let edges : EdgesAre cs (take (c.columns-count.result - 0) es) = λ j d lt.
    let inside : j < length c.args.widths.now = omega arith in
    get_or-take (c.columns-count.result - 0) es j d (omega arith)
    ∙ c.in-Some.ensures.columns w is j inside d
    ∙ lent-edges t k c.args.widths.now c.args.gaps.now c.requires.widths c.requires.gaps a j in
    let some : Some w ≡ width_at t k a = c.in-Some.ensures.answer ∙ lent-width t k c.args.widths.now c.args.gaps.now c.requires.widths c.requires.gaps a in
    c.set_lines.ensures.answer cs edges
    ∙ ap (λ (z : ℤ). set_answer (length c.args.records.now) (set_by (look_on t k) cs (ledger_in t).lines (Some z))) whole
    ∙ ap (λ (o : Option ℤ). set_answer (length c.args.records.now) (set_by (look_on t k) cs (ledger_in t).lines o)) some

pub returns-clause-records : goal.returns-clause-records
returns-clause-records g c =
    let t = c.args.self.now in
    let k = c.args.target.side in
    let a = c.args.target.aim in
    let cs = columns_at t k a in
    let es = c.settle.new.columns in
    let w = c.in-Some.width in
    let is = sym c.in-Some.is ∙ c.in-Some.is in
    let near = c.in-Some.ensures.near w is in
    let whole : to_z w64 (of_z w64 w) ≡ w = omega (arith, ints, near.least, near.most) in
    let count : c.columns-count.result ≡ columns_in t = c.columns-count.ensures ∙ columns-count t in
    let long = length-take (c.columns-count.result - 0) es in
    let ws = ap length c.requires.widths ∙ widths-count t k in
    let edges : EdgesAre cs (take (c.columns-count.result - 0) es) = λ j d lt.
    let inside : j < length c.args.widths.now = omega arith in
    get_or-take (c.columns-count.result - 0) es j d (omega arith)
    ∙ c.in-Some.ensures.columns w is j inside d
    ∙ lent-edges t k c.args.widths.now c.args.gaps.now c.requires.widths c.requires.gaps a j in
    let some : Some w ≡ width_at t k a = c.in-Some.ensures.answer ∙ lent-width t k c.args.widths.now c.args.gaps.now c.requires.widths c.requires.gaps a in
    c.set_lines.ensures.records cs edges
    ∙ ap (λ (z : ℤ). set_records (set_by (look_on t k) cs (ledger_in t).lines (Some z)) c.args.records.now) whole
    ∙ ap (λ (o : Option ℤ). set_records (set_by (look_on t k) cs (ledger_in t).lines o) c.args.records.now) some
