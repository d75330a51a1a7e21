use Rattle.std.proofs.Common.{◌≡◌, ℕ, ◌-◌, take, subst, arith}
use Rattle.table.proofs.Shapes.{Ready, ready}
use Rattle.table.proofs.make.view.Goals as goal

pub invariant_of-result : goal.invariant_of-result
invariant_of-result g c =
    let t = c.args.templates.now in
    let d = c.args.read in
    let en : d.columns ≡ d.columns - 0 = omega arith in
    let ep : d.pieces ≡ d.pieces - 0 = omega arith in
    let r = subst (λ (i : ℕ). Ready (take i t.columns) (take (d.pieces - 0) t.pieces)) en (subst (λ (i : ℕ). Ready (take d.columns t.columns) (take i t.pieces)) ep (ready c.args.text.now t d c.requires.lying)) in
    record { some = r.some; counted = r.counted; bare = r.bare; parts = r.parts; few = r.few }
