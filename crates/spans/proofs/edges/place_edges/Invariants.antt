use Rattle.std.proofs.Common.{◌≡◌, ℕ, ◌<◌, ◌≤◌, get_or}
use Rattle.widths.specs.Formula.{edge, natural}
use Rattle.spans.specs.Tables.{column, starting, after, SizedOn}
use Rattle.spans.proofs.edges.place_edges.Given as goal

abbrev pub invariant-loop-j : goal.invariant-loop-j
invariant-loop-j g l = let m = g.E.Extent in
    ((k : ℕ) → k < m.count → SizedOn m.num m.entered k l.gaps l.columns l.widths →
    m.num l.left k ≡ natural (starting m.entered k l.gaps) (column m.num k l.widths) (after m.entered k l.gaps) l.j)
    × ((k : ℕ) → k < m.count → SizedOn m.num m.entered k l.gaps l.columns l.widths → (i : ℕ) (d : g.row.E.Denot) → i < l.j →
    m.num (get_or l.edges i d) k ≡ edge (starting m.entered k l.gaps) (column m.num k l.widths) (after m.entered k l.gaps) i)
    × ((i : ℕ) (d : g.row.E.Denot) → l.j ≤ i → get_or l.edges i d ≡ get_or l.initial.edges i d)
