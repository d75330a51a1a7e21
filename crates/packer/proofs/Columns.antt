-- Columns between edges: how far an entry reaches, and that any edges are those of some columns. Assumes nothing.
use Rattle.std.proofs.Common.{◌≡◌, ℕ, zero, suc, ◌<◌, ◌≤◌, List, length, get_or, ℤ, pos, negsuc, ◌+ℤ◌, ◌-ℤ◌, ◌≤ℤ◌, Some, ap, ◌∙◌, sym, arith}
use Rattle.std.proofs.lemmas.Int.{ints}
use Rattle.std.proofs.lemmas.List.{get_or_default}
use Rattle.widths.specs.Formula.{between, moves, reach}
use Rattle.widths.proofs.Sums.{between_none, between_more, between_split}
use Rattle.sharing.specs.declared.Edges.{Edges}
use Rattle.sharing.specs.Columns.{edges_of}
use Rattle.sharing.specs.Gaps.{upward}
use Rattle.ledger.specs.Chunks.{total}
use Rattle.ledger.specs.Ledger.{Entry}
use Rattle.packer.specs.Looks.{Look, fill_in}
use Rattle.packer.specs.Boxes.{Columns, Spot, Fills, wide_in, item_boxes, start_of, entry_boxes}
use Rattle.packer.specs.Views.{EdgesAre}

abbrev pub none : Edges
none = record { left = pos 0; right = pos 0 }

-- from the left edge of its first column to the right edge of its last
pub edges-reach : (c : Columns) (es : List Edges) (i j : ℕ) → EdgesAre c es → i ≤ j → j < length es → (get_or es j none).right -ℤ (get_or es i none).left ≡ reach c.widths c.gaps i j
edges-reach c es i j are le lt =
    let a = ap (λ (e : Edges). e.left) (are i none (omega arith)) in
    let b = ap (λ (e : Edges). e.right) (are j none lt) in
    let split = between_split (moves c.widths c.gaps) i j le in
    omega (arith, ints)

module _ (es : List Edges) where
  abbrev left : ℕ → ℤ
  left j = (get_or es j none).left

  abbrev right : ℕ → ℤ
  right j = (get_or es j none).right

  abbrev pub columns-between : Columns
  columns-between = record { widths = λ j. Some (right j -ℤ left j); first = left 0; gaps = λ j. left (suc j) -ℤ right j }

  left-is : (j : ℕ) → left 0 +ℤ between (moves columns-between.widths columns-between.gaps) 0 j ≡ left j
  left-is zero = let b = between_none (moves columns-between.widths columns-between.gaps) 0 in omega (arith, ints)
  left-is (suc j) =
      let b = between_more (moves columns-between.widths columns-between.gaps) 0 j (omega arith) in
      let h = left-is j in
      omega (arith, ints)

  pub edges-between : EdgesAre columns-between es
  edges-between j d lt =
      let l : left j ≡ (edges_of columns-between.widths columns-between.first columns-between.gaps j).left = sym (left-is j) in
      let r : right j ≡ (edges_of columns-between.widths columns-between.first columns-between.gaps j).right = let h = left-is j in omega (arith, ints) in
      get_or_default es j d none lt ∙ (λ i. record { left = l i; right = r i })

-- an entry between edges is drawn as between any columns that they are of
pub entry-is : (l : Look) (k : Columns) (es : List Edges) (y : ℤ) (t : ℕ) (e : Entry) (f : Fills) (s : Spot)
    → EdgesAre k es → e.first ≤ e.last → e.last < length es
    → f.surplus ≡ upward (((get_or es e.last none).right -ℤ (get_or es e.first none).left) -ℤ wide_in l e.items)
    → f.count ≡ total fill_in e.items
    → s ≡ record { x = (get_or es e.first none).left; y = y; place = t }
    → item_boxes l f 0 s e.items ≡ entry_boxes l k y t e
entry-is l k es y t e f s are le lt surplus count spot =
    let reaches = edges-reach k es e.first e.last are le lt in
    let starts = ap (λ (d : Edges). d.left) (are e.first none (omega arith)) in
    let shared = surplus ∙ ap (λ (z : ℤ). upward (z -ℤ wide_in l e.items)) reaches in
    let stands : s ≡ start_of k y t e = spot ∙ (λ i. record { x = starts i; y = y; place = t }) in
    λ i. item_boxes l (record { surplus = shared i; count = count i }) 0 (stands i) e.items

pub upward-le : (z : ℤ) (b : ℕ) → z ≤ℤ pos b → upward z ≤ b
upward-le (pos n) b h = omega (arith, ints)
upward-le (negsuc n) b h = omega arith
