-- How high rows and lines are. Assumes nothing.
use Rattle.std.proofs.Common.{◌≡◌, ◌*◌, true, List, [], ◌∷◌, length, ℤ, pos, arith}
use Rattle.std.specs.List.{flat_map, list_all, AllByRecursion}
use Rattle.std.specs.Int.{int_max}
use Rattle.std.proofs.ByRecursion.{All-weaker}
use Rattle.std.proofs.lemmas.Int.{ints}
use Rattle.std.proofs.lemmas.Bool.{and_parts}
use Rattle.std.proofs.lemmas.Bool.Decides.{nat_tests}
use Rattle.measure.specs.Ranges.{Upto}
use Rattle.ledger.specs.Ledger.{Item, Entry, Line, row, rule, gap}
use Rattle.ledger.specs.Calls.{items_in, gap_fits}
use Rattle.ledger.specs.Lawful.{low}
use Rattle.packer.specs.Looks.{Look, most}
use Rattle.packer.specs.Lines.{row_height, row_depth, rule_height, line_size, total_height}
use Rattle.packer.specs.Laws.{line_items, lines_items}
use Rattle.packer.specs.Writes.{ItemSized}
use Rattle.packer.proofs.Alls.{all-left, all-right}

larger-low : (x y : ℤ) → Upto 16777215 x → Upto 16777215 y → Upto 16777215 (int_max x y)
larger-low x y a b = (grind (arith, ints), grind (arith, ints))

most-low : (f : Item → ℤ) (is : List Item) → AllByRecursion (λ a. Upto 16777215 (f a)) is → Upto 16777215 (most f is)
unfolding most
most-low f [] h = (omega (arith, ints), omega (arith, ints))
most-low f (a ∷ rest) h = larger-low (f a) (most f rest) h.0 (most-low f rest h.1)

gap-low : (z : ℤ) → gap_fits z ≡ true → Upto 16777215 z
gap-low z h = (grind (arith, ints, nat_tests), grind (arith, ints, nat_tests))

module _ (l : Look) where
  pub height-low : (es : List Entry) → AllByRecursion (ItemSized l) (flat_map items_in es) → Upto 16777215 (row_height l es)
  height-low es h = most-low l.high (flat_map items_in es) (All-weaker (ItemSized l) (λ a. Upto 16777215 (l.high a)) (λ a s. s.high) (flat_map items_in es) h)

  pub depth-low : (es : List Entry) → AllByRecursion (ItemSized l) (flat_map items_in es) → Upto 16777215 (row_depth l es)
  depth-low es h = most-low l.deep (flat_map items_in es) (All-weaker (ItemSized l) (λ a. Upto 16777215 (l.deep a)) (λ a s. s.deep) (flat_map items_in es) h)

  module _ (entered : (z : ℤ) → Upto 16777215 z → Upto 16777215 (l.entered z)) where
    pub rule-low : Upto 16777215 (rule_height l)
    rule-low = entered (pos 26214) (omega (arith, ints), omega (arith, ints))

    -- a line is at most twice as high as that
    pub line-high : (s : Line) → low s ≡ true → AllByRecursion (ItemSized l) (line_items s) → Upto 33554430 (line_size l s)
    line-high (row es) g h = let a = height-low es h in let b = depth-low es h in (omega (arith, ints), omega (arith, ints))
    line-high rule g h = let a = rule-low in (omega (arith, ints), omega (arith, ints))
    line-high (gap z) g h = let a = entered z (gap-low z g) in (omega (arith, ints), omega (arith, ints))

    pub lines-high : (ss : List Line) → list_all low ss ≡ true → AllByRecursion (ItemSized l) (lines_items ss) → Upto (33554430 * length ss) (total_height l ss)
    unfolding total_height
    lines-high [] g h = (omega (arith, ints), omega (arith, ints))
    lines-high (s ∷ rest) g h =
        let both = and_parts (low s) (list_all low rest) g in
        let a = line-high s both.0 (all-left (ItemSized l) (line_items s) (lines_items rest) h) in
        let b = lines-high rest both.1 (all-right (ItemSized l) (line_items s) (lines_items rest) h) in
        (omega (arith, ints), omega (arith, ints))
