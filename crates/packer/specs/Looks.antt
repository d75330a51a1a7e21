-- What items are on one side. Assumes nothing.
use Rattle.std.specs.Prelude.{ℕ, List, [], ◌∷◌, ℤ, pos, Ok, Err, Result}
use Rattle.std.specs.Int.{int_max}
use Rattle.measure.specs.declared.measurer.Metrics.{Metrics}
use Rattle.measure.specs.declared.measurer.Measurer.{Ghosts as Meaning}
use Rattle.extent.specs.declared.Extent.{Ghosts as Sides}
use Rattle.ledger.specs.Ledger.{Item, cell_word, template_word, space, kern, hfil}
use Rattle.ledger.specs.Naturals.{wide_of}

-- an item's width, height and depth, and what a source length enters as
pub record Look : Type 0 where
  pub wide : Item → ℤ
  pub high : Item → ℤ
  pub deep : Item → ℤ
  pub entered : ℤ → ℤ

-- a word's height and depth; nothing else has any
abbrev pub height_by : {E : Type 0} → (E → ℕ → ℤ) → ℕ → Result (Metrics E) ℕ → ℤ
height_by num k (Ok x) = num x.height k
height_by num k (Err p) = pos 0

abbrev pub depth_by : {E : Type 0} → (E → ℕ → ℤ) → ℕ → Result (Metrics E) ℕ → ℤ
depth_by num k (Ok x) = num x.depth k
depth_by num k (Err p) = pos 0

abbrev pub of_word : (List ℕ → ℤ) → Item → ℤ
of_word f (cell_word w) = f w
of_word f (template_word a w) = f w
of_word f space = pos 0
of_word f (kern z) = pos 0
of_word f hfil = pos 0

-- items on side k, by a measurer's meaning
abbrev pub look_of : {X E : Type 0} → Meaning X E → Sides E → X → ℕ → Look
look_of m s x k = record {
  wide = λ a. wide_of m s x a k;
  high = of_word (λ w. height_by s.num k (m.meaning x w));
  deep = of_word (λ w. depth_by s.num k (m.meaning x w));
  entered = s.entered k;
}

-- the largest of f over items, at least 0
unfoldable pub most : (Item → ℤ) → List Item → ℤ
most f [] = pos 0
most f (a ∷ rest) = int_max (f a) (most f rest)

-- how many fills
abbrev pub fill_in : Item → ℕ
fill_in (cell_word w) = 0
fill_in (template_word a w) = 0
fill_in space = 0
fill_in (kern z) = 0
fill_in hfil = 1
