-- The columns of a table on one side. Assumes nothing.
use Rattle.std.proofs.Common.{◌≡◌, ℕ, ◌<◌, ◌≤◌, List, map, length, get_or, take, sym, ap, ◌∙◌, arith}
use Rattle.std.specs.List.{range_with_len}
use Rattle.std.proofs.lemmas.List.{ext_get_or, get_or-map, get_or-take, length-map, length-take-le}
use Rattle.std.proofs.lemmas.List.FromFn.{get_or-map-range_with_len, length-map-range_with_len}
use Rattle.measure.specs.declared.measurer.Measurer.{Ghosts as Meaning}
use Rattle.extent.specs.declared.Extent.{Ghosts as Sides}
use Rattle.rows.specs.Columns.{columns_in as templates_on}
use Rattle.rows.specs.Good.{template_of}
use Rattle.table.specs.declared.table.Table.{Table}
use Rattle.table.specs.Views.{columns_in, templates_in}

-- the first n of a list are what f gives for 0 to n - 1, if each is
pub map-first_are : {X Y : Type 0} (f : ℕ → Y) (h : X → Y) (xs : List X) (n : ℕ) (d : X) → n ≤ length xs → ((j : ℕ) → j < n → h (get_or xs j d) ≡ f j) → map h (take n xs) ≡ map f (range_with_len 0 n)
map-first_are f h xs n d le each =
    let short : length (take n xs) ≡ n = length-take-le n xs le in
    let left : length (map h (take n xs)) ≡ n = length-map (take n xs) h ∙ short in
    ext_get_or (h d) (map h (take n xs)) (map f (range_with_len 0 n)) (left ∙ sym (length-map-range_with_len f 0 n))
    (λ i lt.
    let below : i < n = omega arith in
    get_or-map h (take n xs) i d (h d) (omega arith)
    ∙ ap h (get_or-take n xs i d below)
    ∙ each i below
    ∙ sym (get_or-map-range_with_len f 0 n i i (h d) below (omega arith)))

-- how many columns there are
pub columns-count : {X E : Type 0} {m : Meaning X E} {s : Sides E} (t : Table X E m s) → length (templates_in t) ≡ columns_in t
columns-count t = length-map (templates_on t.rows.preamble.columns.now) (template_of t.rows.preamble)
