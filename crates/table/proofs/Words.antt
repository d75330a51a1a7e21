-- The words of a table's lines. Assumes nothing.
use Rattle.std.proofs.Common.{◌≡◌, ℕ, true, List, [], ◌∷◌, ◌++◌, map, length, take, drop, Result, sym, ap, ◌∙◌, subst, arith}
use Rattle.std.specs.List.{flat_map, AllByRecursion}
use Rattle.std.proofs.ByRecursion.{All-append}
use Rattle.std.proofs.lemmas.Bool.{and_parts}
use Rattle.std.proofs.lemmas.List.{length-take, length-drop, append_assoc}
use Rattle.std.proofs.lemmas.List.Folds.{list_all-append}
use Rattle.std.proofs.lemmas.List.Concat.{flat_map-append}
use Rattle.measure.specs.declared.measurer.Measurer.{Ghosts as Meaning}
use Rattle.extent.specs.declared.Extent.{Ghosts as Sides}
use Rattle.ledger.specs.Ledger.{Item, cell_word, template_word, space, kern, hfil, Line, row, rule, gap}
use Rattle.ledger.specs.Calls.{items_in, laid_entries, done_of, items_of, all_items}
use Rattle.ledger.specs.Lawful.{fine, all_fine}
use Rattle.rows.proofs.Renamed.{renamed, ledger-renamed}
use Rattle.packer.specs.Laws.{line_items, lines_items, InText, words_in, drawn_in}
use Rattle.packer.proofs.Fine.{fine-known, fine-parts}
use Rattle.table.specs.declared.table.Table.{Table}
use Rattle.table.specs.Views.{ledger_in}
use Rattle.table.specs.Sets.{DrawnWord}
use Rattle.packer.proofs.Writes.{lines-items}
use Rattle.table.proofs.Drawn.{laid-fine}

-- what is read again from a text at its place is a part of it, if it is a word
in-text : {Y : Type 0} (meaning : List ℕ → Result Y ℕ) (p : List ℕ) (i : Item) → renamed p i ≡ i → fine meaning i ≡ true → InText p i
in-text meaning p (cell_word w) e h = tt
in-text meaning p (template_word a w) e h =
    let same : take (length w) (drop a p) ≡ w = cc in
    let long = (fine-known meaning w h).word.0 in
    let l = ap length same in
    let t = length-take (length w) (drop a p) in
    let d = length-drop a p in
    (omega arith, same)
in-text meaning p space e h = tt
in-text meaning p (kern z) e h = tt
in-text meaning p hfil e h = tt

first-in_text : {Y : Type 0} (meaning : List ℕ → Result Y ℕ) (p : List ℕ) (xs ys : List Item) → map (renamed p) (xs ++ ys) ≡ xs ++ ys → all_fine meaning xs ≡ true → AllByRecursion (InText p) xs
first-in_text meaning p [] ys e h = tt
first-in_text meaning p (x ∷ xs) ys e h =
    let parts = fine-parts meaning x xs h in
    let head : renamed p x ≡ x = cc in
    let tail : map (renamed p) (xs ++ ys) ≡ xs ++ ys = cc in
    (in-text meaning p x head parts.0, first-in_text meaning p xs ys tail parts.1)

words-drawn : {Y : Type 0} (meaning : List ℕ → Result Y ℕ) (xs : List Item) → all_fine meaning xs ≡ true → AllByRecursion DrawnWord (words_in xs)
words-drawn meaning [] h = tt
words-drawn meaning (cell_word w ∷ xs) h = let parts = fine-parts meaning (cell_word w) xs h in ((fine-known meaning w parts.0).word, words-drawn meaning xs parts.1)
words-drawn meaning (template_word a w ∷ xs) h = let parts = fine-parts meaning (template_word a w) xs h in ((fine-known meaning w parts.0).word, words-drawn meaning xs parts.1)
words-drawn meaning (space ∷ xs) h = words-drawn meaning xs (fine-parts meaning space xs h).1
words-drawn meaning (kern z ∷ xs) h = words-drawn meaning xs (fine-parts meaning (kern z) xs h).1
words-drawn meaning (hfil ∷ xs) h = words-drawn meaning xs (fine-parts meaning hfil xs h).1

lines-drawn : {Y : Type 0} (meaning : List ℕ → Result Y ℕ) (ss : List Line) → all_fine meaning (lines_items ss) ≡ true → AllByRecursion DrawnWord (drawn_in ss)
lines-drawn meaning [] h = tt
lines-drawn meaning (row es ∷ ss) h =
    let parts = and_parts _ _ (sym (list_all-append (fine meaning) (line_items (row es)) (lines_items ss)) ∙ h) in
    All-append DrawnWord (words_in (line_items (row es))) (drawn_in ss) (words-drawn meaning (line_items (row es)) parts.0) (lines-drawn meaning ss parts.1)
lines-drawn meaning (rule ∷ ss) h = (tt, lines-drawn meaning ss h)
lines-drawn meaning (gap z ∷ ss) h = lines-drawn meaning ss h

module _ {X E : Type 0} {m : Meaning X E} {s : Sides E} (t : Table X E m s) where
  lines-fine : all_fine (m.meaning t.measurer.now) (lines_items (ledger_in t).lines) ≡ true
  lines-fine = ap (all_fine (m.meaning t.measurer.now)) (sym (lines-items (ledger_in t).lines)) ∙ laid-fine t

  -- every word that is drawn is one
  pub table-drawn : AllByRecursion DrawnWord (drawn_in (ledger_in t).lines)
  table-drawn = lines-drawn (m.meaning t.measurer.now) (ledger_in t).lines lines-fine

  -- the words of templates stand in the preamble text
  pub table-in_text : AllByRecursion (InText t.rows.preamble.text.now) (lines_items (ledger_in t).lines)
  table-in_text =
      let g = ledger_in t in
      let p = t.rows.preamble.text.now in
      let laid = flat_map items_in (laid_entries g) in
      let done = flat_map items_in (done_of g.hand) in
      let rest = items_of g.hand in
      let all : all_items g ≡ laid ++ (done ++ rest) = ap (λ (xs : List Item). xs ++ rest) (flat_map-append items_in (laid_entries g) (done_of g.hand)) ∙ append_assoc laid done rest in
      let same : map (renamed p) (laid ++ (done ++ rest)) ≡ laid ++ (done ++ rest) = subst (λ (xs : List Item). map (renamed p) xs ≡ xs) all (ledger-renamed t.rows.preamble t.rows.draft.state t.rows.draft.memory) in
      subst (AllByRecursion (InText p)) (lines-items g.lines) (first-in_text (m.meaning t.measurer.now) p laid (done ++ rest) same (laid-fine t))
