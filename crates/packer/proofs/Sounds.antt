-- What is laid, as it is drawn. Assumes nothing.
use Rattle.std.proofs.Common.{◌≡◌, ℕ, ◌+◌, ◌<◌, ◌≤◌, List, [], ◌∷◌, map, length, take, drop, ℤ, ap, ◌∙◌, arith}
use Rattle.std.specs.List.{flat_map, AllByRecursion}
use Rattle.std.proofs.lemmas.List.{length-take}
use Rattle.extent.specs.declared.Extent.{Ghosts as Sides}
use Rattle.measure.specs.declared.measurer.Measurer.{Ghosts as Meaning}
use Rattle.widths.specs.declared.Entry.{Entry as Sized}
use Rattle.ledger.specs.Chunks.{chunks, total}
use Rattle.ledger.specs.Items.{taken, meant, decoded_items}
use Rattle.ledger.specs.Ledger.{Item}
use Rattle.ledger.specs.Calls.{items_in, laid_entries}
use Rattle.ledger.specs.Naturals.{wide_of, natural_by}
use Rattle.ledger.proofs.Cuts.{length-chunks}
use Rattle.rows.specs.declared.preamble.Preamble.{Preamble}
use Rattle.rows.specs.declared.state.EntryRecord.{EntryRecord}
use Rattle.rows.specs.declared.state.Memory.{Memory}
use Rattle.rows.specs.declared.state.State.{State}
use Rattle.rows.specs.Columns.{columns_in}
use Rattle.rows.specs.Good.{ledger_of}
use Rattle.rows.specs.Held.{counted, entry_of, decoded_entries, Fit}
use Rattle.rows.specs.Sound.{Sound, Lies, stored_by}
use Rattle.rows.proofs.Counts.{laid-spans}
use Rattle.rows.proofs.Asking.{all_laid}
use Rattle.packer.specs.Looks.{Look, look_of}
use Rattle.packer.specs.Boxes.{Columns}
use Rattle.packer.specs.Lines.{table_boxes}
use Rattle.packer.specs.Counted.{boxed, ruled}
use Rattle.packer.specs.Views.{Stored}
use Rattle.packer.proofs.Tables.{row-items}
use Rattle.packer.proofs.Ranged.{wide-natural}
use Rattle.packer.proofs.Counting.{worded, table-count, words-are, rules-are}

-- entries with the widths of the ledger's
stored-from : {X E : Type 0} (m : Meaning X E) (s : Sides E) (x : X) (k n : ℕ) (es : List (EntryRecord E)) (xs : List Item)
    → AllByRecursion (Lies n) es
    → map (stored_by s.num k) es ≡ map (natural_by (wide_of m s x) k) (decoded_entries es xs) → Stored s.num (look_of m s x k) k n es xs
unfolding chunks
stored-from m s x k n [] xs a e = tt
stored-from m s x k n (r ∷ es) xs a e =
    let head : stored_by s.num k r ≡ natural_by (wide_of m s x) k (entry_of r (take r.count xs)) = cc in
    let tail : map (stored_by s.num k) es ≡ map (natural_by (wide_of m s x) k) (decoded_entries es (drop r.count xs)) = cc in
    (ap (λ (z : Sized ℤ). z.width) head ∙ wide-natural m s x k (take r.count xs), a.0.0, a.0.1, stored-from m s x k n es (drop r.count xs) a.1 tail)

module _ {E : Type 0} (q : Preamble E) (s : State E) (d : Memory E) (fit : Fit s d) where
  abbrev pub held_items : List Item
  held_items = decoded_items q.text.now (take s.laid.items d.items.now) (take s.laid.text d.text.now)

  abbrev pub held_entries : List (EntryRecord E)
  held_entries = take s.laid.entries d.entries.now

  laid-are : laid_entries (ledger_of q s d) ≡ decoded_entries held_entries held_items
  laid-are = laid-spans q.text.now s.lines s.laid s.marks s.row.begin d.lines.now d.entries.now d.items.now d.text.now fit

  pub laid-items : flat_map items_in (laid_entries (ledger_of q s d)) ≡ held_items
  laid-items =
      let few : length held_items ≤ total counted held_entries = omega (arith, length-chunks taken (meant q.text.now) (take s.laid.items d.items.now) (take s.laid.text d.text.now), length-take s.laid.items d.items.now, fit.laid-items) in
      ap (flat_map items_in) laid-are ∙ row-items held_entries held_items few

  pub laid-count : (l : Look) (c : Columns) (w top : ℤ) (p : ℕ) → length (table_boxes l c w top p (ledger_of q s d).lines) ≡ total boxed (take s.laid.items d.items.now) + total ruled (take s.lines d.lines.now)
  laid-count l c w top p =
      let words = ap (total worded) laid-items ∙ words-are q.text.now (take s.laid.items d.items.now) (take s.laid.text d.text.now) in
      table-count l c w top p (ledger_of q s d).lines ∙ (λ i. words i + rules-are (take s.lines d.lines.now) (decoded_entries held_entries held_items) i)

  pub laid-stored : {X : Type 0} (m : Meaning X E) (k : Sides E) (x : X) (side : ℕ) → side < k.count → Sound k.count k.num (wide_of m k x) q s d → Stored k.num (look_of m k x side) side (length (columns_in q.columns.now)) held_entries held_items
  laid-stored m k x side lt sound =
      stored-from m k x side (length (columns_in q.columns.now)) held_entries held_items
      (all_laid (Lies (length (columns_in q.columns.now))) s.laid.entries d.entries.now sound.lies)
      (sound.laid side lt ∙ ap (map (natural_by (wide_of m k x) side)) laid-are)
