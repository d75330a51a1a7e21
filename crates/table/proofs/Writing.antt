-- The list of a table that is set may be written. Assumes nothing.
use Rattle.std.proofs.Common.{◌≡◌, ℕ, zero, suc, ◌^◌, ◌<◌, ◌≤◌, List, [], ◌∷◌, map, length, take, ℤ, pos, negsuc, ◌-ℤ◌, ◌≤ℤ◌, Some, Ok, sym, ap, ◌∙◌, subst, arith}
use Rattle.std.specs.List.{AllByRecursion}
use Rattle.std.proofs.lemmas.Int.{ints}
use Rattle.std.proofs.lemmas.List.{length-take}
use Rattle.extent.specs.Sizes.{Within}
use Rattle.extent.specs.declared.Extent.{Ghosts as Sides}
use Rattle.measure.specs.declared.measurer.Metrics.{Metrics}
use Rattle.measure.specs.declared.measurer.Measurer.{Ghosts as Meaning}
use Rattle.measure.specs.Words.{IsWord}
use Rattle.measure.specs.Bounds.{Bounded, Spaced}
use Rattle.boxlist.specs.Lists.{Writable}
use Rattle.widths.specs.Entries.{Proper}
use Rattle.widths.specs.Formula.{reach}
use Rattle.sharing.specs.declared.Aim.{Aim}
use Rattle.sharing.specs.Gaps.{upward}
use Rattle.sharing.specs.Laws.{SetTo}
use Rattle.sharing.specs.Views.{widths_on, gaps_on}
use Rattle.sharing.proofs.SetReaches.{set-left, set-reach}
use Rattle.ledger.specs.Ledger.{Item, cell_word, template_word, space, kern, hfil, Entry}
use Rattle.ledger.specs.Calls.{laid_entries}
use Rattle.ledger.specs.Lawful.{fine}
use Rattle.ledger.specs.Naturals.{natural, natural_by}
use Rattle.rows.proofs.Asking.{sound-proper, sound-within}
use Rattle.ledger.specs.Items.{taken, meant}
use Rattle.ledger.proofs.Cuts.{length-chunks}
use Rattle.rows.proofs.Counts.{lines-count}
use Rattle.packer.specs.Boxes.{wide_in}
use Rattle.packer.specs.Laws.{lines_items, InText}
use Rattle.packer.specs.Lines.{table_boxes, total_height}
use Rattle.packer.specs.Writes.{EntrySized, EndsLow, entry_at}
use Rattle.packer.proofs.Ranged.{look-sized, wide-natural, entry-near}
use Rattle.packer.proofs.Sounds.{laid-items}
use Rattle.packer.proofs.Writes.{lines-items, may-be_written}
use Rattle.table.specs.declared.table.Table.{Table}
use Rattle.table.specs.Views.{columns_in, templates_in, ledger_in, wide_in as wide_by, laid_in}
use Rattle.table.specs.Setting.{widths_of, side_gaps, look_on, columns_at, width_at}
use Rattle.table.proofs.Drawn.{laid-fine}
use Rattle.table.proofs.Bytes.{text-is}
use Rattle.table.proofs.Settings.{first-within, naturals-within, settled-sides}
use Rattle.table.proofs.Words.{table-in_text}

-- what is left over is small where what it is taken from is
upward-most : (b : ℕ) (z : ℤ) → z ≤ℤ pos b → upward z ≤ b
upward-most b (pos n) h = omega (arith, ints)
upward-most b (negsuc n) h = omega arith

-- entries that lie in n columns, one by one
proper-at : (wide : Item → ℕ → ℤ) (k n : ℕ) (es : List Entry) → Proper n (map (natural_by wide k) es) → (i : ℕ) → i < length es → ((entry_at es i).first ≤ (entry_at es i).last) × ((entry_at es i).last < n)
proper-at wide k n [] h i lt = absurd (omega arith)
proper-at wide k n (e ∷ es) h zero lt = h.0
proper-at wide k n (e ∷ es) h (suc i) lt = proper-at wide k n es h.1 i (omega arith)

within-at : (wide : Item → ℕ → ℤ) (k b : ℕ) (es : List Entry) → AllByRecursion (λ e. Within b e.width) (map (natural_by wide k) es) → (i : ℕ) → i < length es → Within b (natural wide (entry_at es i).items k)
within-at wide k b [] h i lt = absurd (omega arith)
within-at wide k b (e ∷ es) h zero lt = h.0
within-at wide k b (e ∷ es) h (suc i) lt = within-at wide k b es h.1 i (omega arith)

-- of a short text all words end low
ends-low : (p : List ℕ) → length p ≤ 2 ^ 40 → (is : List Item) → AllByRecursion (InText p) is → AllByRecursion EndsLow is
ends-low p h [] a = tt
ends-low p h (cell_word w ∷ is) a = (tt, ends-low p h is a.1)
ends-low p h (template_word x w ∷ is) a = let e = a.0.0 in (omega arith, ends-low p h is a.1)
ends-low p h (space ∷ is) a = (tt, ends-low p h is a.1)
ends-low p h (kern z ∷ is) a = (tt, ends-low p h is a.1)
ends-low p h (hfil ∷ is) a = (tt, ends-low p h is a.1)

module _ {X E : Type 0} {m : Meaning X E} {s : Sides E} (t : Table X E m s) (k : ℕ) (kc : k < s.count) (nothing : s.entered k (pos 0) ≡ pos 0)
    (words : (w : List ℕ) (y : Metrics E) → IsWord w → m.meaning t.measurer.now w ≡ Ok y → Bounded s.count s.num y) (spaces : Spaced s.count s.num (m.blank t.measurer.now))
    (bounded : (b : ℕ) (z : ℤ) → Within b z → Within b (s.entered k z)) (rises : (z : ℤ) → pos 0 ≤ℤ z → pos 0 ≤ℤ s.entered k z)
    (a : Aim) (w : ℤ) (can : width_at t k a ≡ Some w) (set : SetTo (widths_on (widths_of t k)) (gaps_on (side_gaps t k)) (columns_in t) a w)
  where
    entry-sized : (i : ℕ) → i < length (laid_entries (ledger_in t)) → EntrySized (look_on t k) (columns_at t k a) (entry_at (laid_entries (ledger_in t)) i)
    entry-sized i lt =
        let q = t.rows.preamble in
        let st = t.rows.draft.state in
        let d = t.rows.draft.memory in
        let es = laid_entries (ledger_in t) in
        let e = entry_at es i in
        let ws = widths_on (widths_of t k) in
        let gs = gaps_on (side_gaps t k) in
        let small = sound-within s.count s.num (wide_by t) q st d t.meant k kc in
        let lies = proper-at (wide_by t) k (columns_in t) es (sound-proper s.count s.num (wide_by t) q st d t.meant k kc) i lt in
        let settled = settled-sides t k kc nothing (bounded 16777215) in
        let first = first-within t k kc nothing (bounded 16777215) in
        let rest = naturals-within t k kc nothing (bounded 16777215) in
        let left = set-left (laid_in t k) ws gs (columns_in t) settled small first rest t.few a w can e.first (let le = lies.0 in let l = lies.1 in omega arith) in
        let far = set-reach (laid_in t k) ws gs (columns_in t) settled small first rest t.few a w can e.first e.last lies.0 lies.1 in
        let own = subst (Within 1073741823) (wide-natural m s t.measurer.now k e.items) (within-at (wide_by t) k 1073741823 es small i lt) in
        record {
          near = λ j. entry-near m s t.measurer.now k kc (templates_in t) (ledger_in t) t.lawful i j;
          starts = (omega (arith, ints), omega (arith, ints));
          shares = upward-most (2 ^ 38) (reach ws (columns_at t k a).gaps e.first e.last -ℤ wide_in (look_on t k) e.items) (omega (arith, ints));
        }

    pub list-writable : length t.rows.preamble.text.now ≤ 2 ^ 40 → Writable w (total_height (look_on t k) (ledger_in t).lines) (table_boxes (look_on t k) (columns_at t k a) w (pos 0) 0 (ledger_in t).lines)
    list-writable short =
        let q = t.rows.preamble in
        let st = t.rows.draft.state in
        let d = t.rows.draft.memory in
        let good = t.rows.good in
        let fit = good.fit in
        let ss = (ledger_in t).lines in
        let count = lines-count q.text.now st.lines st.laid st.marks st.row.begin d.lines.now d.entries.now d.items.now d.text.now fit in
        let lines = good.lines in
        let items = good.items in
        let text = ap length (text-is t) in
        let cut = length-take st.laid.text d.text.now in
        let held = ap length (sym (lines-items ss) ∙ laid-items q st d fit) in
        let kept = length-chunks taken (meant q.text.now) (take st.laid.items d.items.now) (take st.laid.text d.text.now) in
        let some = length-take st.laid.items d.items.now in
        let since = fit.since_items in
        let begun = fit.begin-items in
        let least : pos 0 ≤ℤ w = let z = set.wide in let o = set.over in omega (arith, ints) in
        may-be_written (fine (m.meaning t.measurer.now)) (look_on t k) (columns_at t k a) w ss (record {
          looks = look-sized m s t.measurer.now k kc words spaces bounded rises;
          known = laid-fine t;
          entries = entry-sized;
          gaps = t.lawful.low_gaps;
          width = (least, set.most);
          few_lines = omega arith;
          few_items = omega arith;
          text = let x = good.text in let since = fit.since_text in omega arith;
          ends = ends-low q.text.now short (lines_items ss) (table-in_text t);
        })
