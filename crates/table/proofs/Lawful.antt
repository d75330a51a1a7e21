-- An accepted set meets its law. Assumes nothing.
use Rattle.std.proofs.Common.{◌≡◌, ℕ, suc, Bool, ◌+◌, ◌-◌, ◌<◌, true, false, cond, leb, nat_lt, ◌&&◌, ◌||◌, List, [], ◌∷◌, ◌++◌, length, take, drop, ℤ, pos, ◌≤ℤ◌, Some, None, Ok, Err, Option, inl, inr, ⊎_elim, sym, refl, ap, ◌∙◌, subst, arith}
use Rattle.std.specs.Prelude.{int_le, ◌<ℤ◌, slice_index_or}
use Rattle.std.specs.List.{flat_map}
use Rattle.std.proofs.lemmas.Int.{ints}
use Rattle.std.proofs.lemmas.Bool.{and_cases, and_from, or_parts, le-leb, leb-false, ltb-false}
use Rattle.extent.specs.Sizes.{Within}
use Rattle.extent.specs.declared.Extent.{Ghosts as Sides}
use Rattle.measure.specs.declared.measurer.Measurer.{Ghosts as Meaning}
use Rattle.measure.specs.declared.measurer.Metrics.{Metrics}
use Rattle.measure.specs.Words.{IsWord}
use Rattle.measure.specs.Bounds.{Bounded, Spaced}
use Rattle.boxlist.specs.declared.BoxRecord.{BoxRecord}
use Rattle.boxlist.specs.Over.{over}
use Rattle.faults.specs.declared.Cause.TheVariants as cause
use Rattle.faults.specs.Faults.{fault_at}
use Rattle.widths.specs.declared.Entry.{Entry}
use Rattle.widths.specs.Merging.{width}
use Rattle.widths.specs.Entries.{widest, Holds}
use Rattle.spans.specs.Tables.{after}
use Rattle.sharing.specs.declared.Aim.{Aim}
use Rattle.sharing.specs.Columns.{aimed, attainable}
use Rattle.sharing.specs.Views.{widths_on, gaps_on}
use Rattle.sharing.specs.Laws.{SetTo}
use Rattle.sharing.proofs.Meeting.{settings-met}
use Rattle.rows.proofs.Asking.{sound-proper}
use Rattle.ledger.specs.Ledger.{Line}
use Rattle.ledger.specs.Calls.{items_in}
use Rattle.packer.specs.Laws.{words_in, drawn_in, top_of}
use Rattle.packer.specs.Lines.{rule_box, table_boxes}
use Rattle.packer.specs.Settings.{lines_set, set_by, laid_of, set_answer, set_records}
use Rattle.table.specs.declared.table.Table.{Table}
use Rattle.table.specs.Promises.{ask_on}
use Rattle.table.specs.Views.{columns_in, lengths_in, ledger_in, laid_in, wide_in}
use Rattle.table.specs.Setting.{widths_of, side_gaps, look_on, columns_at, width_at, set_at}
use Rattle.table.specs.Sets.{SetAs, Sets, Unattainable, natural_on, stretch_on, no_width, no_room}
use Rattle.packer.proofs.Counts.{draws-all}
use Rattle.packer.proofs.Places.{places-rules, places-words}
use Rattle.packer.proofs.Names.{names-words}
use Rattle.table.proofs.Askings.{asked-some}
use Rattle.table.proofs.Settings.{widths-same, settled-sides}
use Rattle.table.proofs.Words.{table-drawn, table-in_text}
use Rattle.table.proofs.Writing.{list-writable}

-- ask of a column that there is
ask-same : (es : List (Entry ℤ)) (g : ℕ → ℤ) (n j : ℕ) (w : Option ℤ) → j < n → w ≡ width (widest es) g j → Ok w ≡ ask_on es g n (suc j)
ask-same es g n j w lt is =
    let e : suc j - 1 ≡ j = omega arith in
    asked-some es g n (suc j) w (and_from _ _ (le-leb 1 (suc j) (omega arith)) (le-leb (suc j) n (omega arith))) (is ∙ ap (width (widest es) g) (sym e))

-- a choice that gives nothing was not taken
cannot : (b : Bool) (x : ℤ) → cond b (Some x) None ≡ None → b ≡ false
cannot true x e = cc
cannot false x e = refl

int_le-fails : (x y : ℤ) → int_le x y ≡ false → y <ℤ x
int_le-fails x y h = grind (arith, ints)

-- a width that cannot be had
unattainable : (n t : ℤ) (s : ℕ) → attainable n t s ≡ false → Unattainable n t s
unattainable n t s h = ⊎_elim
    (λ x. inl (int_le-fails (pos 0) n x))
    (λ y. ⊎_elim
    (λ x. inr (inl (int_le-fails n t x)))
    (λ z. ⊎_elim
    (λ x. inr (inr (inl (int_le-fails t (pos 1073741823) x))))
    (λ u. let p = or_parts (int_le t n) (nat_lt 0 s) u in inr (inr (inr (int_le-fails t n p.0, let f = ltb-false 0 s p.1 in omega arith))))
    (and_cases (int_le t (pos 1073741823)) (int_le t n || nat_lt 0 s) z))
    (and_cases (int_le n t) (int_le t (pos 1073741823) && (int_le t n || nat_lt 0 s)) y))
    (and_cases (int_le (pos 0) n) (int_le n t && (int_le t (pos 1073741823) && (int_le t n || nat_lt 0 s))) h)

first-taken : {A : Type 0} (xs ys : List A) → take (length xs) (xs ++ ys) ≡ xs
first-taken [] ys = refl
first-taken (x ∷ xs) ys = ap (λ zs. x ∷ zs) (first-taken xs ys)

-- the records that are written, taken from the front
written-first : (old boxes : List BoxRecord) → take (length boxes) (over old 0 boxes) ≡ boxes
written-first old boxes = first-taken boxes (drop (0 + length boxes) old)

module _ {X E : Type 0} {m : Meaning X E} {s : Sides E} (t : Table X E m s) (k : ℕ) (kc : k < s.count) (nothing : s.entered k (pos 0) ≡ pos 0)
    (words : (w : List ℕ) (y : Metrics E) → IsWord w → m.meaning t.measurer.now w ≡ Ok y → Bounded s.count s.num y) (spaces : Spaced s.count s.num (m.blank t.measurer.now))
    (bounded : (b : ℕ) (z : ℤ) → Within b z → Within b (s.entered k z)) (rises : (z : ℤ) → pos 0 ≤ℤ z → pos 0 ≤ℤ s.entered k z)
    (a : Aim) (w : ℤ) (can : width_at t k a ≡ Some w)
  where
    set-to : SetTo (widths_on (widths_of t k)) (gaps_on (side_gaps t k)) (columns_in t) a w
    set-to = settings-met (widths_on (widths_of t k)) (gaps_on (side_gaps t k)) (columns_in t) a w can

    set-holds : Holds (widths_on (widths_of t k)) (columns_at t k a).gaps (laid_in t k)
    set-holds = set-to.meets.holds (laid_in t k) (sound-proper s.count s.num (wide_in t) t.rows.preamble t.rows.draft.state t.rows.draft.memory t.meant k kc) (settled-sides t k kc nothing (bounded 16777215)).holds

    pub set-as : SetAs t k a (laid_of (lines_set (look_on t k) (columns_at t k a) (ledger_in t).lines w)) (table_boxes (look_on t k) (columns_at t k a) w (pos 0) 0 (ledger_in t).lines)
    set-as = record {
      asked = λ j lt. ask-same (laid_in t k) (after s.entered k (lengths_in t)) (columns_in t) j (widths_on (widths_of t k) j) lt (widths-same t k j lt);
      settled = settled-sides t k kc nothing (bounded 16777215);
      set = set-to;
      holds = set-holds;
      height = refl;
      count = refl;
      places = λ before after left right e front back i box lines items is d.
          subst (λ (ss : List Line). slice_index_or (table_boxes (look_on t k) (columns_at t k a) w (pos 0) 0 ss) (length (drawn_in before) + length (words_in (flat_map items_in left ++ front))) d ≡ box) (sym lines)
          (places-words (look_on t k) (columns_at t k a) w before after left right e front back i box items is d);
      rules = λ before after d lines.
          subst (λ (ss : List Line). slice_index_or (table_boxes (look_on t k) (columns_at t k a) w (pos 0) 0 ss) (length (drawn_in before)) d ≡ rule_box (look_on t k) w (top_of (look_on t k) before)) (sym lines)
          (places-rules (look_on t k) (columns_at t k a) w before after d);
      named = names-words (look_on t k) (columns_at t k a) w t.rows.preamble.text.now (ledger_in t).lines (table-in_text t);
      words = table-drawn t;
      writable = list-writable t k kc nothing words spaces bounded rises a w can set-to;
    }

    -- where the width can be had, what is answered and written is that, or there are too few records
    set-some : (old : List BoxRecord) (o : Bool) → leb (length (table_boxes (look_on t k) (columns_at t k a) w (pos 0) 0 (ledger_in t).lines)) (length old) ≡ o
        → Sets t (suc k) a (cond o (over old 0 (table_boxes (look_on t k) (columns_at t k a) w (pos 0) 0 (ledger_in t).lines)) old) (cond o (Ok (laid_of (lines_set (look_on t k) (columns_at t k a) (ledger_in t).lines w))) (Err (fault_at cause.TooLittleRoom 0)))
    set-some old true e = let k-again : suc k - 1 ≡ k = omega arith in (
      omega arith,
      omega arith,
      subst (λ (x : ℕ). SetAs t x a (laid_of (lines_set (look_on t k) (columns_at t k a) (ledger_in t).lines w)) (take (length (table_boxes (look_on t k) (columns_at t k a) w (pos 0) 0 (ledger_in t).lines)) (over old 0 (table_boxes (look_on t k) (columns_at t k a) w (pos 0) 0 (ledger_in t).lines)))) (sym k-again)
          (subst (SetAs t k a (laid_of (lines_set (look_on t k) (columns_at t k a) (ledger_in t).lines w))) (sym (written-first old (table_boxes (look_on t k) (columns_at t k a) w (pos 0) 0 (ledger_in t).lines))) set-as),
    )
    set-some old false e =
        let few = leb-false (length (table_boxes (look_on t k) (columns_at t k a) w (pos 0) 0 (ledger_in t).lines)) (length old) e in
        let all = draws-all (look_on t k) (columns_at t k a) w (ledger_in t).lines in
        no_room (omega arith) (omega arith) (omega arith)

-- the law of set on a side k from 0, whatever its width
module _ {X E : Type 0} {m : Meaning X E} {s : Sides E} (t : Table X E m s) (k : ℕ) (kc : k < s.count) (nothing : s.entered k (pos 0) ≡ pos 0)
    (words : (w : List ℕ) (y : Metrics E) → IsWord w → m.meaning t.measurer.now w ≡ Ok y → Bounded s.count s.num y) (spaces : Spaced s.count s.num (m.blank t.measurer.now))
    (bounded : (b : ℕ) (z : ℤ) → Within b z → Within b (s.entered k z)) (rises : (z : ℤ) → pos 0 ≤ℤ z → pos 0 ≤ℤ s.entered k z)
    (a : Aim) (old : List BoxRecord)
  where
    set-by : (o : Option ℤ) → width_at t k a ≡ o → Sets t (suc k) a (set_records (set_by (look_on t k) (columns_at t k a) (ledger_in t).lines o) old) (set_answer (length old) (set_by (look_on t k) (columns_at t k a) (ledger_in t).lines o))
    set-by None e =
        let k-again : suc k - 1 ≡ k = omega arith in
        no_width (omega arith) (omega arith) (subst (λ (x : ℕ). Unattainable (natural_on t x) (aimed a (natural_on t x)) (stretch_on t x)) (sym k-again) (unattainable (natural_on t k) (aimed a (natural_on t k)) (stretch_on t k) (cannot (attainable (natural_on t k) (aimed a (natural_on t k)) (stretch_on t k)) (aimed a (natural_on t k)) e)))
    set-by (Some w) e = set-some t k kc nothing words spaces bounded rises a w e old _ refl

    pub set-law : Sets t (suc k) a (set_records (set_at t k a) old) (set_answer (length old) (set_at t k a))
    set-law = set-by (width_at t k a) refl
