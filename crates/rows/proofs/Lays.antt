-- The widths of a row that is laid.
use Rattle.std.proofs.Common.{◌≡◌, ℕ, ◌+◌, ◌<◌, ◌≤◌, Bool, true, false, List, [], ◌∷◌, ◌++◌, map, length, get_or, take, set, ℤ, pos, ◌+ℤ◌, Option, sym, refl, ap, ◌∙◌, subst, ⊎_elim, append_assoc, arith}
use Rattle.std.specs.List.{flat_map}
use Rattle.std.proofs.lemmas.Int.{ints}
use Rattle.std.proofs.lemmas.Bool.{cases_eq}
use Rattle.std.proofs.lemmas.List.{map-append, take_more_set, get_or-set_same, get_or-set_other, append-nil}
use Rattle.extent.specs.Sizes.{Within, Near}
use Rattle.widths.specs.declared.Entry.{Entry as Sized}
use Rattle.rows.specs.Columns.{columns_in, widths_in}
use Rattle.rows.specs.declared.state.EntryRecord.{EntryRecord}
use Rattle.rows.specs.declared.state.Memory.{Memory}
use Rattle.rows.specs.declared.state.State.{State}
use Rattle.rows.specs.declared.state.Stage.{Stage}
use Rattle.rows.specs.declared.state.Stage.TheVariants.{Closed, Fresh, Begun, Omitted}
use Rattle.ledger.specs.declared.records.Owed.{Owed}
use Rattle.rows.specs.declared.preamble.Preamble.{Preamble}
use Rattle.ledger.specs.Ledger.{Item, Entry, row, OpenRow, Ledger}
use Rattle.ledger.specs.Calls.{Template, template_at, on_open, lays, laid_entries, entries_in, done_of}
use Rattle.rows.specs.Held.{part, Held, held_of}
use Rattle.rows.specs.Good.{templates_of, ledger_by, ledger_of, hand_by, open_in, begun_in}
use Rattle.rows.specs.Sound.{Sound, Lies, stored_by}
use Rattle.ledger.specs.Naturals.{natural, owed_of, items_now, natural_by}
use Rattle.rows.proofs.Counts.{joined-append}
use Rattle.rows.proofs.Overs.{take_part}
use Rattle.rows.proofs.Rooms.{begun-open}
use Rattle.ledger.proofs.Beyonds.{natural-append}
use Rattle.rows.proofs.Adds.{owed-num, owed_small}

-- the decoded_entries of a ledger after a row is laid
lay_spans : (P : List Template) (st : Stage) (c f : ℕ) (h : Held) → begun_in st ≡ true
    → laid_entries (on_open (lays P (ledger_by st c f h)) (ledger_by st c f h) (hand_by st c f h)) ≡ laid_entries (ledger_by st c f h) ++ (done_of (hand_by st c f h) ++ record { first = f; last = c; items = items_now (hand_by st c f h) ++ owed_of P (hand_by st c f h) } ∷ [])
lay_spans P Closed c f h y = let z : ◌≡◌ {A = Bool} true false = sym y in cc
lay_spans P Fresh c f h y = let z : ◌≡◌ {A = Bool} true false = sym y in cc
lay_spans P Begun c f h y = joined-append entries_in h.lines (row (h.done ++ record { first = f; last = c; items = h.items ++ (template_at P c).v } ∷ []) ∷ []) ∙ ap (λ (x : List Entry). flat_map entries_in h.lines ++ x) (append-nil (h.done ++ record { first = f; last = c; items = h.items ++ (template_at P c).v } ∷ []))
lay_spans P Omitted c f h y = joined-append entries_in h.lines (row (h.done ++ record { first = f; last = c; items = h.items ++ [] } ∷ []) ∷ []) ∙ ap (λ (x : List Entry). flat_map entries_in h.lines ++ x) (append-nil (h.done ++ record { first = f; last = c; items = h.items ++ [] } ∷ []))

sized_as : ℕ → ℕ → ℤ → Sized ℤ
sized_as a b z = record { first = a; last = b; width = z }

module _ {E : Type 0} (count : ℕ) (num : E → ℕ → ℤ) (wide : Item → ℕ → ℤ) (q : Preamble E) (s : State E) (m : Memory E) (sound : Sound count num wide q s m) (y : begun_in s.stage ≡ true) (lt : s.row.column < length (columns_in q.columns.now))
    (w : E)
    (hb : s.stage ≡ Begun → (d : Owed E) (k : ℕ) → k < count → Near (num s.row.width k) → Near (num (get_or (widths_in q.columns.now) s.row.column d).v k) → num w k ≡ num s.row.width k +ℤ num (get_or (widths_in q.columns.now) s.row.column d).v k)
    (hr : (s.stage ≡ Begun → ⊥) → w ≡ s.row.width) where
  H : Option OpenRow
  H = (ledger_of q s m).hand

  by-stage : (st : Stage) → begun_in st ≡ true → {P : Type 0} → (st ≡ Begun → P) → ((st ≡ Begun → ⊥) → P) → P
  by-stage Closed b x z = let t : ◌≡◌ {A = Bool} true false = sym b in let u : ◌≡◌ {A = ℕ} 0 1 = cc in absurd (omega arith)
  by-stage Fresh b x z = let t : ◌≡◌ {A = Bool} true false = sym b in let u : ◌≡◌ {A = ℕ} 0 1 = cc in absurd (omega arith)
  by-stage Begun b x z = x refl
  by-stage Omitted b x z = z (λ e. let t : ◌≡◌ {A = ℕ} 0 1 = cc in omega arith)

  pub entry-width : (k : ℕ) → k < count → num w k ≡ natural wide (items_now (ledger_of q s m).hand) k +ℤ natural wide (owed_of (templates_of q) (ledger_of q s m).hand) k
  entry-width k kc =
      let o = begun-open s.stage y in
      let N = natural wide (items_now (ledger_of q s m).hand) k in
      let O = natural wide (owed_of (templates_of q) (ledger_of q s m).hand) k in
      let r = sound.row o k kc in
      let small = owed_small wide (templates_of q) s.stage s.row.column s.row.first (held_of q.text.now s m) k y (sound.small_v s.row.column k kc) in
      by-stage s.stage y
      (λ is.
      let d : Owed E = record { u = w; v = w } in
      let v = sound.vs s.row.column k d kc lt in
      let ow = owed-num wide (templates_of q) s.stage s.row.column s.row.first (held_of q.text.now s m) k (num (get_or (widths_in q.columns.now) s.row.column d).v k) y (λ e. v) (λ never. absurd (never is)) in
      let nn = near-two N O (sound.near o k kc) small in
      hb is d k kc (subst Near (sym r) nn.0) (subst Near (sym ow) nn.1) ∙ ap (λ (x : ℤ). x +ℤ num (get_or (widths_in q.columns.now) s.row.column d).v k) r ∙ ap (λ (x : ℤ). N +ℤ x) ow)
      (λ never.
      let ow = owed-num wide (templates_of q) s.stage s.row.column s.row.first (held_of q.text.now s m) k (pos 0) y (λ e. absurd (never e)) (λ n. refl) in
      ap (λ (x : E). num x k) (hr never) ∙ r ∙ plus-zero N ∙ ap (λ (x : ℤ). N +ℤ x) ow)
    where
      near-two : (a b : ℤ) → Within 1073741823 (a +ℤ b) → Within 68719476736 b → Near a × Near b
      near-two a b h i = ((omega (arith, ints), omega (arith, ints)), (omega (arith, ints), omega (arith, ints)))

      plus-zero : (a : ℤ) → a ≡ a +ℤ pos 0
      plus-zero a = omega (arith, ints)

  module _ (s' : State E) (m' : Memory E) (n : ℕ) (closed : s'.stage ≡ Closed) (he : s.marks.entries < length m.entries.now) (since : s.laid.entries ≤ s.marks.entries) (el : s'.laid.entries ≡ s.marks.entries + 1)
      (ee : m'.entries.now ≡ set m.entries.now s.marks.entries (record { entry = record { first = s.row.first; last = s.row.column; width = w }; count = n }))
      (L : ledger_of q s' m' ≡ on_open (lays (templates_of q) (ledger_of q s m)) (ledger_of q s m) (ledger_of q s m).hand) where
    e : EntryRecord E
    e = record { entry = record { first = s.row.first; last = s.row.column; width = w }; count = n }

    shut : {P : Type 0} → open_in s'.stage ≡ true → P
    shut o = let t : ◌≡◌ {A = Bool} false true = sym (ap open_in closed) ∙ o in let u : ◌≡◌ {A = ℕ} 0 1 = cc in absurd (omega arith)

    new-laid : (k : ℕ) → k < count → map (stored_by num k) (take s'.laid.entries m'.entries.now) ≡ map (natural_by wide k) (laid_entries (ledger_of q s' m'))
    unfolding e sized_as
    new-laid k kc =
        let es = m.entries.now in
        let me = s.marks.entries in
        let le = s.laid.entries in
        let f = stored_by num k in
        let g = natural_by wide k in
        let D = done_of (ledger_of q s m).hand in
        let x : Entry = record { first = s.row.first; last = s.row.column; items = items_now (ledger_of q s m).hand ++ owed_of (templates_of q) (ledger_of q s m).hand } in
        let ew : f e ≡ g x = ap (sized_as s.row.first s.row.column) (entry-width k kc ∙ sym (natural-append wide (items_now (ledger_of q s m).hand) (owed_of (templates_of q) (ledger_of q s m).hand) k)) in
        ap (λ (i : ℕ). map f (take i m'.entries.now)) el
        ∙ ap (λ (z : List (EntryRecord E)). map f (take (me + 1) z)) ee
        ∙ ap (map f) (take_more_set es me e he)
        ∙ map-append f (take me es) (e ∷ [])
        ∙ ap (λ (z : List (EntryRecord E)). map f z ++ f e ∷ []) (take_part es le me since)
        ∙ ap (λ (z : List (Sized ℤ)). z ++ f e ∷ []) (map-append f (take le es) (part le me es))
        ∙ ap (λ (z : List (Sized ℤ)). (z ++ map f (part le me es)) ++ f e ∷ []) (sound.laid k kc)
        ∙ ap (λ (z : List (Sized ℤ)). (map g (laid_entries (ledger_of q s m)) ++ z) ++ f e ∷ []) (sound.done (begun-open s.stage y) k kc)
        ∙ ap (λ (z : Sized ℤ). (map g (laid_entries (ledger_of q s m)) ++ map g D) ++ z ∷ []) ew
        ∙ append_assoc (map g (laid_entries (ledger_of q s m))) (map g D) (g x ∷ [])
        ∙ sym (ap (λ (z : Ledger). map g (laid_entries z)) L
        ∙ ap (map g) (lay_spans (templates_of q) s.stage s.row.column s.row.first (held_of q.text.now s m) y)
        ∙ map-append g (laid_entries (ledger_of q s m)) (D ++ x ∷ []) ∙ ap (λ (z : List (Sized ℤ)). map g (laid_entries (ledger_of q s m)) ++ z) (map-append g D (x ∷ [])))

    new-sized : (k t : ℕ) (d : EntryRecord E) → k < count → t < s'.laid.entries → Within 1073741823 (num (get_or m'.entries.now t d).entry.width k)
    unfolding e
    new-sized k t d kc h =
        let es = m.entries.now in
        let me = s.marks.entries in
        let o = begun-open s.stage y in
        subst (λ (z : List (EntryRecord E)). Within 1073741823 (num (get_or z t d).entry.width k)) (sym ee)
        (⊎_elim
        (λ same. subst (λ (z : EntryRecord E). Within 1073741823 (num z.entry.width k)) (sym (ap (λ (i : ℕ). get_or (set es me e) i d) same ∙ get_or-set_same es me e d he)) (subst (Within 1073741823) (sym (entry-width k kc)) (sound.near o k kc)))
        (λ ne. subst (λ (z : EntryRecord E). Within 1073741823 (num z.entry.width k)) (sym (get_or-set_other es me t e d ne)) (sound.sized-done o k t d kc (omega arith)))
        (cases_eq t me))

    new-lies : (t : ℕ) (d : EntryRecord E) → t < s'.laid.entries → Lies (length (columns_in q.columns.now)) (get_or m'.entries.now t d)
    unfolding e
    new-lies t d h =
        let es = m.entries.now in
        let me = s.marks.entries in
        let o = begun-open s.stage y in
        subst (λ (z : List (EntryRecord E)). Lies (length (columns_in q.columns.now)) (get_or z t d)) (sym ee)
        (⊎_elim
        (λ same. subst (Lies (length (columns_in q.columns.now))) (sym (ap (λ (i : ℕ). get_or (set es me e) i d) same ∙ get_or-set_same es me e d he)) (sound.begins o, lt))
        (λ ne. subst (Lies (length (columns_in q.columns.now))) (sym (get_or-set_other es me t e d ne)) (sound.lies-done o t d (omega arith)))
        (cases_eq t me))

    pub lay_sound : Sound count num wide q s' m'
    lay_sound = record {
      row = λ o. shut o;
      near = λ o. shut o;
      done = λ o. shut o;
      sized-done = λ o. shut o;
      us = sound.us;
      vs = sound.vs;
      small_u = sound.small_u;
      small_v = sound.small_v;
      laid = new-laid;
      sized = new-sized;
      lies = new-lies;
      lies-done = λ o. shut o;
      begins = λ o. shut o;
    }
