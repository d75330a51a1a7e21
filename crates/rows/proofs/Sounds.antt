-- The widths that a table keeps stay those of its ledger's items, call by call. Assumes nothing.
use Rattle.std.proofs.Common.{◌≡◌, ℕ, ◌+◌, ◌<◌, ◌≤◌, Bool, true, false, List, [], ◌∷◌, ◌++◌, map, length, get_or, take, drop, set, ℤ, pos, ◌+ℤ◌, sym, refl, ap, ◌∙◌, subst, ⊎_elim, arith}
use Rattle.std.proofs.lemmas.Int.{ints}
use Rattle.std.proofs.lemmas.List.{get_or-take, drop_all, drop-append-le, length-take, append-nil, map-append, take_more_set, take-set-le, get_or-set_same, get_or-set_other}
use Rattle.std.proofs.lemmas.Bool.{cases_eq}
use Rattle.widths.specs.declared.Entry.{Entry as Sized}
use Rattle.std.specs.List.{flat_map}
use Rattle.extent.specs.Sizes.{Within}
use Rattle.rows.specs.Columns.{columns_in}
use Rattle.rows.specs.declared.state.EntryRecord.{EntryRecord}
use Rattle.rows.specs.declared.state.Memory.{Memory}
use Rattle.rows.specs.declared.state.State.{State}
use Rattle.rows.specs.declared.state.Stage.{Stage}
use Rattle.rows.specs.declared.state.Stage.TheVariants.{Closed, Fresh, Begun, Omitted}
use Rattle.rows.specs.declared.preamble.Preamble.{Preamble}
use Rattle.rows.specs.declared.state.LineRecord.{LineRecord}
use Rattle.rows.specs.declared.state.LineRecord.TheVariants.{Row, Rule, Gap}
use Rattle.ledger.specs.Ledger.{Item, Entry, Line, Ledger}
use Rattle.ledger.specs.Calls.{Template, template_at, laid_entries, entries_in, done_of, on_open, starts, carries, tabs}
use Rattle.rows.specs.Held.{part, Held, held_of, line_of}
use Rattle.rows.specs.Good.{templates_of, ledger_by, ledger_of, hand_by, open_in, fresh_in, begun_in}
use Rattle.rows.specs.Sound.{Sound, Lies, stored_by}
use Rattle.ledger.specs.Naturals.{natural, owed_of, items_now, natural_by}
use Rattle.ledger.proofs.Beyonds.{natural-none, natural-append}
use Rattle.rows.proofs.Rooms.{begun-open}
use Rattle.rows.proofs.Counts.{joined-append}

-- the items and the entries of a row in hand
pub open-items : (st : Stage) (c f : ℕ) (h : Held) → open_in st ≡ true → items_now (hand_by st c f h) ≡ h.items
open-items Closed c f h o = let z : ◌≡◌ {A = Bool} true false = sym o in cc
open-items Fresh c f h o = refl
open-items Begun c f h o = refl
open-items Omitted c f h o = refl

pub open_done : (st : Stage) (c f : ℕ) (h : Held) → open_in st ≡ true → done_of (hand_by st c f h) ≡ h.done
open_done Closed c f h o = let z : ◌≡◌ {A = Bool} true false = sym o in cc
open_done Fresh c f h o = refl
open_done Begun c f h o = refl
open_done Omitted c f h o = refl

pub part_none : {X : Type 0} (n : ℕ) (xs : List X) → part n n xs ≡ []
part_none n xs = drop_all n (take n xs) (let e = length-take n xs in omega arith)

-- a line without entries adds none
pub bare-entries : (l : LineRecord) (ls : List Line) → flat_map entries_in (ls ++ line_of l [] ∷ []) ≡ flat_map entries_in ls
bare-entries (Row n) ls = joined-append entries_in ls (line_of (Row n) [] ∷ []) ∙ append-nil (flat_map entries_in ls)
bare-entries Rule ls = joined-append entries_in ls (line_of Rule [] ∷ []) ∙ append-nil (flat_map entries_in ls)
bare-entries (Gap z) ls = joined-append entries_in ls (line_of (Gap z) [] ∷ []) ∙ append-nil (flat_map entries_in ls)

module _ {E : Type 0} (count : ℕ) (num : E → ℕ → ℤ) (wide : Item → ℕ → ℤ) (q : Preamble E) (s s' : State E) (m m' : Memory E) (sound : Sound count num wide q s m)
    (el : s'.laid.entries ≡ s.laid.entries) (te : take s.laid.entries m'.entries.now ≡ take s.laid.entries m.entries.now)
    (ll : laid_entries (ledger_of q s' m') ≡ laid_entries (ledger_of q s m)) where
  laid-again : (k : ℕ) → k < count → map (stored_by num k) (take s'.laid.entries m'.entries.now) ≡ map (natural_by wide k) (laid_entries (ledger_of q s' m'))
  laid-again k kc =
      ap (λ (n : ℕ). map (stored_by num k) (take n m'.entries.now)) el ∙ ap (map (stored_by num k)) te ∙ sound.laid k kc ∙ ap (map (natural_by wide k)) (sym ll)

  sized-again : (k t : ℕ) (d : EntryRecord E) → k < count → t < s'.laid.entries → Within 1073741823 (num (get_or m'.entries.now t d).entry.width k)
  sized-again k t d kc h =
      let lt : t < s.laid.entries = omega arith in
      subst (λ (e : EntryRecord E). Within 1073741823 (num e.entry.width k))
      (sym (get_or-take s.laid.entries m.entries.now t d lt) ∙ ap (λ (z : List (EntryRecord E)). get_or z t d) (sym te) ∙ get_or-take s.laid.entries m'.entries.now t d lt)
      (sound.sized k t d kc lt)

  lies-again : (t : ℕ) (d : EntryRecord E) → t < s'.laid.entries → Lies (length (columns_in q.columns.now)) (get_or m'.entries.now t d)
  lies-again t d h =
      let lt : t < s.laid.entries = omega arith in
      subst (Lies (length (columns_in q.columns.now)))
      (sym (get_or-take s.laid.entries m.entries.now t d lt) ∙ ap (λ (z : List (EntryRecord E)). get_or z t d) (sym te) ∙ get_or-take s.laid.entries m'.entries.now t d lt)
      (sound.lies t d lt)

  -- no row is in hand afterwards
  pub closed-sound : open_in s'.stage ≡ false → Sound count num wide q s' m'
  closed-sound shut = record {
    row = λ o. no o;
    near = λ o. no o;
    done = λ o. no o;
    sized-done = λ o. no o;
    lies = lies-again;
    lies-done = λ o. no o;
    begins = λ o. no o;
    us = sound.us;
    vs = sound.vs;
    small_u = sound.small_u;
    small_v = sound.small_v;
    laid = laid-again;
    sized = sized-again;
  }
    where
      no : {P : Type 0} → open_in s'.stage ≡ true → P
      no o = let t : ◌≡◌ {A = Bool} false true = sym shut ∙ o in let u : ◌≡◌ {A = ℕ} 0 1 = cc in absurd (omega arith)

  -- a row is in hand afterwards: its width, its size with the v still owed, and its entries
  pub open-sound : ((k : ℕ) → k < count → num s'.row.width k ≡ natural wide (items_now (ledger_of q s' m').hand) k)
      → ((k : ℕ) → k < count → Within 1073741823 (natural wide (items_now (ledger_of q s' m').hand) k +ℤ natural wide (owed_of (templates_of q) (ledger_of q s' m').hand) k))
      → ((k : ℕ) → k < count → map (stored_by num k) (part s'.laid.entries s'.marks.entries m'.entries.now) ≡ map (natural_by wide k) (done_of (ledger_of q s' m').hand))
      → ((k t : ℕ) (d : EntryRecord E) → k < count → t < s'.marks.entries → Within 1073741823 (num (get_or m'.entries.now t d).entry.width k))
      → ((t : ℕ) (d : EntryRecord E) → t < s'.marks.entries → Lies (length (columns_in q.columns.now)) (get_or m'.entries.now t d))
      → s'.row.first ≤ s'.row.column
      → Sound count num wide q s' m'
  open-sound row near done sized lies begins = record {
    row = λ o. row;
    near = λ o. near;
    done = λ o. done;
    sized-done = λ o. sized;
    lies = lies-again;
    lies-done = λ o. lies;
    begins = λ o. begins;
    us = sound.us;
    vs = sound.vs;
    small_u = sound.small_u;
    small_v = sound.small_v;
    laid = laid-again;
    sized = sized-again;
  }

  -- a row that has just been opened
  pub fresh-sound : s'.marks.entries ≡ s.laid.entries → items_now (ledger_of q s' m').hand ≡ [] → owed_of (templates_of q) (ledger_of q s' m').hand ≡ [] → done_of (ledger_of q s' m').hand ≡ []
      → ((k : ℕ) → k < count → num s'.row.width k ≡ pos 0) → s'.row.first ≤ s'.row.column → Sound count num wide q s' m'
  fresh-sound em items owed done zero begins =
      let nothing : (k : ℕ) → natural wide (items_now (ledger_of q s' m').hand) k ≡ pos 0 = λ k. ap (λ (x : List Item). natural wide x k) items ∙ natural-none wide k in
      open-sound
      (λ k kc. zero k kc ∙ sym (nothing k))
      (λ k kc. let a = nothing k in let b : natural wide (owed_of (templates_of q) (ledger_of q s' m').hand) k ≡ pos 0 = ap (λ (x : List Item). natural wide x k) owed ∙ natural-none wide k in (omega (arith, ints), omega (arith, ints)))
      (λ k kc. ap (λ (n : ℕ). map (stored_by num k) (part n s'.marks.entries m'.entries.now)) (el ∙ sym em) ∙ ap (map (stored_by num k)) (part_none s'.marks.entries m'.entries.now) ∙ ap (map (natural_by wide k)) (sym done))
      (λ k t d kc h. sized-again k t d kc (omega arith)) (λ t d h. lies-again t d (omega arith)) begins

  -- the same entries, whatever the items
  pub same-sound : open_in s.stage ≡ true → s'.marks.entries ≡ s.marks.entries → m'.entries.now ≡ m.entries.now → done_of (ledger_of q s' m').hand ≡ done_of (ledger_of q s m).hand
      → ((k : ℕ) → k < count → num s'.row.width k ≡ natural wide (items_now (ledger_of q s' m').hand) k)
      → ((k : ℕ) → k < count → Within 1073741823 (natural wide (items_now (ledger_of q s' m').hand) k +ℤ natural wide (owed_of (templates_of q) (ledger_of q s' m').hand) k))
      → s'.row.first ≤ s'.row.column
      → Sound count num wide q s' m'
  same-sound o em ee done row near begins = open-sound row near
      (λ k kc. ap (λ (n : ℕ). map (stored_by num k) (part n s'.marks.entries m'.entries.now)) el ∙ ap (λ (n : ℕ). map (stored_by num k) (part s.laid.entries n m'.entries.now)) em
      ∙ ap (λ (z : List (EntryRecord E)). map (stored_by num k) (part s.laid.entries s.marks.entries z)) ee ∙ sound.done o k kc ∙ ap (map (natural_by wide k)) (sym done))
      (λ k t d kc h. subst (λ (z : List (EntryRecord E)). Within 1073741823 (num (get_or z t d).entry.width k)) (sym ee) (sound.sized-done o k t d kc (omega arith)))
      (λ t d h. subst (λ (z : List (EntryRecord E)). Lies (length (columns_in q.columns.now)) (get_or z t d)) (sym ee) (sound.lies-done o t d (omega arith))) begins

-- the parts of a ledger whose cell is started
module _ (P : List Template) (c f : ℕ) (h : Held) where
  pub start-items : (st : Stage) → fresh_in st ≡ true → items_now (on_open (starts P (ledger_by st c f h)) (ledger_by st c f h) (hand_by st c f h)).hand ≡ items_now (hand_by st c f h) ++ (template_at P c).u
  start-items Closed y = let z : ◌≡◌ {A = Bool} true false = sym y in cc
  start-items Fresh y = refl
  start-items Begun y = let z : ◌≡◌ {A = Bool} true false = sym y in cc
  start-items Omitted y = let z : ◌≡◌ {A = Bool} true false = sym y in cc

  pub start-owed : (st : Stage) → fresh_in st ≡ true → owed_of P (on_open (starts P (ledger_by st c f h)) (ledger_by st c f h) (hand_by st c f h)).hand ≡ (template_at P c).v
  start-owed Closed y = let z : ◌≡◌ {A = Bool} true false = sym y in cc
  start-owed Fresh y = refl
  start-owed Begun y = let z : ◌≡◌ {A = Bool} true false = sym y in cc
  start-owed Omitted y = let z : ◌≡◌ {A = Bool} true false = sym y in cc

  pub start-done : (st : Stage) → done_of (on_open (starts P (ledger_by st c f h)) (ledger_by st c f h) (hand_by st c f h)).hand ≡ done_of (hand_by st c f h)
  start-done Closed = refl
  start-done Fresh = refl
  start-done Begun = refl
  start-done Omitted = refl

  -- .. or goes on with the same entry
  pub carry-items : (st : Stage) → begun_in st ≡ true → items_now (on_open (carries P (ledger_by st c f h)) (ledger_by st c f h) (hand_by st c f h)).hand ≡ items_now (hand_by st c f h) ++ owed_of P (hand_by st c f h)
  carry-items Closed y = let z : ◌≡◌ {A = Bool} true false = sym y in cc
  carry-items Fresh y = let z : ◌≡◌ {A = Bool} true false = sym y in cc
  carry-items Begun y = refl
  carry-items Omitted y = refl

  pub carry-owed : (st : Stage) → begun_in st ≡ true → owed_of P (on_open (carries P (ledger_by st c f h)) (ledger_by st c f h) (hand_by st c f h)).hand ≡ []
  carry-owed Closed y = refl
  carry-owed Fresh y = refl
  carry-owed Begun y = refl
  carry-owed Omitted y = refl

  pub carry-done : (st : Stage) → done_of (on_open (carries P (ledger_by st c f h)) (ledger_by st c f h) (hand_by st c f h)).hand ≡ done_of (hand_by st c f h)
  carry-done Closed = refl
  carry-done Fresh = refl
  carry-done Begun = refl
  carry-done Omitted = refl

  -- .. or goes on with a new one
  pub tab_items : (st : Stage) → begun_in st ≡ true → items_now (on_open (tabs P (ledger_by st c f h)) (ledger_by st c f h) (hand_by st c f h)).hand ≡ []
  tab_items Closed y = let z : ◌≡◌ {A = Bool} true false = sym y in cc
  tab_items Fresh y = let z : ◌≡◌ {A = Bool} true false = sym y in cc
  tab_items Begun y = refl
  tab_items Omitted y = refl

  pub tab_owed : (st : Stage) → begun_in st ≡ true → owed_of P (on_open (tabs P (ledger_by st c f h)) (ledger_by st c f h) (hand_by st c f h)).hand ≡ []
  tab_owed Closed y = refl
  tab_owed Fresh y = refl
  tab_owed Begun y = refl
  tab_owed Omitted y = refl

  pub tab_done : (st : Stage) → begun_in st ≡ true → done_of (on_open (tabs P (ledger_by st c f h)) (ledger_by st c f h) (hand_by st c f h)).hand
      ≡ done_of (hand_by st c f h) ++ record { first = f; last = c; items = items_now (hand_by st c f h) ++ owed_of P (hand_by st c f h) } ∷ []
  tab_done Closed y = let z : ◌≡◌ {A = Bool} true false = sym y in cc
  tab_done Fresh y = let z : ◌≡◌ {A = Bool} true false = sym y in cc
  tab_done Begun y = refl
  tab_done Omitted y = refl

pub part-more : {X : Type 0} (xs : List X) (k n : ℕ) (x : X) → k ≤ n → n < length xs → part k (n + 1) (set xs n x) ≡ part k n xs ++ x ∷ []
part-more xs k n x le lt = ap (drop k) (take_more_set xs n x lt) ∙ drop-append-le k (take n xs) (x ∷ []) (let e = length-take n xs in omega arith)

sized_as : ℕ → ℕ → ℤ → Sized ℤ
sized_as a b z = record { first = a; last = b; width = z }

-- one entry more is finished, and the next begins
module _ {E : Type 0} (count : ℕ) (num : E → ℕ → ℤ) (wide : Item → ℕ → ℤ) (q : Preamble E) (s s' : State E) (m m' : Memory E) (sound : Sound count num wide q s m) (b : begun_in s.stage ≡ true) (w : E) (n : ℕ)
    (width : (k : ℕ) → k < count → num w k ≡ natural wide (items_now (ledger_of q s m).hand) k +ℤ natural wide (owed_of (templates_of q) (ledger_of q s m).hand) k)
    (el : s'.laid.entries ≡ s.laid.entries) (em : s'.marks.entries ≡ s.marks.entries + 1) (since : s.laid.entries ≤ s.marks.entries) (he : s.marks.entries < length m.entries.now)
    (ee : m'.entries.now ≡ set m.entries.now s.marks.entries (record { entry = record { first = s.row.first; last = s.row.column; width = w }; count = n }))
    (L : ledger_of q s' m' ≡ on_open (tabs (templates_of q) (ledger_of q s m)) (ledger_of q s m) (ledger_of q s m).hand) (ll : laid_entries (ledger_of q s' m') ≡ laid_entries (ledger_of q s m))
    (zero : (k : ℕ) → k < count → num s'.row.width k ≡ pos 0) (lt : s.row.column < length (columns_in q.columns.now)) (begins : s'.row.first ≤ s'.row.column) where
  new : EntryRecord E
  new = record { entry = record { first = s.row.first; last = s.row.column; width = w }; count = n }

  finishes : Entry
  finishes = record { first = s.row.first; last = s.row.column; items = items_now (ledger_of q s m).hand ++ owed_of (templates_of q) (ledger_of q s m).hand }

  nothing : (k : ℕ) → natural wide (items_now (ledger_of q s' m').hand) k ≡ pos 0
  nothing k = ap (λ (x : Ledger). natural wide (items_now x.hand) k) L ∙ ap (λ (x : List Item). natural wide x k) (tab_items (templates_of q) s.row.column s.row.first (held_of q.text.now s m) s.stage b) ∙ natural-none wide k

  no_debt : (k : ℕ) → natural wide (owed_of (templates_of q) (ledger_of q s' m').hand) k ≡ pos 0
  no_debt k = ap (λ (x : Ledger). natural wide (owed_of (templates_of q) x.hand) k) L ∙ ap (λ (x : List Item). natural wide x k) (tab_owed (templates_of q) s.row.column s.row.first (held_of q.text.now s m) s.stage b) ∙ natural-none wide k

  new_is : (k : ℕ) → k < count → stored_by num k new ≡ natural_by wide k finishes
  unfolding new finishes sized_as
  new_is k kc = ap (sized_as s.row.first s.row.column) (width k kc ∙ sym (natural-append wide (items_now (ledger_of q s m).hand) (owed_of (templates_of q) (ledger_of q s m).hand) k))

  done_more : (k : ℕ) → k < count → map (stored_by num k) (part s'.laid.entries s'.marks.entries m'.entries.now) ≡ map (natural_by wide k) (done_of (ledger_of q s' m').hand)
  unfolding new finishes
  done_more k kc =
      let es = m.entries.now in
      let me = s.marks.entries in
      let le = s.laid.entries in
      let f = stored_by num k in
      let g = natural_by wide k in
      ap (λ (i : ℕ). map f (part i s'.marks.entries m'.entries.now)) el ∙ ap (λ (i : ℕ). map f (part le i m'.entries.now)) em ∙ ap (λ (z : List (EntryRecord E)). map f (part le (me + 1) z)) ee
      ∙ ap (map f) (part-more es le me new since he) ∙ map-append f (part le me es) (new ∷ [])
      ∙ ap (λ (z : List (Sized ℤ)). z ++ f new ∷ []) (sound.done (begun-open s.stage b) k kc) ∙ ap (λ (z : Sized ℤ). map g (done_of (ledger_of q s m).hand) ++ z ∷ []) (new_is k kc)
      ∙ sym (ap (λ (x : Ledger). map g (done_of x.hand)) L ∙ ap (map g) (tab_done (templates_of q) s.row.column s.row.first (held_of q.text.now s m) s.stage b) ∙ map-append g (done_of (ledger_of q s m).hand) (finishes ∷ []))

  sized-more : (k t : ℕ) (d : EntryRecord E) → k < count → t < s'.marks.entries → Within 1073741823 (num (get_or m'.entries.now t d).entry.width k)
  unfolding new
  sized-more k t d kc h =
      let es = m.entries.now in
      let me = s.marks.entries in
      let o = begun-open s.stage b in
      subst (λ (z : List (EntryRecord E)). Within 1073741823 (num (get_or z t d).entry.width k)) (sym ee)
      (⊎_elim
      (λ same. subst (λ (z : EntryRecord E). Within 1073741823 (num z.entry.width k)) (sym (ap (λ (i : ℕ). get_or (set es me new) i d) same ∙ get_or-set_same es me new d he)) (subst (Within 1073741823) (sym (width k kc)) (sound.near o k kc)))
      (λ ne. subst (λ (z : EntryRecord E). Within 1073741823 (num z.entry.width k)) (sym (get_or-set_other es me t new d ne)) (sound.sized-done o k t d kc (omega arith)))
      (cases_eq t me))

  lies_more : (t : ℕ) (d : EntryRecord E) → t < s'.marks.entries → Lies (length (columns_in q.columns.now)) (get_or m'.entries.now t d)
  unfolding new
  lies_more t d h =
      let es = m.entries.now in
      let me = s.marks.entries in
      let o = begun-open s.stage b in
      subst (λ (z : List (EntryRecord E)). Lies (length (columns_in q.columns.now)) (get_or z t d)) (sym ee)
      (⊎_elim
      (λ same. subst (Lies (length (columns_in q.columns.now))) (sym (ap (λ (i : ℕ). get_or (set es me new) i d) same ∙ get_or-set_same es me new d he)) (sound.begins o, lt))
      (λ ne. subst (Lies (length (columns_in q.columns.now))) (sym (get_or-set_other es me t new d ne)) (sound.lies-done o t d (omega arith)))
      (cases_eq t me))

  pub tab_sound : Sound count num wide q s' m'
  unfolding new
  tab_sound = open-sound count num wide q s s' m m' sound el (ap (take s.laid.entries) ee ∙ take-set-le s.laid.entries m.entries.now s.marks.entries new since) ll
      (λ k kc. zero k kc ∙ sym (nothing k))
      (λ k kc. let a = nothing k in let c = no_debt k in (omega (arith, ints), omega (arith, ints)))
      done_more sized-more lies_more begins
