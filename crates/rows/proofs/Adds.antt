-- One more item: its verdict and its sums.
use Rattle.std.proofs.Common.{◌≡◌, ℕ, ◌+◌, ◌<◌, ◌≤◌, Bool, true, false, cond, not, eqb, leb, List, [], ◌∷◌, ◌++◌, map, length, get_or, take, ℤ, pos, ◌+ℤ◌, sym, refl, ap, ◌∙◌, subst, arith, eqb-true}
use Rattle.std.specs.List.{flat_map}
use Rattle.std.proofs.lemmas.Int.{ints}
use Rattle.extent.specs.Sizes.{Within, Near}
use Rattle.ledger.specs.declared.records.ItemRecord.{ItemRecord}
use Rattle.ledger.specs.declared.records.ItemRecord.TheVariants.{CellWord, TemplateWord, Space, Kern, Hfil}
use Rattle.rows.specs.Columns.{columns_in, widths_in, column_at}
use Rattle.rows.specs.declared.state.EntryRecord.{EntryRecord}
use Rattle.rows.specs.declared.state.LineRecord.{LineRecord}
use Rattle.rows.specs.declared.state.Marks.{Marks}
use Rattle.rows.specs.declared.state.Memory.{Memory}
use Rattle.rows.specs.declared.state.State.{State}
use Rattle.rows.specs.declared.state.Stage.{Stage}
use Rattle.rows.specs.declared.state.Stage.TheVariants.{Closed, Fresh, Begun, Omitted}
use Rattle.ledger.specs.declared.records.Owed.{Owed}
use Rattle.rows.specs.declared.preamble.Preamble.{Preamble}
use Rattle.ledger.specs.declared.records.Room.{Room}
use Rattle.ledger.specs.Refusals.{entry_wide, table_full, columns_over, foreign_cell}
use Rattle.ledger.specs.Ledger.{Item, Entry, Line, Ledger}
use Rattle.ledger.specs.Calls.{Template, template_at, first_of, when, lacking, bytes_in, owes, used_items, used_entries, used_lines, used_text, on_open, puts, begun_at, fresh_at, starts, next_verdict, laid_entries, entries_in, done_of}
use Rattle.rows.specs.Held.{part, Held, held_by, held_of, FitBy, pushed}
use Rattle.ledger.specs.Items.{decoded_items, taken, meant}
use Rattle.rows.specs.Good.{owed, templates_of, ledger_by, ledger_of, hand_by, open_in, begun_in, fresh_in, u_pieces}
use Rattle.rows.specs.Sound.{Sound, Lies, stored_by}
use Rattle.ledger.specs.Naturals.{natural, beyond, out_z, owed_of, items_now, add_verdict, start_verdict, natural_by}
use Rattle.rows.proofs.Counts.{lines-count, entries-count, items-count, text-count}
use Rattle.rows.proofs.Rooms.{v-length, begun-open, template_is}
use Rattle.ledger.proofs.Beyonds.{beyond-same, natural-none, beyond-not, natural-append, natural-one}

pub item-bytes : (p : List ℕ) (k : ItemRecord) (w : List ℕ) → taken k ≡ length w → bytes_in (meant p k w) ≡ length w
item-bytes p (CellWord n) w e = refl
item-bytes p (TemplateWord a n) w e = e
item-bytes p Space w e = e
item-bytes p (Kern z) w e = e
item-bytes p Hfil w e = e

-- what is owed, on a side
pub owed-num : (wide : Item → ℕ → ℤ) (P : List Template) (st : Stage) (c f : ℕ) (h : Held) (k : ℕ) (z : ℤ) → begun_in st ≡ true
    → (st ≡ Begun → z ≡ natural wide (template_at P c).v k) → ((st ≡ Begun → ⊥) → z ≡ pos 0) → z ≡ natural wide (owed_of P (hand_by st c f h)) k
owed-num wide P Closed c f h k z b x y = let t : ◌≡◌ {A = Bool} true false = sym b in cc
owed-num wide P Fresh c f h k z b x y = let t : ◌≡◌ {A = Bool} true false = sym b in cc
owed-num wide P Begun c f h k z b x y = x refl
owed-num wide P Omitted c f h k z b x y = y (λ e. let t : ◌≡◌ {A = ℕ} 0 1 = cc in omega arith) ∙ sym (natural-none wide k)

pub owed_small : (wide : Item → ℕ → ℤ) (P : List Template) (st : Stage) (c f : ℕ) (h : Held) (k : ℕ) → begun_in st ≡ true
    → Within 68719476736 (natural wide (template_at P c).v k) → Within 68719476736 (natural wide (owed_of P (hand_by st c f h)) k)
owed_small wide P Closed c f h k b x = let t : ◌≡◌ {A = Bool} true false = sym b in let u : ◌≡◌ {A = ℕ} 0 1 = cc in absurd (omega arith)
owed_small wide P Fresh c f h k b x = let t : ◌≡◌ {A = Bool} true false = sym b in let u : ◌≡◌ {A = ℕ} 0 1 = cc in absurd (omega arith)
owed_small wide P Begun c f h k b x = x
owed_small wide P Omitted c f h k b x = let e = natural-none wide k in (omega (arith, ints), omega (arith, ints))

-- the sums are exact
pub sums-near : (a w o : ℤ) → Within 1073741823 (a +ℤ o) → Within 68719476736 o → Within 1073741823 w → Near a × Near w × Near (a +ℤ w) × Near o
sums-near a w o h i j = ((omega (arith, ints), omega (arith, ints)), (omega (arith, ints), omega (arith, ints)), (omega (arith, ints), omega (arith, ints)), (omega (arith, ints), omega (arith, ints)))

pub inside : (z : ℤ) → out_z z ≡ false → Within 1073741823 z
inside z h = (grind (arith, ints), grind (arith, ints))

-- counts of a ledger whose row is begun
module _ {E : Type 0} (q : Preamble E) (p : List ℕ) (n : ℕ) (k m : Marks) (b : ℕ) (ls : List LineRecord) (es : List (EntryRecord E)) (is : List ItemRecord) (t : List ℕ) (fit : FitBy n k m b ls es is t) (c f : ℕ)
    (lt : c < length (columns_in q.columns.now)) (fits : ((column_at (columns_in q.columns.now) c).from + ((column_at (columns_in q.columns.now) c).u + (column_at (columns_in q.columns.now) c).v)) ≤ length q.pieces.now) where
  begun-owes : (st : Stage) (h : Held) → begun_in st ≡ true → owes (templates_of q) (hand_by st c f h) ≡ owed st (column_at (columns_in q.columns.now) c)
  begun-owes Closed h y = refl
  begun-owes Fresh h y = let z : ◌≡◌ {A = Bool} true false = sym y in cc
  begun-owes Begun h y = v-length q c lt fits
  begun-owes Omitted h y = refl

  pub begun-items : (st : Stage) → begun_in st ≡ true → used_items (templates_of q) (ledger_by st c f (held_by p n k m ls es is t)) ≡ m.items + owed st (column_at (columns_in q.columns.now) c)
  begun-items Closed y = let z : ◌≡◌ {A = Bool} true false = sym y in cc
  begun-items Fresh y = let z : ◌≡◌ {A = Bool} true false = sym y in cc
  begun-items Begun y = let e = items-count p n k m b ls es is t fit in let o = begun-owes Begun (held_by p n k m ls es is t) y in rw (e, o)
  begun-items Omitted y = let e = items-count p n k m b ls es is t fit in rw e

  pub begun-entries : (st : Stage) → begun_in st ≡ true → used_entries (ledger_by st c f (held_by p n k m ls es is t)) ≡ m.entries + 1
  begun-entries Closed y = let z : ◌≡◌ {A = Bool} true false = sym y in cc
  begun-entries Fresh y = let z : ◌≡◌ {A = Bool} true false = sym y in cc
  begun-entries Begun y = let e = entries-count p n k m b ls es is t fit in rw e
  begun-entries Omitted y = let e = entries-count p n k m b ls es is t fit in rw e

  pub begun_lines : (st : Stage) → begun_in st ≡ true → used_lines (ledger_by st c f (held_by p n k m ls es is t)) ≡ n + 1
  begun_lines Closed y = let z : ◌≡◌ {A = Bool} true false = sym y in cc
  begun_lines Fresh y = let z : ◌≡◌ {A = Bool} true false = sym y in cc
  begun_lines Begun y = let e = lines-count p n k m b ls es is t fit in rw e
  begun_lines Omitted y = let e = lines-count p n k m b ls es is t fit in rw e

  pub begun-text : (st : Stage) → begun_in st ≡ true → used_text (ledger_by st c f (held_by p n k m ls es is t)) ≡ m.text
  begun-text Closed y = let z : ◌≡◌ {A = Bool} true false = sym y in cc
  begun-text Fresh y = let z : ◌≡◌ {A = Bool} true false = sym y in cc
  begun-text Begun y = text-count p n k m b ls es is t fit
  begun-text Omitted y = text-count p n k m b ls es is t fit

  pub add_lacks : (st : Stage) → begun_in st ≡ true → (r : Room) (a : Item) (w : ℕ) → bytes_in a ≡ w
      → lacking r (used_items (templates_of q) (ledger_by st c f (held_by p n k m ls es is t)) + 1) (used_entries (ledger_by st c f (held_by p n k m ls es is t))) (used_lines (ledger_by st c f (held_by p n k m ls es is t))) (used_text (ledger_by st c f (held_by p n k m ls es is t)) + bytes_in a)
      ≡ lacking r (m.items + owed st (column_at (columns_in q.columns.now) c) + 1) (m.entries + 1) (n + 1) (m.text + w)
  add_lacks st y r a w e = rw (begun-items st y, begun-entries st y, begun_lines st y, begun-text st y, e)

pub add_verdict_lem : (count : ℕ) (wide : Item → ℕ → ℤ) (P : List Template) (r : Room) (g : Ledger) (a : Item) (F : ℕ → ℤ) (w1 w2 : Bool)
    → ((k : ℕ) → k < count → F k ≡ (natural wide (items_now g.hand) k +ℤ wide a k) +ℤ natural wide (owed_of P g.hand) k)
    → w1 ≡ beyond count F → w2 ≡ lacking r (used_items P g + 1) (used_entries g) (used_lines g) (used_text g + bytes_in a)
    → first_of (when w1 entry_wide ∷ when w2 table_full ∷ []) ≡ add_verdict count wide P r g a
add_verdict_lem count wide P r g a F w1 w2 same e1 e2 =
    let e = e1 ∙ beyond-same count F (λ k. (natural wide (items_now g.hand) k +ℤ wide a k) +ℤ natural wide (owed_of P g.hand) k) same in
    ap (λ (x : Bool). first_of (when x entry_wide ∷ when w2 table_full ∷ [])) e ∙ ap (λ (x : Bool). first_of (when (beyond count (λ k. (natural wide (items_now g.hand) k +ℤ wide a k) +ℤ natural wide (owed_of P g.hand) k)) entry_wide ∷ when x table_full ∷ [])) e2

pub put_ledger : (st : Stage) (c f : ℕ) (h h' : Held) (a : Item) → begun_in st ≡ true → h' ≡ pushed h (a ∷ []) → ledger_by st c f h' ≡ on_open (puts a (ledger_by st c f h)) (ledger_by st c f h) (hand_by st c f h)
put_ledger Closed c f h h' a y e = let z : ◌≡◌ {A = Bool} true false = sym y in cc
put_ledger Fresh c f h h' a y e = let z : ◌≡◌ {A = Bool} true false = sym y in cc
put_ledger Begun c f h h' a y e = ap (ledger_by Begun c f) e
put_ledger Omitted c f h h' a y e = ap (ledger_by Omitted c f) e

module _ {E : Type 0} (count : ℕ) (num : E → ℕ → ℤ) (wide : Item → ℕ → ℤ) (q : Preamble E) (s : State E) (m : Memory E) (sound : Sound count num wide q s m) (y : begun_in s.stage ≡ true) (lt : s.row.column < length (columns_in q.columns.now))
    (owe : E) (hb : s.stage ≡ Begun → (d : Owed E) → owe ≡ (get_or (widths_in q.columns.now) s.row.column d).v) (hr : (s.stage ≡ Begun → ⊥) → (k : ℕ) → k < count → num owe k ≡ pos 0) where
  pub owe_is : (k : ℕ) → k < count → num owe k ≡ natural wide (owed_of (templates_of q) (ledger_of q s m).hand) k
  owe_is k kc =
      owed-num wide (templates_of q) s.stage s.row.column s.row.first (held_of q.text.now s m) k (num owe k) y
      (λ e. ap (λ (x : E). num x k) (hb e (record { u = owe; v = owe })) ∙ sound.vs s.row.column k (record { u = owe; v = owe }) kc lt)
      (λ never. hr never k kc)

  module _ (it sum all : E) (a : Item) (hs : (k : ℕ) → k < count → Near (num s.row.width k) → Near (num it k) → num sum k ≡ num s.row.width k +ℤ num it k)
      (ha : (k : ℕ) → k < count → Near (num sum k) → Near (num owe k) → num all k ≡ num sum k +ℤ num owe k)
      (hi : (k : ℕ) → k < count → (num it k ≡ wide a k) × Within 1073741823 (num it k)) where
    sum_both : (k : ℕ) → k < count → (num sum k ≡ natural wide (items_now (ledger_of q s m).hand) k +ℤ wide a k) × (num all k ≡ (natural wide (items_now (ledger_of q s m).hand) k +ℤ wide a k) +ℤ natural wide (owed_of (templates_of q) (ledger_of q s m).hand) k)
    sum_both k kc =
        let o = begun-open s.stage y in
        let N = natural wide (items_now (ledger_of q s m).hand) k in
        let O = natural wide (owed_of (templates_of q) (ledger_of q s m).hand) k in
        let w = hi k kc in
        let row = sound.row o k kc in
        let small = owed_small wide (templates_of q) s.stage s.row.column s.row.first (held_of q.text.now s m) k y (sound.small_v s.row.column k kc) in
        let near = sums-near N (num it k) O (sound.near o k kc) small w.1 in
        let e1 : num sum k ≡ N +ℤ wide a k = hs k kc (subst Near (sym row) near.0) near.1 ∙ ap (λ (x : ℤ). x +ℤ num it k) row ∙ ap (λ (x : ℤ). N +ℤ x) w.0 in
        let e0 : num sum k ≡ N +ℤ num it k = hs k kc (subst Near (sym row) near.0) near.1 ∙ ap (λ (x : ℤ). x +ℤ num it k) row in
        let ow = owe_is k kc in
        let e2 = ha k kc (subst Near (sym e0) near.2) (subst Near (sym ow) near.3) ∙ ap (λ (x : ℤ). x +ℤ num owe k) e1 ∙ ap (λ (x : ℤ). (N +ℤ wide a k) +ℤ x) ow in
        (e1, e2)

    pub sum_is : (k : ℕ) → k < count → num sum k ≡ natural wide (items_now (ledger_of q s m).hand) k +ℤ wide a k
    sum_is k kc = (sum_both k kc).0

    pub all-is : (k : ℕ) → k < count → num all k ≡ (natural wide (items_now (ledger_of q s m).hand) k +ℤ wide a k) +ℤ natural wide (owed_of (templates_of q) (ledger_of q s m).hand) k
    all-is k kc = (sum_both k kc).1

pub same-ledger : (st st' : Stage) (c c' f f' : ℕ) (h : Held) → st ≡ st' → c ≡ c' → f ≡ f' → ledger_by st c f h ≡ ledger_by st' c' f' h
same-ledger st st' c c' f f' h x y z = rw (x, y, z)

-- the parts of a ledger after an item is put
put_items : (st : Stage) (c f : ℕ) (h : Held) (a : Item) → begun_in st ≡ true → items_now (on_open (puts a (ledger_by st c f h)) (ledger_by st c f h) (hand_by st c f h)).hand ≡ items_now (hand_by st c f h) ++ a ∷ []
put_items Closed c f h a y = let z : ◌≡◌ {A = Bool} true false = sym y in cc
put_items Fresh c f h a y = refl
put_items Begun c f h a y = refl
put_items Omitted c f h a y = refl

put_owed : (P : List Template) (st : Stage) (c f : ℕ) (h : Held) (a : Item) → begun_in st ≡ true → owed_of P (on_open (puts a (ledger_by st c f h)) (ledger_by st c f h) (hand_by st c f h)).hand ≡ owed_of P (hand_by st c f h)
put_owed P Closed c f h a y = refl
put_owed P Fresh c f h a y = refl
put_owed P Begun c f h a y = refl
put_owed P Omitted c f h a y = refl

put_done : (st : Stage) (c f : ℕ) (h : Held) (a : Item) → done_of (on_open (puts a (ledger_by st c f h)) (ledger_by st c f h) (hand_by st c f h)).hand ≡ done_of (hand_by st c f h)
put_done Closed c f h a = refl
put_done Fresh c f h a = refl
put_done Begun c f h a = refl
put_done Omitted c f h a = refl

put_lines : (st : Stage) (c f : ℕ) (h : Held) (a : Item) → (on_open (puts a (ledger_by st c f h)) (ledger_by st c f h) (hand_by st c f h)).lines ≡ h.lines
put_lines Closed c f h a = refl
put_lines Fresh c f h a = refl
put_lines Begun c f h a = refl
put_lines Omitted c f h a = refl

module _ {E : Type 0} (count : ℕ) (num : E → ℕ → ℤ) (wide : Item → ℕ → ℤ) (q : Preamble E) (s s' : State E) (m m' : Memory E) (sound : Sound count num wide q s m) (y : begun_in s.stage ≡ true) (a : Item) (F : ℕ → ℤ)
    (L : ledger_of q s' m' ≡ on_open (puts a (ledger_of q s m)) (ledger_of q s m) (ledger_of q s m).hand)
    (row : (k : ℕ) → k < count → num s'.row.width k ≡ natural wide (items_now (ledger_of q s m).hand) k +ℤ wide a k)
    (all : (k : ℕ) → k < count → F k ≡ (natural wide (items_now (ledger_of q s m).hand) k +ℤ wide a k) +ℤ natural wide (owed_of (templates_of q) (ledger_of q s m).hand) k)
    (not-out : beyond count F ≡ false) (el : s'.laid.entries ≡ s.laid.entries) (em : s'.marks.entries ≡ s.marks.entries) (ee : m'.entries.now ≡ m.entries.now) (begins : s'.row.first ≤ s'.row.column) where
  new_items : (k : ℕ) → natural wide (items_now (ledger_of q s' m').hand) k ≡ natural wide (items_now (ledger_of q s m).hand) k +ℤ wide a k
  new_items k =
      ap (λ (x : Ledger). natural wide (items_now x.hand) k) L
      ∙ ap (λ (x : List Item). natural wide x k) (put_items s.stage s.row.column s.row.first (held_of q.text.now s m) a y)
      ∙ natural-append wide (items_now (ledger_of q s m).hand) (a ∷ []) k ∙ ap (λ (x : ℤ). natural wide (items_now (ledger_of q s m).hand) k +ℤ x) (natural-one wide a k)

  new-owed : (k : ℕ) → natural wide (owed_of (templates_of q) (ledger_of q s' m').hand) k ≡ natural wide (owed_of (templates_of q) (ledger_of q s m).hand) k
  new-owed k =
      ap (λ (x : Ledger). natural wide (owed_of (templates_of q) x.hand) k) L
      ∙ ap (λ (x : List Item). natural wide x k) (put_owed (templates_of q) s.stage s.row.column s.row.first (held_of q.text.now s m) a y)

  pub put_sound : Sound count num wide q s' m'
  put_sound = record {
    row = λ o k kc. row k kc ∙ sym (new_items k);
    near = λ o k kc.
        let w = inside (F k) (beyond-not count k F kc not-out) in
        let e1 = all k kc in let e2 = new_items k in let e3 = new-owed k in
        subst (Within 1073741823) (e1 ∙ ap (λ (x : ℤ). x +ℤ natural wide (owed_of (templates_of q) (ledger_of q s m).hand) k) (sym e2) ∙ ap (λ (x : ℤ). natural wide (items_now (ledger_of q s' m').hand) k +ℤ x) (sym e3)) w;
    done = λ o k kc. ap (λ (n : ℕ). map (stored_by num k) (part n s'.marks.entries m'.entries.now)) el ∙ ap (λ (n : ℕ). map (stored_by num k) (part s.laid.entries n m'.entries.now)) em ∙ ap (λ (x : List (EntryRecord E)). map (stored_by num k) (part s.laid.entries s.marks.entries x)) ee ∙ sound.done (begun-open s.stage y) k kc
        ∙ sym (ap (λ (x : Ledger). map (natural_by wide k) (done_of x.hand)) L ∙ ap (λ (x : List Entry). map (natural_by wide k) x) (put_done s.stage s.row.column s.row.first (held_of q.text.now s m) a));
    sized = λ k t d kc lt. subst (λ (x : List (EntryRecord E)). Within 1073741823 (num (get_or x t d).entry.width k)) (sym ee) (sound.sized k t d kc (omega arith));
    sized-done = λ o k t d kc lt. subst (λ (x : List (EntryRecord E)). Within 1073741823 (num (get_or x t d).entry.width k)) (sym ee) (sound.sized-done (begun-open s.stage y) k t d kc (omega arith));
    lies = λ t d lt. subst (λ (x : List (EntryRecord E)). Lies (length (columns_in q.columns.now)) (get_or x t d)) (sym ee) (sound.lies t d (omega arith));
    lies-done = λ o t d lt. subst (λ (x : List (EntryRecord E)). Lies (length (columns_in q.columns.now)) (get_or x t d)) (sym ee) (sound.lies-done (begun-open s.stage y) t d (omega arith));
    begins = λ o. begins;
    us = sound.us;
    vs = sound.vs;
    small_u = sound.small_u;
    small_v = sound.small_v;
    laid = λ k kc. ap (λ (n : ℕ). map (stored_by num k) (take n m'.entries.now)) el ∙ ap (λ (x : List (EntryRecord E)). map (stored_by num k) (take s.laid.entries x)) ee ∙ sound.laid k kc
        ∙ sym (ap (λ (x : Ledger). map (natural_by wide k) (laid_entries x)) L ∙ ap (λ (x : List Line). map (natural_by wide k) (flat_map entries_in x)) (put_lines s.stage s.row.column s.row.first (held_of q.text.now s m) a));
  }

module _ {E : Type 0} (q : Preamble E) (p : List ℕ) (n : ℕ) (k m : Marks) (b : ℕ) (ls : List LineRecord) (es : List (EntryRecord E)) (is : List ItemRecord) (t : List ℕ) (fit : FitBy n k m b ls es is t) (c f : ℕ)
    (lt : c < length (columns_in q.columns.now)) (fits : ((column_at (columns_in q.columns.now) c).from + ((column_at (columns_in q.columns.now) c).u + (column_at (columns_in q.columns.now) c).v)) ≤ length q.pieces.now) where
  pub next-lacks : (st : Stage) → begun_in st ≡ true → (r : Room) (x u v : ℕ) → length (template_at (templates_of q) (c + 1)).u ≡ u → length (template_at (templates_of q) (c + 1)).v ≡ v
      → lacking r (used_items (templates_of q) (ledger_by st c f (held_by p n k m ls es is t)) + (length (template_at (templates_of q) (c + 1)).u + length (template_at (templates_of q) (c + 1)).v)) (used_entries (ledger_by st c f (held_by p n k m ls es is t)) + x) (used_lines (ledger_by st c f (held_by p n k m ls es is t))) (used_text (ledger_by st c f (held_by p n k m ls es is t)))
      ≡ lacking r (m.items + owed st (column_at (columns_in q.columns.now) c) + (u + v)) (m.entries + 1 + x) (n + 1) m.text
  next-lacks st y r x u v eu ev = rw (begun-items q p n k m b ls es is t fit c f lt fits st y, begun-entries q p n k m b ls es is t fit c f lt fits st y, begun_lines q p n k m b ls es is t fit c f lt fits st y, begun-text q p n k m b ls es is t fit c f lt fits st y, eu, ev)

pub next-verdict : (x : ℕ) (P : List Template) (r : Room) (g : Ledger) (c d : ℕ) (w2 w3 : Bool) → c ≡ d → begun_at d g.hand ≡ true → w2 ≡ leb (length P) (c + 1)
    → w3 ≡ lacking r (used_items P g + (length (template_at P (c + 1)).u + length (template_at P (c + 1)).v)) (used_entries g + x) (used_lines g) (used_text g)
    → first_of (when w2 columns_over ∷ when w3 table_full ∷ []) ≡ next_verdict x P r g d
next-verdict x P r g c d w2 w3 e e1 e2 e3 =
    ap (λ (y : Bool). first_of (when y columns_over ∷ when w3 table_full ∷ [])) e2
    ∙ ap (λ (y : Bool). first_of (when (leb (length P) (c + 1)) columns_over ∷ when y table_full ∷ [])) e3
    ∙ ap (λ (i : ℕ). first_of (when (leb (length P) (i + 1)) columns_over ∷ when (lacking r (used_items P g + (length (template_at P (i + 1)).u + length (template_at P (i + 1)).v)) (used_entries g + x) (used_lines g) (used_text g)) table_full ∷ [])) e
    ∙ sym (ap (λ (y : Bool). first_of (when (not y) foreign_cell ∷ when (leb (length P) (d + 1)) columns_over ∷ when (lacking r (used_items P g + (length (template_at P (d + 1)).u + length (template_at P (d + 1)).v)) (used_entries g + x) (used_lines g) (used_text g)) table_full ∷ [])) e1)

pub second : (a : Bool) (c d : ℕ) → true ≡ cond a (eqb c d) false → c ≡ d
second true c d h = eqb-true c d (sym h)
second false c d h = cc

-- start
pub start-sums : (a u v : ℤ) → Within 1073741823 a → Within 68719476736 u → Within 68719476736 v → Near a × Near u × Near (a +ℤ u) × Near v
start-sums a u v h i j = ((omega (arith, ints), omega (arith, ints)), (omega (arith, ints), omega (arith, ints)), (omega (arith, ints), omega (arith, ints)), (omega (arith, ints), omega (arith, ints)))

-- u, one item more and v, in a row's first cell
pub first-sums : (a u v : ℤ) → Within 1073741823 a → Within 68719476736 u → Within 68719476736 v → Near u × Near a × Near (u +ℤ a) × Near v
first-sums a u v h i j = ((omega (arith, ints), omega (arith, ints)), (omega (arith, ints), omega (arith, ints)), (omega (arith, ints), omega (arith, ints)), (omega (arith, ints), omega (arith, ints)))

pub fresh-owed : (P : List Template) (st : Stage) (c f : ℕ) (h : Held) → fresh_in st ≡ true → owed_of P (hand_by st c f h) ≡ []
fresh-owed P Closed c f h y = refl
fresh-owed P Fresh c f h y = refl
fresh-owed P Begun c f h y = let z : ◌≡◌ {A = Bool} true false = sym y in cc
fresh-owed P Omitted c f h y = let z : ◌≡◌ {A = Bool} true false = sym y in cc

pub fresh-open : (st : Stage) → fresh_in st ≡ true → open_in st ≡ true
fresh-open Closed y = y
fresh-open Fresh y = refl
fresh-open Begun y = refl
fresh-open Omitted y = refl

pub fresh-is : (st : Stage) → fresh_in st ≡ true → st ≡ Fresh
fresh-is Closed y = let z : ◌≡◌ {A = Bool} true false = sym y in cc
fresh-is Fresh y = refl
fresh-is Begun y = let z : ◌≡◌ {A = Bool} true false = sym y in cc
fresh-is Omitted y = let z : ◌≡◌ {A = Bool} true false = sym y in cc

pub start-verdict : (count : ℕ) (wide : Item → ℕ → ℤ) (P : List Template) (g : Ledger) (c d : ℕ) (F : ℕ → ℤ) (w1 : Bool) → c ≡ d → fresh_at d g.hand ≡ true
    → ((k : ℕ) → k < count → F k ≡ (natural wide (items_now g.hand) k +ℤ natural wide (template_at P c).u k) +ℤ natural wide (template_at P c).v k)
    → w1 ≡ beyond count F → first_of (when w1 entry_wide ∷ []) ≡ start_verdict count wide P g d
start-verdict count wide P g c d F w1 same e1 f e2 =
    ap (λ (x : Bool). first_of (when x entry_wide ∷ [])) (e2 ∙ beyond-same count F (λ k. (natural wide (items_now g.hand) k +ℤ natural wide (template_at P c).u k) +ℤ natural wide (template_at P c).v k) f)
    ∙ ap (λ (i : ℕ). first_of (when (beyond count (λ k. (natural wide (items_now g.hand) k +ℤ natural wide (template_at P i).u k) +ℤ natural wide (template_at P i).v k)) entry_wide ∷ [])) same
    ∙ sym (ap (λ (b : Bool). first_of (when (not b) foreign_cell ∷ when (beyond count (λ k. (natural wide (items_now g.hand) k +ℤ natural wide (template_at P d).u k) +ℤ natural wide (template_at P d).v k)) entry_wide ∷ [])) e1)

module _ {E : Type 0} (count : ℕ) (num : E → ℕ → ℤ) (wide : Item → ℕ → ℤ) (q : Preamble E) (s : State E) (m : Memory E) (sound : Sound count num wide q s m) (y : fresh_in s.stage ≡ true) (lt : s.row.column < length (columns_in q.columns.now))
    (r : Owed E) (stored : (d : Owed E) → r ≡ get_or (widths_in q.columns.now) s.row.column d) (sum all : E)
    (hs : (k : ℕ) → k < count → Near (num s.row.width k) → Near (num r.u k) → num sum k ≡ num s.row.width k +ℤ num r.u k)
    (ha : (k : ℕ) → k < count → Near (num sum k) → Near (num r.v k) → num all k ≡ num sum k +ℤ num r.v k) where
  start-both : (k : ℕ) → k < count → (num sum k ≡ natural wide (items_now (ledger_of q s m).hand) k +ℤ natural wide (template_at (templates_of q) s.row.column).u k) × (num all k ≡ (natural wide (items_now (ledger_of q s m).hand) k +ℤ natural wide (template_at (templates_of q) s.row.column).u k) +ℤ natural wide (template_at (templates_of q) s.row.column).v k)
  start-both k kc =
      let o = fresh-open s.stage y in
      let N = natural wide (items_now (ledger_of q s m).hand) k in
      let U = natural wide (template_at (templates_of q) s.row.column).u k in
      let V = natural wide (template_at (templates_of q) s.row.column).v k in
      let row = sound.row o k kc in
      let eu = ap (λ (x : Owed E). num x.u k) (stored r) ∙ sound.us s.row.column k r kc lt in
      let ev = ap (λ (x : Owed E). num x.v k) (stored r) ∙ sound.vs s.row.column k r kc lt in
      let zero : natural wide (owed_of (templates_of q) (ledger_of q s m).hand) k ≡ pos 0 = ap (λ (x : List Item). natural wide x k) (fresh-owed (templates_of q) s.stage s.row.column s.row.first (held_of q.text.now s m) y) ∙ natural-none wide k in
      let inN : Within 1073741823 N = only N (natural wide (owed_of (templates_of q) (ledger_of q s m).hand) k) zero (sound.near o k kc) in
      let near = start-sums N U V inN (sound.small_u s.row.column k kc) (sound.small_v s.row.column k kc) in
      let e1 = hs k kc (subst Near (sym row) near.0) (subst Near (sym eu) near.1) ∙ ap (λ (x : ℤ). x +ℤ num r.u k) row ∙ ap (λ (x : ℤ). N +ℤ x) eu in
      (e1, ha k kc (subst Near (sym e1) near.2) (subst Near (sym ev) near.3) ∙ ap (λ (x : ℤ). x +ℤ num r.v k) e1 ∙ ap (λ (x : ℤ). (N +ℤ U) +ℤ x) ev)
    where
      only : (a z : ℤ) → z ≡ pos 0 → Within 1073741823 (a +ℤ z) → Within 1073741823 a
      only a z e h = (omega (arith, ints), omega (arith, ints))

  pub start-sum : (k : ℕ) → k < count → num sum k ≡ natural wide (items_now (ledger_of q s m).hand) k +ℤ natural wide (template_at (templates_of q) s.row.column).u k
  start-sum k kc = (start-both k kc).0

  pub start_is : (k : ℕ) → k < count → num all k ≡ (natural wide (items_now (ledger_of q s m).hand) k +ℤ natural wide (template_at (templates_of q) s.row.column).u k) +ℤ natural wide (template_at (templates_of q) s.row.column).v k
  start_is k kc = (start-both k kc).1

pub start-ledger : {E : Type 0} (q : Preamble E) (st : Stage) (c f : ℕ) (h h' : Held) → fresh_in st ≡ true → c < length (columns_in q.columns.now) → h' ≡ pushed h (decoded_items q.text.now (u_pieces q (column_at (columns_in q.columns.now) c)) [])
    → ledger_by Begun c f h' ≡ on_open (starts (templates_of q) (ledger_by st c f h)) (ledger_by st c f h) (hand_by st c f h)
start-ledger q Closed c f h h' y lt e = let z : ◌≡◌ {A = Bool} true false = sym y in cc
start-ledger q Fresh c f h h' y lt e = ap (ledger_by Begun c f) e ∙ ap (λ (t : Template). ledger_by Begun c f (pushed h t.u)) (sym (template_is q c lt))
start-ledger q Begun c f h h' y lt e = let z : ◌≡◌ {A = Bool} true false = sym y in cc
start-ledger q Omitted c f h h' y lt e = let z : ◌≡◌ {A = Bool} true false = sym y in cc
