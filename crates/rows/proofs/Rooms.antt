-- Templates, stages and verdicts, by the numbers that the code compares.
use Rattle.std.proofs.Common.{◌≡◌, ℕ, ◌+◌, ◌-◌, ◌<◌, ◌≤◌, Bool, true, false, cond, eqb, List, [], ◌∷◌, ◌++◌, length, take, drop, Some, sym, refl, ap, ◌∙◌, arith}
use Rattle.std.specs.List.{flat_map}
use Rattle.std.proofs.lemmas.List.{length-take-le, length-drop, take-append-drop, get_or-map, append-nil}
use Rattle.std.proofs.lemmas.Bool.Decides.{nat_tests}
use Rattle.ledger.specs.declared.records.ItemRecord.{ItemRecord}
use Rattle.rows.specs.Columns.{columns_in, column_at}
use Rattle.rows.specs.declared.state.EntryRecord.{EntryRecord}
use Rattle.rows.specs.declared.state.LineRecord.{LineRecord}
use Rattle.rows.specs.declared.state.Marks.{Marks}
use Rattle.rows.specs.declared.state.Stage.{Stage}
use Rattle.rows.specs.declared.state.Stage.TheVariants.{Closed, Fresh, Begun, Omitted}
use Rattle.rows.specs.declared.preamble.Preamble.{Preamble}
use Rattle.ledger.specs.declared.records.Room.{Room}
use Rattle.ledger.specs.Refusals.{table_full}
use Rattle.ledger.specs.Chunks.{total}
use Rattle.ledger.specs.Ledger.{Item, Line, OpenRow}
use Rattle.ledger.specs.Calls.{Template, template_at, first_of, when, lacking, entries_in, items_in, bytes_in, all_items, used_items, used_entries, used_lines, used_text, take_verdict, rule_verdict, fresh_at, begun_at, on_open, lays, tabs, carries, v_owed, ruled_by}
use Rattle.ledger.specs.Items.{taken, meant, decoded_items}
use Rattle.rows.specs.Held.{Held, held_by, FitBy, emptied, pushed, closed, laid_down, ruled}
use Rattle.rows.specs.Good.{one, owed, u_pieces, v_pieces, template_of, templates_of, ledger_by, hand_by, open_in, fresh_in, begun_in, v_of, omitted_in}
use Rattle.ledger.proofs.Cuts.{total-append, length-chunks, chunks-none}
use Rattle.rows.proofs.Grows.{empty-held, empty-fit}
use Rattle.rows.proofs.Counts.{lines-count, entries-count, items-count, text-count}

pub when-one : (b : Bool) → when b table_full ≡ first_of (when b table_full ∷ [])
when-one true = refl
when-one false = refl

pub zero-part : {R : Type 0} (size : R → ℕ) (xs : List R) (a n : ℕ) → total size xs ≡ 0 → total size (take n (drop a xs)) ≡ 0
zero-part {R} size xs a n z =
    let e1 = total-append size (λ (r : R) (ys : List ℕ). r) (take a xs) (drop a xs) in
    let e2 = total-append size (λ (r : R) (ys : List ℕ). r) (take n (drop a xs)) (drop n (drop a xs)) in
    let e3 = ap (total size) (take-append-drop a xs) in
    let e4 = ap (total size) (take-append-drop n (drop a xs)) in
    omega arith

pub length-piece : {X : Type 0} (xs : List X) (a n : ℕ) → a + n ≤ length xs → length (take n (drop a xs)) ≡ n
length-piece xs a n h = let k : n ≤ length (drop a xs) = simp length-drop (omega arith) in length-take-le n (drop a xs) k

-- .. as a slice from a to a + n takes it
pub piece-is : {X : Type 0} (xs : List X) (a n : ℕ) → take ((a + n) - a) (drop a xs) ≡ take n (drop a xs)
piece-is xs a n = let e : (a + n) - a ≡ n = omega arith in ap (λ (i : ℕ). take i (drop a xs)) e

module _ {E : Type 0} (q : Preamble E) (c : ℕ) (h : c < length (columns_in q.columns.now)) where
  pub template_is : template_at (templates_of q) c ≡ template_of q (column_at (columns_in q.columns.now) c)
  template_is = get_or-map (template_of q) (columns_in q.columns.now) c (record { from = 0; u = 0; v = 0 }) (record { u = []; v = [] }) h

  module _ (k : ((column_at (columns_in q.columns.now) c).from + ((column_at (columns_in q.columns.now) c).u + (column_at (columns_in q.columns.now) c).v)) ≤ length q.pieces.now) where
    pub u-length : length (template_at (templates_of q) c).u ≡ (column_at (columns_in q.columns.now) c).u
    u-length =
        ap (λ (t : Template). length t.u) template_is
        ∙ length-chunks taken (meant q.text.now) (u_pieces q (column_at (columns_in q.columns.now) c)) []
        ∙ length-piece q.pieces.now (column_at (columns_in q.columns.now) c).from (column_at (columns_in q.columns.now) c).u (omega arith)

    pub v-length : length (template_at (templates_of q) c).v ≡ (column_at (columns_in q.columns.now) c).v
    v-length =
        ap (λ (t : Template). length t.v) template_is
        ∙ length-chunks taken (meant q.text.now) (v_pieces q (column_at (columns_in q.columns.now) c)) []
        ∙ length-piece q.pieces.now ((column_at (columns_in q.columns.now) c).from + (column_at (columns_in q.columns.now) c).u) (column_at (columns_in q.columns.now) c).v (omega arith)

pub record Enough (m : Room) (i e l t : ℕ) : Type 0 where
  pub items : i ≤ m.items
  pub entries : e ≤ m.entries
  pub lines : l ≤ m.lines
  pub text : t ≤ m.text

pub enough : (m : Room) (i e l t : ℕ) → lacking m i e l t ≡ false → Enough m i e l t
enough m i e l t h = record { items = grind (arith, nat_tests); entries = grind (arith, nat_tests); lines = grind (arith, nat_tests); text = grind (arith, nat_tests) }

-- counts of a ledger without a row in hand
module _ {E : Type 0} (P : List Template) (p : List ℕ) (n : ℕ) (k m : Marks) (b : ℕ) (ls : List LineRecord) (es : List (EntryRecord E)) (is : List ItemRecord) (t : List ℕ) (fit : FitBy n k m b ls es is t) (col first : ℕ) where
  held : Held
  held = held_by p n k m ls es is t

  empty : held_by p n k k ls es is t ≡ emptied (held_by p n k m ls es is t)
  empty = empty-held p n k m b ls es is t fit

  pub closed-items : used_items P (ledger_by Closed col first (held_by p n k m ls es is t)) ≡ k.items
  closed-items =
      let e = items-count p n k k k.items ls es is t (empty-fit p n k m b ls es is t fit) in
      let a : length (all_items (ledger_by Closed col first (held_by p n k m ls es is t))) ≡ k.items =
      sym (ap (λ (h : Held). length (flat_map items_in (flat_map entries_in h.lines ++ h.done) ++ h.items)) empty) ∙ e in
      omega arith

  pub closed-entries : used_entries (ledger_by Closed col first (held_by p n k m ls es is t)) ≡ k.entries
  closed-entries =
      let e = entries-count p n k k k.items ls es is t (empty-fit p n k m b ls es is t fit) in
      let a : length (flat_map entries_in (held_by p n k m ls es is t).lines ++ []) ≡ k.entries = sym (ap (λ (h : Held). length (flat_map entries_in h.lines ++ h.done)) empty) ∙ e in
      omega arith

  pub closed-text : used_text (ledger_by Closed col first (held_by p n k m ls es is t)) ≡ k.text
  closed-text =
      let e = text-count p n k k k.items ls es is t (empty-fit p n k m b ls es is t fit) in
      sym (ap (λ (h : Held). total bytes_in (flat_map items_in (flat_map entries_in h.lines ++ h.done) ++ h.items)) empty) ∙ e

  pub closed-lines : used_lines (ledger_by Closed col first (held_by p n k m ls es is t)) ≡ n
  closed-lines = let e = lines-count p n k m b ls es is t fit in omega arith

  -- the verdict of take
  pub take-verdict : (r : Room) (u v : ℕ) (st : Stage) (full : Bool) → open_in st ≡ false → length (template_at P 0).u ≡ u → length (template_at P 0).v ≡ v
      → full ≡ lacking r (k.items + (u + v)) (k.entries + 1) (n + 1) k.text
      → when full table_full ≡ take_verdict P r (ledger_by st col first (held_by p n k m ls es is t))
  take-verdict r u v Closed full o eu ev ef =
      let e1 = closed-items in let e2 = closed-entries in let e3 = closed-lines in let e4 = closed-text in
      rw (e1, e2, e3, e4, eu, ev, ← ef) (when-first full)
    where
      when-first : (b : Bool) → when b table_full ≡ first_of (when b table_full ∷ [])
      when-first true = refl
      when-first false = refl
  take-verdict r u v Fresh full o eu ev ef = let z : ◌≡◌ {A = Bool} true false = o in cc
  take-verdict r u v Begun full o eu ev ef = let z : ◌≡◌ {A = Bool} true false = o in cc
  take-verdict r u v Omitted full o eu ev ef = let z : ◌≡◌ {A = Bool} true false = o in cc

  pub rule-verdict : (r : Room) (st : Stage) (full : Bool) → open_in st ≡ false
      → full ≡ lacking r k.items k.entries (n + 1) k.text
      → when full table_full ≡ rule_verdict P r (ledger_by st col first (held_by p n k m ls es is t))
  rule-verdict r Closed full o ef =
      let e1 = closed-items in let e2 = closed-entries in let e3 = closed-lines in let e4 = closed-text in
      rw (e1, e2, e3, e4, ← ef) (when-one full)
  rule-verdict r Fresh full o ef = let z : ◌≡◌ {A = Bool} true false = o in cc
  rule-verdict r Begun full o ef = let z : ◌≡◌ {A = Bool} true false = o in cc
  rule-verdict r Omitted full o ef = let z : ◌≡◌ {A = Bool} true false = o in cc

pub rule-ledger : (st : Stage) (c f : ℕ) (h h' : Held) (x : Line) → h' ≡ ruled h x → ledger_by st c f h' ≡ ruled_by x (ledger_by st c f h)
rule-ledger Closed c f h h' x e = ap (ledger_by Closed c f) e
rule-ledger Fresh c f h h' x e = ap (ledger_by Fresh c f) e
rule-ledger Begun c f h h' x e = ap (ledger_by Begun c f) e
rule-ledger Omitted c f h h' x e = ap (ledger_by Omitted c f) e

-- where no v is owed
pub rest-v : {E : Type 0} (q : Preamble E) (st : Stage) (c : ℕ) → (st ≡ Begun → ⊥) → v_of q st c ≡ []
rest-v q Closed c never = refl
rest-v q Fresh c never = refl
rest-v q Begun c never = absurd (never refl)
rest-v q Omitted c never = refl

pub nothing-pushed : (p : List ℕ) (h : Held) → h ≡ pushed h (decoded_items p [] [])
nothing-pushed p h = sym (ap (λ (x : List Item). pushed h x) (chunks-none taken (meant p) []) ∙ rw (append-nil h.items))

some_is : (a b : OpenRow) → Some a ≡ Some b → a ≡ b
some_is a b e = cc

-- what is owed of v, in the ledger's words
pub v-items : {E : Type 0} (q : Preamble E) (st : Stage) (c f : ℕ) (h : Held) (x : OpenRow) → c < length (columns_in q.columns.now) → begun_in st ≡ true → hand_by st c f h ≡ Some x → decoded_items q.text.now (v_of q st c) [] ≡ v_owed (templates_of q) x
v-items q Closed c f h x lt b e = let z : ◌≡◌ {A = Bool} true false = sym b in cc
v-items q Fresh c f h x lt b e = let z : ◌≡◌ {A = Bool} true false = sym b in cc
v-items q Begun c f h x lt b e =
    let t : (template_at (templates_of q) c).v ≡ decoded_items q.text.now (v_pieces q (column_at (columns_in q.columns.now) c)) [] = ap (λ (y : Template). y.v) (template_is q c lt) in
    let d = some_is (record { column = c; begun = true; omitted = false; first = f; done = h.done; items = h.items }) x e in
    sym t ∙ ap (λ (y : OpenRow). v_owed (templates_of q) y) d
v-items q Omitted c f h x lt b e =
    let d = some_is (record { column = c; begun = true; omitted = true; first = f; done = h.done; items = h.items }) x e in
    chunks-none taken (meant q.text.now) [] ∙ ap (λ (y : OpenRow). v_owed (templates_of q) y) d

pub begun-at : (st : Stage) (c f d : ℕ) (h : Held) → begun_at d (hand_by st c f h) ≡ cond (begun_in st) (eqb c d) false
begun-at Closed c f d h = refl
begun-at Fresh c f d h = refl
begun-at Begun c f d h = refl
begun-at Omitted c f d h = refl

pub fresh_at_lem : (st : Stage) (c f d : ℕ) (h : Held) → fresh_at d (hand_by st c f h) ≡ cond (fresh_in st) (eqb c d) false
fresh_at_lem Closed c f d h = refl
fresh_at_lem Fresh c f d h = refl
fresh_at_lem Begun c f d h = refl
fresh_at_lem Omitted c f d h = refl

-- a row that is begun, as a record
unfoldable pub hand_in : Stage → ℕ → ℕ → Held → OpenRow
hand_in st c f h = record { column = c; begun = begun_in st; omitted = omitted_in st; first = f; done = h.done; items = h.items }

pub hand-is : (st : Stage) (c f : ℕ) (h : Held) → open_in st ≡ true → hand_by st c f h ≡ Some (hand_in st c f h)
unfolding hand_in
hand-is Closed c f h o = let z : ◌≡◌ {A = Bool} true false = sym o in cc
hand-is Fresh c f h o = refl
hand-is Begun c f h o = refl
hand-is Omitted c f h o = refl

pub begun-open : (st : Stage) → begun_in st ≡ true → open_in st ≡ true
begun-open Closed b = let z : ◌≡◌ {A = Bool} true false = sym b in cc
begun-open Fresh b = refl
begun-open Begun b = refl
begun-open Omitted b = refl

module _ {E : Type 0} (q : Preamble E) (st : Stage) (c f : ℕ) (h : Held) (lt : c < length (columns_in q.columns.now)) (b : begun_in st ≡ true) where
  v-is : decoded_items q.text.now (v_of q st c) [] ≡ v_owed (templates_of q) (hand_in st c f h)
  v-is = v-items q st c f h (hand_in st c f h) lt b (hand-is st c f h (begun-open st b))

  pub lay_ledger : (c' f' : ℕ) (h' : Held) → h' ≡ laid_down (closed (pushed h (decoded_items q.text.now (v_of q st c) [])) f c)
      → ledger_by Closed c' f' h' ≡ on_open (lays (templates_of q) (ledger_by st c f h)) (ledger_by st c f h) (hand_by st c f h)
  unfolding hand_in
  lay_ledger c' f' h' e =
      ap (ledger_by Closed c' f') e ∙ ap (λ (x : List Item). ledger_by Closed c' f' (laid_down (closed (pushed h x) f c))) v-is
      ∙ sym (ap (on_open (lays (templates_of q) (ledger_by st c f h)) (ledger_by st c f h)) (hand-is st c f h (begun-open st b)))

  pub tab_ledger : (h' : Held) → h' ≡ closed (pushed h (decoded_items q.text.now (v_of q st c) [])) f c
      → ledger_by Fresh (c + 1) (c + 1) h' ≡ on_open (tabs (templates_of q) (ledger_by st c f h)) (ledger_by st c f h) (hand_by st c f h)
  unfolding hand_in
  tab_ledger h' e =
      ap (ledger_by Fresh (c + 1) (c + 1)) e ∙ ap (λ (x : List Item). ledger_by Fresh (c + 1) (c + 1) (closed (pushed h x) f c)) v-is
      ∙ sym (ap (on_open (tabs (templates_of q) (ledger_by st c f h)) (ledger_by st c f h)) (hand-is st c f h (begun-open st b)))

  pub carry-ledger : (h' : Held) → h' ≡ pushed h (decoded_items q.text.now (v_of q st c) [])
      → ledger_by Fresh (c + 1) f h' ≡ on_open (carries (templates_of q) (ledger_by st c f h)) (ledger_by st c f h) (hand_by st c f h)
  unfolding hand_in
  carry-ledger h' e =
      ap (ledger_by Fresh (c + 1) f) e ∙ ap (λ (x : List Item). ledger_by Fresh (c + 1) f (pushed h x)) v-is
      ∙ sym (ap (on_open (carries (templates_of q) (ledger_by st c f h)) (ledger_by st c f h)) (hand-is st c f h (begun-open st b)))

pub begun-one : (st : Stage) → begun_in st ≡ true → one st ≡ 1
begun-one Closed b = let z : ◌≡◌ {A = Bool} true false = sym b in cc
begun-one Fresh b = refl
begun-one Begun b = refl
begun-one Omitted b = refl

pub closed_same : (h k : Held) (a b c d : ℕ) → h ≡ k → a ≡ b → c ≡ d → closed h a c ≡ closed k b d
closed_same h k a b c d e f g = rw (e, f, g)

pub both : (a b : Bool) → true ≡ cond a b false → a ≡ true
both true b e = refl
both false b e = cc

pub v-owed : {E : Type 0} (q : Preamble E) (st : Stage) (c : ℕ) → begun_in st ≡ true → ((column_at (columns_in q.columns.now) c).from + ((column_at (columns_in q.columns.now) c).u + (column_at (columns_in q.columns.now) c).v)) ≤ length q.pieces.now
    → length (v_of q st c) ≡ owed st (column_at (columns_in q.columns.now) c)
v-owed q Closed c b k = refl
v-owed q Fresh c b k = let z : ◌≡◌ {A = Bool} true false = sym b in cc
v-owed q Begun c b k = length-piece q.pieces.now ((column_at (columns_in q.columns.now) c).from + (column_at (columns_in q.columns.now) c).u) (column_at (columns_in q.columns.now) c).v (omega arith)
v-owed q Omitted c b k = refl
