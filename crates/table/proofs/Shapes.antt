-- What was read, as a table holds it. Assumes nothing.
use Rattle.std.proofs.Common.{◌≡◌, ℕ, zero, suc, ◌+◌, ◌^◌, ◌<◌, ◌≤◌, min, List, [], ◌∷◌, map, length, get_or, take, ℤ, Some, Ok, Err, Option, Result, sym, refl, ap, ◌∙◌, subst, arith}
use Rattle.faults.specs.declared.Fault.{Fault}
use Rattle.lengths.specs.Gaps.{Parts}
use Rattle.ledger.specs.Calls.{Template, template_at}
use Rattle.ledger.specs.Preambles.{Preamble}
use Rattle.templates.specs.declared.memory.Templates.{Templates}
use Rattle.templates.specs.declared.memory.Read.{Read}
use Rattle.templates.specs.Readings.{templates_in, template_by, gaps_in, read_in, empty_with}
use Rattle.std.proofs.lemmas.List.{get_or-take, get_or-map, length-map, length-take-le}
use Rattle.extent.specs.Sizes.{Within}
use Rattle.ledger.specs.declared.records.ColumnRecord.{ColumnRecord}
use Rattle.ledger.specs.declared.records.Owed.{Owed}
use Rattle.ledger.specs.declared.records.ItemRecord.{ItemRecord}
use Rattle.ledger.specs.declared.records.Room.{Room}
use Rattle.ledger.specs.Chunks.{total}
use Rattle.ledger.specs.Items.{taken, template_in}
use Rattle.ledger.specs.Ledger.{Item}
use Rattle.ledger.specs.Naturals.{natural, fault_in}
use Rattle.rows.specs.declared.state.Memory.{Memory}
use Rattle.rows.specs.declared.state.State.{State}
use Rattle.rows.specs.declared.preamble.Preamble.{Preamble as Held}
use Rattle.rows.specs.Columns.{columns_in, widths_in, column_at}
use Rattle.rows.specs.Good.{templates_of, unused}
use Rattle.rows.specs.Sound.{Sound}
use Rattle.rows.proofs.News.{new-sound}
use Rattle.templates.specs.Kept.{Lies, Kept, KeptIn, Widths}
use Rattle.table.specs.Making.{Lying, Shaped, KeptFrom, with_start, templates_made, gaps_made, bytes_read, lines_kept, room_made}

-- a preamble that was read
pub read-shaped : {E : Type 0} (text : List ℕ) (t : Templates E) (d : Read) (s : Option Parts) (g : Parts) (R : Result Preamble Fault) → s ≡ Some g → Kept text g t d → read_in text t (Ok d) ≡ R
    → Shaped text t d (templates_made R) (gaps_made s R)
read-shaped text t d s g R e k is =
    subst (λ (r : Result Preamble Fault). Shaped text t d (templates_made r) (gaps_made s r)) is
    (record {
      lying = record { some = k.some; few = k.few; room = k.room; inside = k.inside; columns = k.columns; bare = k.bare; long-columns = k.long-columns; long-pieces = k.long-pieces };
      templates = refl;
      gaps = ap (λ (p : Parts). p ∷ gaps_in d.columns t) k.first ∙ sym (ap (λ (o : Option Parts). with_start o (gaps_in d.columns t)) e);
    })

pub kept_from : {E : Type 0} (text : List ℕ) (s : Option Parts) (g : Parts) (t : Templates E) (r : Result Read Fault) → s ≡ Some g → KeptIn text g t r → KeptFrom text s t r
kept_from text s g t (Ok d) e k = (g, e, k)
kept_from text s g t (Err f) e k = tt

-- what holds of each column in the memory, in the words of a preamble
lies-all : {E : Type 0} (p : ℕ) (cs : List (ColumnRecord E)) → ((c : ℕ) (e : ColumnRecord E) → c < length cs → Lies p (get_or cs c e).template) → (c : ℕ) → c < length (columns_in cs) → Lies p (column_at (columns_in cs) c)
lies-all p [] h c lt = absurd (omega arith)
lies-all p (x ∷ xs) h zero lt = h 0 x (omega arith)
lies-all p (x ∷ xs) h (suc c) lt = lies-all p xs (λ i e l. h (suc i) e (omega arith)) c (omega arith)

few-all : {E : Type 0} (p : ℕ) (cs : List (ColumnRecord E)) → ((c : ℕ) (e : ColumnRecord E) → c < length cs → Lies p (get_or cs c e).template) → (c : ℕ) → ((column_at (columns_in cs) c).u ≤ 64) × ((column_at (columns_in cs) c).v ≤ 64)
few-all p [] h c = (omega arith, omega arith)
few-all p (x ∷ xs) h zero = let l = h 0 x (omega arith) in (l.few-u, l.few-v)
few-all p (x ∷ xs) h (suc c) = few-all p xs (λ i e l. h (suc i) e (omega arith)) c

-- what always holds of a preamble's slices
pub record Ready {E : Type 0} (cs : List (ColumnRecord E)) (ps : List ItemRecord) : Type 0 where
  pub some : 1 ≤ length (columns_in cs)
  pub counted : length (columns_in cs) < 2 ^ 64
  pub bare : total taken ps ≡ 0
  pub parts : (c : ℕ) → c < length (columns_in cs) → (column_at (columns_in cs) c).from + ((column_at (columns_in cs) c).u + (column_at (columns_in cs) c).v) ≤ length ps
  pub few : (c : ℕ) → ((column_at (columns_in cs) c).u ≤ 64) × ((column_at (columns_in cs) c).v ≤ 64)

pub ready : {E : Type 0} (text : List ℕ) (t : Templates E) (d : Read) → Lying text t d → Ready (take d.columns t.columns) (take d.pieces t.pieces)
ready {E} text t d ly =
    let cs = take d.columns t.columns in
    let lc : length (columns_in cs) ≡ d.columns = length-map cs (λ (x : ColumnRecord E). x.template) ∙ length-take-le d.columns t.columns ly.long-columns in
    let lp : length (take d.pieces t.pieces) ≡ d.pieces = length-take-le d.pieces t.pieces ly.long-pieces in
    let lies : (c : ℕ) (e : ColumnRecord E) → c < length cs → Lies d.pieces (get_or cs c e).template = λ c e lt. let less : c < d.columns = let l = length-take-le d.columns t.columns ly.long-columns in omega arith in subst (λ (x : ColumnRecord E). Lies d.pieces x.template) (sym (get_or-take d.columns t.columns c e less)) (ly.columns c e less) in
    let some = ly.some in
    record {
      some = omega arith;
      counted = let most = ly.few in omega arith;
      bare = ly.bare;
      parts = λ c lt. let l = (lies-all d.pieces cs lies c lt).within in omega arith;
      few = few-all d.pieces cs lies;
    }

templates-by : {E : Type 0} (p : List ℕ) (ps : List ItemRecord) (cs : List (ColumnRecord E)) → map (template_in p ps) (columns_in cs) ≡ map (template_by p ps) cs
templates-by p ps [] = refl
templates-by p ps (c ∷ cs) = ap (λ (ts : List Template). template_in p ps c.template ∷ ts) (templates-by p ps cs)

-- the facts that a table of these slices starts with
module _ {E : Type 0} (text : List ℕ) (t : Templates E) (d : Read) (ts : List Template) (gs : List Parts) (sh : Shaped text t d ts gs) (q : Held E)
    (es : q.start ≡ t.start) (ec : q.columns.now ≡ take d.columns t.columns) (ep : q.pieces.now ≡ take d.pieces t.pieces) (et : q.text.now ≡ take d.bytes text)
    (lc : length q.columns.now ≡ d.columns) where
  pub templates-are : templates_of q ≡ templates_in (take d.bytes text) d.pieces d.columns t
  templates-are =
      templates-by q.text.now q.pieces.now q.columns.now
      ∙ ap (map (template_by q.text.now q.pieces.now)) ec
      ∙ ap (λ (xs : List ItemRecord). map (template_by q.text.now xs) (take d.columns t.columns)) ep
      ∙ ap (λ (b : List ℕ). map (template_by b (take d.pieces t.pieces)) (take d.columns t.columns)) et

  widths-at : (c : ℕ) (e : ColumnRecord E) (o : Owed E) → c < d.columns → get_or (widths_in q.columns.now) c o ≡ (get_or t.columns c e).widths
  widths-at c e o lt = get_or-map (λ (x : ColumnRecord E). x.widths) q.columns.now c e o (omega arith) ∙ ap (λ (xs : List (ColumnRecord E)). (get_or xs c e).widths) ec ∙ ap (λ (x : ColumnRecord E). x.widths) (get_or-take d.columns t.columns c e lt)

  pub starts-sound : (m : Memory E) (z : E) (s : State E) → s ≡ unused z → (count : ℕ) (num : E → ℕ → ℤ) (wide : Item → ℕ → ℤ) → Widths count num wide text t d → Sound count num wide q s m
  starts-sound m z s is count num wide w =
      let back = sym templates-are in
      let long : length (columns_in q.columns.now) ≡ d.columns = length-map q.columns.now (λ (x : ColumnRecord E). x.template) ∙ lc in
      subst (λ (x : State E). Sound count num wide q x m) (sym is)
      (new-sound q m z count num wide
      (λ c k o kc lt. let less : c < d.columns = omega arith in let e = empty_with 0 o t.start in
      ap (λ (x : Owed E). num x.u k) (widths-at c e o less) ∙ w.us c k e kc less ∙ ap (λ (xs : List Template). natural wide (template_at xs c).u k) back)
      (λ c k o kc lt. let less : c < d.columns = omega arith in let e = empty_with 0 o t.start in
      ap (λ (x : Owed E). num x.v k) (widths-at c e o less) ∙ w.vs c k e kc less ∙ ap (λ (xs : List Template). natural wide (template_at xs c).v k) back)
      (λ c k kc. subst (λ (xs : List Template). Within 68719476736 (natural wide (template_at xs c).u k)) back (w.small_u c k kc))
      (λ c k kc. subst (λ (xs : List Template). Within 68719476736 (natural wide (template_at xs c).v k)) back (w.small_v c k kc)))

-- the lines that are kept give the room
pub room-made : (R : Result Preamble Fault) (made : Result ℕ Fault) (i e n t : ℕ) → made ≡ bytes_read R
    → ◌≡◌ {A = Room} (record { items = i; entries = e; lines = min 1024 (lines_kept made n); text = t }) (room_made R (record { items = i; entries = e; lines = min 1024 n; text = t }))
room-made (Ok p) made i e n t h = ap (λ (x : Result ℕ Fault). record { items = i; entries = e; lines = min 1024 (lines_kept x n); text = t }) h
room-made (Err f) made i e n t h = ap (λ (x : Result ℕ Fault). record { items = i; entries = e; lines = min 1024 (lines_kept x n); text = t }) h

-- what make says of the bytes is refused as the preamble is
pub fault-made : (R : Result Preamble Fault) (made : Result ℕ Fault) → made ≡ bytes_read R → fault_in made ≡ fault_in R
fault-made (Ok p) made h = ap fault_in h
fault-made (Err f) made h = ap fault_in h
