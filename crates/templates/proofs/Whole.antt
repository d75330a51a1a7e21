-- A preamble from its first token to its last. Assumes nothing.
use Rattle.std.proofs.Common.{◌≡◌, ℕ, zero, suc, ◌+◌, ◌-◌, ◌<◌, ◌≤◌, false, List, [], ◌∷◌, map, length, get_or, take, drop, ℤ, pos, Ok, Err, Result, sym, refl, ap, ◌∙◌, subst, ⊎_elim, arith, Continue, Break}
use Rattle.std.specs.List.{AllByRecursion}
use Rattle.std.proofs.lemmas.Int.{ints}
use Rattle.std.proofs.lemmas.List.{length-map, length-take-le, get_or-take, get_or-map, get_or_past}
use Rattle.std.proofs.ByRecursion.{All-get_or, All-weaker, All-map, All-take, All-drop}
use Rattle.std.proofs.lemmas.Bool.{cases_lt}
use Rattle.std.specs.declared.ops.ControlFlow.{ControlFlow}
use Rattle.faults.specs.declared.Fault.{Fault}
use Rattle.extent.specs.Sizes.{Within}
use Rattle.lengths.specs.declared.gap.Gap.{Gap}
use Rattle.lengths.specs.Gaps.{Parts, parts_of}
use Rattle.ledger.specs.declared.records.ItemRecord.{ItemRecord}
use Rattle.ledger.specs.declared.records.ColumnRecord.{ColumnRecord}
use Rattle.ledger.specs.declared.records.Owed.{Owed}
use Rattle.ledger.specs.Chunks.{chunks}
use Rattle.ledger.specs.Ledger.{Item}
use Rattle.ledger.specs.Calls.{Template, template_at}
use Rattle.ledger.specs.Naturals.{natural}
use Rattle.ledger.specs.Preambles.{Reading, Preamble, Outcome, goes_on, ends, refuses, onward, step, read_by, preamble_of}
use Rattle.ledger.proofs.Beyonds.{natural-none}
use Rattle.templates.specs.declared.memory.Templates.{Templates}
use Rattle.templates.specs.declared.memory.Hand.{Hand}
use Rattle.templates.specs.declared.memory.Read.{Read}
use Rattle.templates.specs.Kept.{Fine, LiesIn, Sized, Sound, Done, Turns, Kept, Widths, u_stored, v_stored, u_natural, v_natural}
use Rattle.templates.specs.Readings.{template_by, gap_by, empty_with, templates_in, gaps_in, reading_of, preamble_by, read_in, with_start}
use Rattle.templates.proofs.Fills.{fine-total, templates-cut, part-near}

-- nothing is read yet
abbrev pub begun : {E : Type 0} → Gap → Owed E → Hand E
begun g w = record { place = 0; columns = 0; marked = false; column = empty_with 0 w g }

abbrev pub unread : Parts → Reading
unread g = record { place = 0; templates = []; gaps = []; u = []; v = []; marked = false; gap = g }

pub begun-reading : {E : Type 0} (text : List ℕ) (g : Gap) (w : Owed E) (t : Templates E) → reading_of text (begun g w) t ≡ unread (parts_of g)
unfolding chunks
begun-reading text g w t = refl

pub begun-sound : {E : Type 0} (count : ℕ) (num : E → ℕ → ℤ) (wide : Item → ℕ → ℤ) (text : List ℕ) (g : Gap) (w : Owed E) (t : Templates E) → ((k : ℕ) → k < count → num w.u k ≡ pos 0) → ((k : ℕ) → k < count → num w.v k ≡ pos 0) → Sound count num wide text (parts_of g) (begun g w) (with_start t g)
unfolding chunks natural
begun-sound count num wide text g w t zu zv = record {
  fits = record { columns = omega arith; pieces = omega arith; few = omega arith; below = omega arith; few-u = omega arith; few-v = omega arith; bare = λ _. refl; lies = tt };
  holds = record { first = refl; us = λ k _. refl; vs = λ k _. refl; inside = omega arith };
  pieces = tt;
  wide-u = zu;
  wide-v = zv;
}

-- one token more
module _ {X : Type 0} (text : List ℕ) (meaning : List ℕ → Result X ℕ) (P : Result Preamble Fault) where
  pub read-on : (n : ℕ) (r q : Reading) → 0 < n → step text meaning r ≡ goes_on q → read_by text meaning n r ≡ P → read_by text meaning (n - 1) q ≡ P
  unfolding read_by
  read-on zero r q lt e h = absurd (omega arith)
  read-on (suc n) r q lt e h =
      let less : suc n - 1 ≡ n = omega arith in
      ap (λ (i : ℕ). read_by text meaning i q) less ∙ ap (λ (o : Outcome). onward o (read_by text meaning n)) (sym e) ∙ h

  pub read-ends : (n : ℕ) (r : Reading) (p : Preamble) → 0 < n → step text meaning r ≡ ends p → read_by text meaning n r ≡ P → Ok p ≡ P
  unfolding read_by
  read-ends zero r p lt e h = absurd (omega arith)
  read-ends (suc n) r p lt e h = ap (λ (o : Outcome). onward o (read_by text meaning n)) (sym e) ∙ h

  pub read-refuses : (n : ℕ) (r : Reading) (f : Fault) → 0 < n → step text meaning r ≡ refuses f → read_by text meaning n r ≡ P → Err f ≡ P
  unfolding read_by
  read-refuses zero r f lt e h = absurd (omega arith)
  read-refuses (suc n) r f lt e h = ap (λ (o : Outcome). onward o (read_by text meaning n)) (sym e) ∙ h

all_any : {X : Type 0} (P : X → Type 0) → ((x : X) → P x) → (xs : List X) → AllByRecursion P xs
all_any P f [] = tt
all_any P f (x ∷ xs) = (f x, all_any P f xs)

gap_within : (g : Gap) → Within 16777215 (parts_of g).natural
gap_within g = (omega (arith, ints, g.ok.0), omega (arith, ints, g.ok.1))

module _ {E : Type 0} (count : ℕ) (num : E → ℕ → ℤ) (wide : Item → ℕ → ℤ) (text : List ℕ) (start : Parts) (d : Read) (t : Templates E) (done : Done count num wide text start d t) where
  -- over the bytes that were read the templates are the same
  pub templates-read : templates_in (take d.bytes text) d.pieces d.columns t ≡ templates_in text d.pieces d.columns t
  templates-read = templates-cut text d.bytes d.pieces t.pieces (take d.columns t.columns) done.pieces

  pub preamble-read : preamble_by (take d.bytes text) t d ≡ preamble_by text t d
  preamble-read = ap (λ (ts : List Template). record { templates = ts; gaps = gaps_in d.columns t; bytes = d.bytes }) templates-read

  column-at : (c : ℕ) (e : ColumnRecord E) → c < d.columns → LiesIn d.pieces (get_or t.columns c e)
  column-at c e lt =
      let len = length-take-le d.columns t.columns done.columns in
      subst (LiesIn d.pieces) (get_or-take d.columns t.columns c e lt) (All-get_or (LiesIn d.pieces) (take d.columns t.columns) c e (omega arith) done.lies)

  piece-at : (i : ℕ) (e : ItemRecord) → i < d.pieces → Fine text d.bytes (get_or t.pieces i e)
  piece-at i e lt =
      let len = length-take-le d.pieces t.pieces done.enough in
      subst (Fine text d.bytes) (get_or-take d.pieces t.pieces i e lt) (All-get_or (Fine text d.bytes) (take d.pieces t.pieces) i e (omega arith) done.pieces)

  pub kept : Kept text start t d
  kept = record {
    some = done.some;
    few = done.few;
    room = done.room;
    inside = done.holds.inside;
    first = done.holds.first;
    columns = column-at;
    bare = fine-total text d.bytes (take d.pieces t.pieces) done.pieces;
    words = λ i a m e lt is. subst (Fine text d.bytes) is (piece-at i e lt);
    gaps = (gap_within t.start, All-map (λ (g : Parts). Within 16777215 g.natural) gap_by (take d.columns t.columns) (all_any (λ (x : ColumnRecord E). Within 16777215 (gap_by x).natural) (λ x. gap_within x.gap) (take d.columns t.columns)));
    long-columns = done.columns;
    long-pieces = done.enough;
  }

  -- an element of a list that two functions agree on
  stored_at : (f : ColumnRecord E → ℤ) (h : Template → ℤ) (ts : List Template) → map f (take d.columns t.columns) ≡ map h ts → length ts ≡ d.columns → (c : ℕ) (e : ColumnRecord E) → c < d.columns
      → f (get_or t.columns c e) ≡ h (template_at ts c)
  stored_at f h ts same long c e lt =
      let len = length-take-le d.columns t.columns done.columns in
      ap f (sym (get_or-take d.columns t.columns c e lt))
      ∙ sym (get_or-map f (take d.columns t.columns) c e (pos 0) (omega arith))
      ∙ ap (λ (zs : List ℤ). get_or zs c (pos 0)) same
      ∙ get_or-map h ts c (record { u = []; v = [] }) (pos 0) (omega arith)

  length-read : length (templates_in text d.pieces d.columns t) ≡ d.columns
  length-read = length-map (take d.columns t.columns) (template_by text (take d.pieces t.pieces)) ∙ length-take-le d.columns t.columns done.columns

  fine-in : (from m : ℕ) → AllByRecursion (Fine text d.bytes) (take m (drop from (take d.pieces t.pieces)))
  fine-in from m = All-take (Fine text d.bytes) m (drop from (take d.pieces t.pieces)) (All-drop (Fine text d.bytes) from (take d.pieces t.pieces) done.pieces)

  nothing : (k : ℕ) → Within 68719476736 (natural wide [] k)
  nothing k = let e = natural-none wide k in rw e (omega (arith, ints), omega (arith, ints))

  past : (c : ℕ) → d.columns ≤ c → template_at (templates_in text d.pieces d.columns t) c ≡ record { u = []; v = [] }
  past c le = get_or_past (templates_in text d.pieces d.columns t) c (record { u = []; v = [] }) (let l = length-read in omega arith)

  -- neither part of a template is wide
  abbrev Slim : ℕ → Template → Type 0
  Slim k x = Within 68719476736 (natural wide x.u k) × Within 68719476736 (natural wide x.v k)

  slim-column : Sized count wide text → (k : ℕ) → k < count → (x : ColumnRecord E) → LiesIn d.pieces x → Slim k (template_by text (take d.pieces t.pieces) x)
  slim-column sized k kc x l =
      let q = x.template in
      let ps = take d.pieces t.pieces in (
        part-near count wide text d.bytes k sized kc q.u (drop q.from ps) l.few-u (fine-in q.from q.u),
        part-near count wide text d.bytes k sized kc q.v (drop (q.from + q.u) ps) l.few-v (fine-in (q.from + q.u) q.v),
      )

  slim : Sized count wide text → (c k : ℕ) → k < count → Slim k (template_at (templates_in (take d.bytes text) d.pieces d.columns t) c)
  slim sized c k kc =
      let cs = take d.columns t.columns in
      let F = template_by text (take d.pieces t.pieces) in
      let all = All-map (Slim k) F cs (All-weaker (LiesIn d.pieces) (λ x. Slim k (F x)) (slim-column sized k kc) cs done.lies) in
      let len = length-read in
      subst (λ (ts : List Template). Slim k (template_at ts c)) (sym templates-read)
      (⊎_elim (λ lt. All-get_or (Slim k) (templates_in text d.pieces d.columns t) c (record { u = []; v = [] }) (omega arith) all)
      (λ le. subst (Slim k) (sym (past c le)) (nothing k, nothing k)) (cases_lt c d.columns))

  pub widths : Sized count wide text → Widths count num wide text t d
  widths sized = record {
    us = λ c k e kc lt. stored_at (u_stored num k) (u_natural wide k) (templates_in text d.pieces d.columns t) (done.holds.us k kc) length-read c e lt ∙ ap (λ (ts : List Template). natural wide (template_at ts c).u k) (sym templates-read);
    vs = λ c k e kc lt. stored_at (v_stored num k) (v_natural wide k) (templates_in text d.pieces d.columns t) (done.holds.vs k kc) length-read c e lt ∙ ap (λ (ts : List Template). natural wide (template_at ts c).v k) (sym templates-read);
    small_u = λ c k kc. (slim sized c k kc).0;
    small_v = λ c k kc. (slim sized c k kc).1;
  }

-- a reading on its way: with enough tokens left to take, it gives the preamble of the text
pub record Underway {E X : Type 0} (count : ℕ) (num : E → ℕ → ℤ) (wide : Item → ℕ → ℤ) (text : List ℕ) (meaning : List ℕ → Result X ℕ) (start : Parts) (h : Hand E) (t : Templates E) : Type 0 where
  pub tokens : ℕ
  pub enough : length text - h.place < tokens
  pub same : read_by text meaning tokens (reading_of text h t) ≡ preamble_of text meaning start
  pub sound : Sound count num wide text start h t

module _ {E X : Type 0} (count : ℕ) (num : E → ℕ → ℤ) (wide : Item → ℕ → ℤ) (text : List ℕ) (meaning : List ℕ → Result X ℕ) where
  pub begins : (g : Gap) (w : Owed E) (t : Templates E) → ((k : ℕ) → k < count → num w.u k ≡ pos 0) → ((k : ℕ) → k < count → num w.v k ≡ pos 0)
      → Underway count num wide text meaning (parts_of g) (begun g w) (with_start t g)
  begins g w t zu zv = record {
    tokens = suc (length text);
    enough = omega arith;
    same = ap (read_by text meaning (suc (length text))) (begun-reading text g w (with_start t g));
    sound = begun-sound count num wide text g w t zu zv;
  }

  module _ (start : Parts) (h : Hand E) (t t' : Templates E) (way : Underway count num wide text meaning start h t) where
    module _ (q : Hand E) (s : ControlFlow Read (Hand E)) (is : s ≡ Continue q) (turns : Turns count num wide text h t (step text meaning (reading_of text h t)) t' (Ok s)) where
      turn : Turns count num wide text h t (step text meaning (reading_of text h t)) t' (Ok (Continue q))
      turn = subst (λ (x : ControlFlow Read (Hand E)). Turns count num wide text h t (step text meaning (reading_of text h t)) t' (Ok x)) is turns

      on : (h.place < q.place) × Sound count num wide text start q t'
      on = turn.keeps start way.sound

      pub goes : Underway count num wide text meaning start q t'
      goes =
          let e = way.enough in
          let less = on.0 in
          let in' = on.1.holds.inside in
          record {
            tokens = way.tokens - 1;
            enough = omega arith;
            same = read-on text meaning (preamble_of text meaning start) way.tokens (reading_of text h t) (reading_of text q t') (omega arith) (sym turn.is) way.same;
            sound = on.1;
          }

      pub nearer : length text - q.place < length text - h.place
      nearer =
          let less = on.0 in
          let in' = on.1.holds.inside in
          omega arith

    module _ (d : Read) (s : ControlFlow Read (Hand E)) (is : s ≡ Break d) (turns : Turns count num wide text h t (step text meaning (reading_of text h t)) t' (Ok s)) where
      last : Turns count num wide text h t (step text meaning (reading_of text h t)) t' (Ok (Break d))
      last = subst (λ (x : ControlFlow Read (Hand E)). Turns count num wide text h t (step text meaning (reading_of text h t)) t' (Ok x)) is turns

      pub done-in : Done count num wide text start d t'
      done-in = last.keeps start way.sound

      pub ends-in : read_in text t' (Ok d) ≡ preamble_of text meaning start
      ends-in =
          let e = way.enough in
          ap Ok (preamble-read count num wide text start d t' done-in)
          ∙ read-ends text meaning (preamble_of text meaning start) way.tokens (reading_of text h t) (preamble_by text t' d) (omega arith) (sym last.is) way.same

    pub refuses-in : (f : Fault) → Turns count num wide text h t (step text meaning (reading_of text h t)) t' (Err f) → read_in text t' (Err f) ≡ preamble_of text meaning start
    refuses-in f turn =
        let e = way.enough in
        read-refuses text meaning (preamble_of text meaning start) way.tokens (reading_of text h t) f (omega arith) (sym turn.is) way.same
