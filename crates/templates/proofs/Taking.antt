-- One more item of the template in hand. Assumes nothing.
use Rattle.std.proofs.Common.{◌≡◌, ℕ, ◌+◌, ◌<◌, ◌≤◌, Bool, true, false, List, [], ◌∷◌, ◌++◌, map, length, take, drop, set, ℤ, ◌+ℤ◌, sym, ap, ◌∙◌, subst, arith, le-ltb, lt-ltb, Ok, Continue, cond, refl, Err}
use borrow.Author.Tests.{both_ways}
use Rattle.std.proofs.lemmas.Int.{ints}
use Rattle.std.proofs.lemmas.List.{take-set-le, length-set}
use Rattle.std.specs.List.{AllByRecursion}
use Rattle.faults.specs.declared.Cause.TheVariants as cause
use Rattle.faults.specs.declared.Fault.{Fault}
use Rattle.faults.specs.Faults.{fault_at}
use Rattle.lengths.specs.Gaps.{Parts}
use Rattle.extent.specs.Sizes.{Near}
use Rattle.ledger.specs.declared.records.ItemRecord.{ItemRecord}
use Rattle.ledger.specs.declared.records.ColumnRecord.{ColumnRecord}
use Rattle.ledger.specs.declared.records.Owed.{Owed}
use Rattle.ledger.specs.Ledger.{Item}
use Rattle.ledger.specs.Calls.{Template}
use Rattle.ledger.specs.Items.{taken, meant, decoded_items}
use Rattle.ledger.specs.Naturals.{natural}
use Rattle.ledger.specs.Preambles.{Reading, goes_on, refuses, taking}
use Rattle.ledger.proofs.Beyonds.{natural-append, natural-one}
use Rattle.templates.specs.declared.memory.Templates.{Templates}
use Rattle.templates.specs.declared.memory.Hand.{Hand}
use Rattle.templates.specs.declared.memory.Piece.{Piece}
use Rattle.templates.specs.Kept.{Adds, Fine, Fits, Holds, Sound, Suits, Turns, u_natural, v_natural}
use Rattle.templates.specs.Readings.{template_by, gap_by, part_of, templates_in, written, reading_of, with_piece, longer_u, longer_v, more}
use Rattle.templates.proofs.Fills.{part-more, part_stays, decoded_push, length_part, fine-taken, fine-part, fine-push, part-near}

-- the reading with one more item
abbrev pub one_u : Reading → Item → ℕ → Reading
one_u r i end = record { place = end; templates = r.templates; gaps = r.gaps; u = r.u ++ i ∷ []; v = r.v; marked = r.marked; gap = r.gap }

abbrev pub one_v : Reading → Item → ℕ → Reading
one_v r i end = record { place = end; templates = r.templates; gaps = r.gaps; u = r.u; v = r.v ++ i ∷ []; marked = r.marked; gap = r.gap }

pub taking-u : (r : Reading) (i : Item) (at end : ℕ) → r.marked ≡ false → length r.u < 64 → taking r i at end ≡ goes_on (one_u r i end)
taking-u r i at end m lt = let b = lt-ltb (length r.u) 64 lt in rw (m, b)

pub taking-v : (r : Reading) (i : Item) (at end : ℕ) → r.marked ≡ true → length r.v < 64 → taking r i at end ≡ goes_on (one_v r i end)
taking-v r i at end m lt = let b = lt-ltb (length r.v) 64 lt in rw (m, b)

pub full_u : (r : Reading) (i : Item) (at end : ℕ) → r.marked ≡ false → 64 ≤ length r.u → taking r i at end ≡ refuses (fault_at cause.Full at)
full_u r i at end m le = let b = le-ltb (length r.u) 64 le in rw (m, b)

pub full_v : (r : Reading) (i : Item) (at end : ℕ) → r.marked ≡ true → 64 ≤ length r.v → taking r i at end ≡ refuses (fault_at cause.Full at)
full_v r i at end m le = let b = le-ltb (length r.v) 64 le in rw (m, b)

module _ {E : Type 0} (text : List ℕ) (h : Hand E) (t : Templates E) (fits : Fits h t) where
  pub length-u : length (reading_of text h t).u ≡ h.column.template.u
  length-u = length_part text h.column.template.from h.column.template.u t.pieces (omega arith)

  pub length-v : length (reading_of text h t).v ≡ h.column.template.v
  length-v = length_part text (h.column.template.from + h.column.template.u) h.column.template.v t.pieces (omega arith)

  -- one more item behind a part that ends where the next item is written
  grows : (from n : ℕ) (x : ItemRecord) → taken x ≡ 0 → from + n ≡ written h → written h < length t.pieces
      → part_of text from (n + 1) (set t.pieces (written h) x) ≡ part_of text from n t.pieces ++ meant text x [] ∷ []
  grows from n x none e room =
      ap (λ (i : ℕ). part_of text from (n + 1) (set t.pieces i x)) (sym e)
      ∙ ap (λ (xs : List ItemRecord). decoded_items text xs []) (part-more t.pieces from n x (omega arith)) ∙ decoded_push text (take n (drop from t.pieces)) x none

  -- the hand with parts of other lengths
  abbrev parted_by : ℕ → ℕ → Owed E → ℕ → Hand E
  parted_by u v w end = more h end (record { template = record { from = h.column.template.from; u = u; v = v }; widths = w; gap = h.column.gap })

  templates-stay : (x : ItemRecord) → templates_in text h.column.template.from h.columns (with_piece t (written h) x) ≡ templates_in text h.column.template.from h.columns t
  templates-stay x = ap (λ (ps : List ItemRecord). map (template_by text ps) (take h.columns t.columns)) (take-set-le h.column.template.from t.pieces (written h) x (omega arith))

  reads : (u v : ℕ) (w : Owed E) (end : ℕ) (x : ItemRecord) (us vs : List Item)
      → part_of text h.column.template.from u (set t.pieces (written h) x) ≡ us → part_of text (h.column.template.from + u) v (set t.pieces (written h) x) ≡ vs
      → reading_of text (parted_by u v w end) (with_piece t (written h) x)
      ≡ record { place = end; templates = (reading_of text h t).templates; gaps = (reading_of text h t).gaps; u = us; v = vs; marked = h.marked; gap = gap_by h.column }
  reads u v w end x us vs a b = rw (templates-stay x, a, b)

  -- what is held stays where the templates do
  holds-stay : (count : ℕ) (num : E → ℕ → ℤ) (wide : Item → ℕ → ℤ) (start : Parts) (b e i : ℕ) (x : ItemRecord) (ts : List Template) → e ≤ length text → ts ≡ templates_in text h.column.template.from h.columns t
      → Holds count num wide text start h.columns b t (templates_in text h.column.template.from h.columns t) → Holds count num wide text start h.columns e (with_piece t i x) ts
  holds-stay count num wide start b e i x ts le same o = record {
    first = o.first;
    us = λ k lt. o.us k lt ∙ ap (map (u_natural wide k)) (sym same);
    vs = λ k lt. o.vs k lt ∙ ap (map (v_natural wide k)) (sym same);
    inside = le;
  }

module _ {E : Type 0} (count : ℕ) (num : E → ℕ → ℤ) (wide : Item → ℕ → ℤ) (text : List ℕ) (h : Hand E) (t : Templates E) (p : Piece E)
    (fits : Fits h t) (suits : Suits count num wide text h.place p) where
  -- the sum is the width of one more
  sum_is : (e : E) (from n k : ℕ) → k < count → n ≤ 64 → AllByRecursion (Fine text h.place) (take n (drop from t.pieces)) → num e k ≡ natural wide (part_of text from n t.pieces) k
      → (w : E) → Adds count num e p.width w
      → num w k ≡ natural wide (part_of text from n t.pieces ++ meant text p.item [] ∷ []) k
  sum_is e from n k lt few fine same w sum =
      let near = part-near count wide text h.place k suits.sized lt n (drop from t.pieces) few fine in
      let one = suits.sized p.item p.end k suits.fine lt in
      let is = suits.width k lt in
      let a : Near (num e k) = rw same (omega (arith, ints, near.0), omega (arith, ints, near.1)) in
      let b : Near (num p.width k) = rw is (omega (arith, ints, one.0), omega (arith, ints, one.1)) in
      sum k lt a b
      ∙ ap (λ (z : ℤ). z +ℤ num p.width k) same ∙ ap (λ (z : ℤ). natural wide (part_of text from n t.pieces) k +ℤ z) (is ∙ sym (natural-one wide (meant text p.item []) k))
      ∙ sym (natural-append wide (part_of text from n t.pieces) (meant text p.item [] ∷ []) k)

  -- an item that makes the parts these
  grown-turns : (u v : ℕ) (w : Owed E) (us vs : List Item) → written h < length t.pieces → u + v ≡ h.column.template.u + h.column.template.v + 1 → u ≤ 64 → v ≤ 64 → (h.marked ≡ false → v ≡ 0)
      → part_of text h.column.template.from u (set t.pieces (written h) p.item) ≡ us → part_of text (h.column.template.from + u) v (set t.pieces (written h) p.item) ≡ vs
      → taking (reading_of text h t) (meant text p.item []) p.last p.end
      ≡ goes_on (record { place = p.end; templates = (reading_of text h t).templates; gaps = (reading_of text h t).gaps; u = us; v = vs; marked = h.marked; gap = gap_by h.column })
      → ((start : Parts) → Sound count num wide text start h t → (k : ℕ) → k < count → (num w.u k ≡ natural wide us k) × (num w.v k ≡ natural wide vs k))
      → Turns count num wide text h t (taking (reading_of text h t) (meant text p.item []) p.last p.end) (with_piece t (written h) p.item) (Ok (Continue (parted_by text h t fits u v w p.end)))
  grown-turns u v w us vs room one few-u few-v bare a b taken widths =
      let e = reads text h t fits u v w p.end p.item us vs a b in
      let on = suits.onward in
      record {
        is = ap goes_on e ∙ sym taken;
        keeps = λ start s. (
          suits.onward,
          record {
            fits = record { columns = fits.columns; lies = fits.lies; pieces = simp length-set (omega arith); few = fits.few; below = fits.below; few-u = few-u; few-v = few-v; bare = bare };
            holds = holds-stay text h t fits count num wide start h.place p.end (written h) p.item _ suits.inside (ap (λ (r : Reading). r.templates) e) s.holds;
            pieces = fine-push text h.place p.end (written h) (h.column.template.from + (u + v)) t.pieces p.item room (omega arith) (omega arith) s.pieces suits.fine;
            wide-u = λ k kc. (widths start s k kc).0 ∙ ap (λ (r : Reading). natural wide r.u k) (sym e);
            wide-v = λ k kc. (widths start s k kc).1 ∙ ap (λ (r : Reading). natural wide r.v k) (sym e);
          },
        );
      }

  pub u-turns : h.marked ≡ false → h.column.template.u < 64 → written h < length t.pieces → (w : E) → Adds count num h.column.widths.u p.width w
      → Turns count num wide text h t (taking (reading_of text h t) (meant text p.item []) p.last p.end) (with_piece t (written h) p.item) (Ok (Continue (more h p.end (longer_u h w))))
  u-turns m lt room w sum =
      let c = h.column.template in
      let z = fits.bare m in
      let len = length-u text h t fits in
      let none = fine-taken text p.end p.item suits.fine in
      grown-turns (c.u + 1) c.v (record { u = w; v = h.column.widths.v }) _ _ room (omega arith) (omega arith) fits.few-v fits.bare
      (grows text h t fits c.from c.u p.item none (omega arith) room)
      (ap (λ (n : ℕ). part_of text (c.from + (c.u + 1)) n (set t.pieces (written h) p.item)) z ∙ sym (ap (λ (n : ℕ). part_of text (c.from + c.u) n t.pieces) z))
      (taking-u (reading_of text h t) (meant text p.item []) p.last p.end m (omega arith))
      (λ start s k kc. (sum_is h.column.widths.u c.from c.u k kc fits.few-u (fine-part text h.place c.from c.u (written h) t.pieces (omega arith) s.pieces) (s.wide-u k kc) w sum, s.wide-v k kc))

  pub v-turns : h.marked ≡ true → h.column.template.v < 64 → written h < length t.pieces → (w : E) → Adds count num h.column.widths.v p.width w
      → Turns count num wide text h t (taking (reading_of text h t) (meant text p.item []) p.last p.end) (with_piece t (written h) p.item) (Ok (Continue (more h p.end (longer_v h w))))
  v-turns m lt room w sum =
      let c = h.column.template in
      let len = length-v text h t fits in
      let none = fine-taken text p.end p.item suits.fine in
      grown-turns c.u (c.v + 1) (record { u = h.column.widths.u; v = w }) _ _ room (omega arith) fits.few-u (omega arith) (λ n. absurd (both_ways h.marked n m))
      (ap (λ (xs : List ItemRecord). decoded_items text xs []) (part_stays t.pieces c.from c.u (written h) p.item (omega arith)))
      (grows text h t fits (c.from + c.u) c.v p.item none (omega arith) room)
      (taking-v (reading_of text h t) (meant text p.item []) p.last p.end m (omega arith))
      (λ start s k kc. (s.wide-u k kc, sum_is h.column.widths.v (c.from + c.u) c.v k kc fits.few-v (fine-part text h.place (c.from + c.u) c.v (written h) t.pieces (omega arith) s.pieces) (s.wide-v k kc) w sum))

  -- a part that is full
  pub full-turns : 64 ≤ cond h.marked h.column.template.v h.column.template.u → (f : Fault) → f ≡ fault_at cause.Full p.last
      → Turns count num wide text h t (taking (reading_of text h t) (meant text p.item []) p.last p.end) t (Err f)
  full-turns le f e = by h.marked refl
    where
      by : (m : Bool) → h.marked ≡ m → Turns count num wide text h t (taking (reading_of text h t) (meant text p.item []) p.last p.end) t (Err f)
      by true m =
          let l = length-v text h t fits in
          let n : 64 ≤ h.column.template.v = subst (λ (b : Bool). 64 ≤ cond b h.column.template.v h.column.template.u) m le in
          record { is = ap refuses e ∙ sym (full_v (reading_of text h t) (meant text p.item []) p.last p.end m (omega arith)); keeps = λ start s. tt }
      by false m =
          let l = length-u text h t fits in
          let n : 64 ≤ h.column.template.u = subst (λ (b : Bool). 64 ≤ cond b h.column.template.v h.column.template.u) m le in
          record { is = ap refuses e ∙ sym (full_u (reading_of text h t) (meant text p.item []) p.last p.end m (omega arith)); keeps = λ start s. tt }

  -- one more item, of the part in hand
  pub item-turns : written h < length t.pieces → (c : ColumnRecord E)
      → (h.marked ≡ false → (h.column.template.u < 64) × (c ≡ longer_u h c.widths.u) × Adds count num h.column.widths.u p.width c.widths.u)
      → (h.marked ≡ true → (h.column.template.v < 64) × (c ≡ longer_v h c.widths.v) × Adds count num h.column.widths.v p.width c.widths.v)
      → Turns count num wide text h t (taking (reading_of text h t) (meant text p.item []) p.last p.end) (with_piece t (written h) p.item) (Ok (Continue (more h p.end c)))
  item-turns room c before behind = by h.marked refl
    where
      O : ColumnRecord E → Type 0
      O q = Turns count num wide text h t (taking (reading_of text h t) (meant text p.item []) p.last p.end) (with_piece t (written h) p.item) (Ok (Continue (more h p.end q)))

      by : (m : Bool) → h.marked ≡ m → O c
      by true m = let q = behind m in subst O (sym q.1) (v-turns m q.0 room c.widths.v q.2)
      by false m = let q = before m in subst O (sym q.1) (u-turns m q.0 room c.widths.u q.2)
