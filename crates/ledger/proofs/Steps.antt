-- What holds of every ledger is kept by each step whose verdict refuses nothing.
use Rattle.std.proofs.Common.{◌≡◌, ℕ, ◌+◌, Bool, true, false, cond, not, nat_le, List, [], ◌∷◌, ◌++◌, length, ℤ, ◌+ℤ◌, Some, None, Option, Result, sym, refl, ap, ◌∙◌, subst, arith}
use Rattle.std.proofs.lemmas.Int.{ints}
use Rattle.extent.specs.Sizes.{Within}
use Rattle.ledger.specs.declared.records.Room.{Room}
use Rattle.ledger.specs.Refusals.{foreign_cell, table_full, out_of_range, entry_wide, columns_over}
use Rattle.ledger.specs.Ledger.{Item, row, rule, gap, OpenRow, Ledger}
use Rattle.ledger.specs.Calls.{Template, template_at, when, lacking, used_items, used_entries, used_lines, used_text, bytes_in, fresh_at, begun_at, on_open, v_owed, finished, opened, omits, starts, puts, tabs, carries, lays, is_open, gap_fits, ruled_by, gap_verdict, omit_verdict, span_verdict}
use Rattle.ledger.specs.Naturals.{natural, beyond, owed_of, items_now, item_fault, add_verdict, put_verdict, start_verdict}
use Rattle.ledger.specs.Lawful.{fine, FineTemplates, FineSized, Lawful}
use Rattle.ledger.proofs.Beyonds.{natural-append, natural-one, natural-none}
use Rattle.ledger.proofs.Fines.{all-append, all-one}
use Rattle.ledger.proofs.Steadies.{Few, few-u, steady-more}
use Rattle.ledger.proofs.Lawfuls.{Hand, lines-of, hand-of, lawful-by, sure-none, hand-none, hand-fresh, lines-more, lawful-ruled, hand-wide, steady-finished, fine-finished, sure-finished}
use Rattle.ledger.proofs.Accepted.{OfCell, passes, passes-when, passes-unless, faultless-fine, not-beyond, fresh-unbegun, fresh-column, begun-is}

module _ {X : Type 0} (meaning : List ℕ → Result X ℕ) (count : ℕ) (wide : Item → ℕ → ℤ) (P : List Template) (sized : FineSized meaning count wide) (fits : FineTemplates meaning P) where
  abbrev pub Law : Ledger → Type 0
  Law g = Lawful meaning count wide P g

  abbrev HandLaw : Option OpenRow → Type 0
  HandLaw o = Hand meaning count wide P o

  -- the ledger with another row in hand
  with-hand : (g : Ledger) (o : Option OpenRow) → Law g → HandLaw o → Law (record { lines = g.lines; hand = o })
  with-hand g o l h = lawful-by meaning count wide P g.lines o (lines-of meaning count wide P g l) h

  -- a step on the row in hand, if there is one
  on-hand : (f : OpenRow → Ledger) (g : Ledger) (o : Option OpenRow) → Law g → HandLaw o → ((h : OpenRow) → o ≡ Some h → HandLaw (Some h) → Law (f h)) → Law (on_open f g o)
  on-hand f g None l a step = l
  on-hand f g (Some h) l a step = step h refl a

  pub lawful-opened : (g : Ledger) → Law g → Law (opened g)
  lawful-opened g l = with-hand g _ l (hand-fresh meaning count wide P 0 0 [] (sure-none meaning count wide P))

  -- nothing is owed of v before a cell is begun, and then v or nothing
  unbegun-owed : (h : OpenRow) → h.begun ≡ false → owed_of P (Some h) ≡ []
  unbegun-owed h e = ap (λ (b : Bool). cond b (v_owed P h) []) e

  begun-owed : (h : OpenRow) → h.begun ≡ true → owed_of P (Some h) ≡ v_owed P h
  begun-owed h e = ap (λ (b : Bool). cond b (v_owed P h) []) e

  pub lawful-omits : (c : ℕ) (g : Ledger) → omit_verdict g c ≡ None → Law g → Law (on_open (omits g) g g.hand)
  lawful-omits c g v l = on-hand (omits g) g g.hand l (hand-of meaning count wide P g l) (λ h is a.
      with-hand g _ l (record {
        sure = a.sure;
        fine = a.fine;
        steady = a.steady;
        near = λ k lt. subst (λ (vs : List Item). Within 1073741823 (natural wide h.items k +ℤ natural wide vs k)) (unbegun-owed h (fresh-unbegun c h (subst (λ (o : Option OpenRow). fresh_at c o ≡ true) is (passes-unless (fresh_at c g.hand) foreign_cell [] v).0))) (a.near k lt);
      }))

  -- begun with u
  pub lawful-starts : (c : ℕ) (g : Ledger) → start_verdict count wide P g c ≡ None → Law g → Law (on_open (starts P g) g g.hand)
  lawful-starts c g v l = on-hand (starts P g) g g.hand l (hand-of meaning count wide P g l) (λ h is a.
      let f = λ (k : ℕ). (natural wide (items_now g.hand) k +ℤ natural wide (template_at P c).u k) +ℤ natural wide (template_at P c).v k in
      let tests = passes-unless (fresh_at c g.hand) foreign_cell (when (beyond count f) entry_wide ∷ []) v in
      let e : fresh_at c (Some h) ≡ true = subst (λ (o : Option OpenRow). fresh_at c o ≡ true) is tests.0 in
      let t = template_at P h.column in
      let n = (passes-when (beyond count f) entry_wide [] tests.1).0 in
      with-hand g _ l (record {
        sure = a.sure;
        fine = all-append (fine meaning) h.items t.u a.fine (few-u meaning P fits h.column).fine;
        steady = steady-more meaning count wide sized h.items t.u a.steady (hand-wide meaning count wide P sized fits (Some h) a) (few-u meaning P fits h.column);
        near = λ k lt.
            let is-now : (natural wide h.items k +ℤ natural wide t.u k) +ℤ natural wide t.v k ≡ f k =
            ap (λ (d : ℕ). (natural wide h.items k +ℤ natural wide (template_at P d).u k) +ℤ natural wide (template_at P d).v k) (fresh-column c h e)
            ∙ sym (ap (λ (o : Option OpenRow). (natural wide (items_now o) k +ℤ natural wide (template_at P c).u k) +ℤ natural wide (template_at P c).v k) is) in
            subst (Within 1073741823) (sym (ap (λ (z : ℤ). z +ℤ natural wide t.v k) (natural-append wide h.items t.u k) ∙ is-now)) (not-beyond count k f lt n);
      }))

  -- one more item
  pub lawful-adds : (a : Item) (r : Room) (g : Ledger) → fine meaning a ≡ true → add_verdict count wide P r g a ≡ None → Law g → Law (on_open (puts a g) g g.hand)
  lawful-adds i r g good v l = on-hand (puts i g) g g.hand l (hand-of meaning count wide P g l) (λ h is a.
      let f = λ (k : ℕ). (natural wide (items_now g.hand) k +ℤ wide i k) +ℤ natural wide (owed_of P g.hand) k in
      let n = (passes-when (beyond count f) entry_wide (when (lacking r (used_items P g + 1) (used_entries g) (used_lines g) (used_text g + bytes_in i)) table_full ∷ []) v).0 in
      let one : Few meaning (i ∷ []) = record { fine = all-one (fine meaning) i good; few = omega arith } in
      with-hand g _ l (record {
        sure = a.sure;
        fine = all-append (fine meaning) h.items (i ∷ []) a.fine one.fine;
        steady = steady-more meaning count wide sized h.items (i ∷ []) a.steady (hand-wide meaning count wide P sized fits (Some h) a) one;
        near = λ k lt.
            let sum : natural wide (h.items ++ i ∷ []) k ≡ natural wide h.items k +ℤ wide i k = natural-append wide h.items (i ∷ []) k ∙ ap (λ (z : ℤ). natural wide h.items k +ℤ z) (natural-one wide i k) in
            let is-now : (natural wide h.items k +ℤ wide i k) +ℤ natural wide (owed_of P (Some h)) k ≡ f k =
            sym (ap (λ (o : Option OpenRow). (natural wide (items_now o) k +ℤ wide i k) +ℤ natural wide (owed_of P o) k) is) in
            subst (Within 1073741823) (sym (ap (λ (z : ℤ). z +ℤ natural wide (owed_of P (Some h)) k) sum ∙ is-now)) (not-beyond count k f lt n);
      }))

  pub lawful-puts : (a : Item) (r : Room) (c : ℕ) (g : Ledger) → OfCell a → put_verdict count wide meaning P r g c a ≡ None → Law g → Law (on_open (puts a g) g g.hand)
  lawful-puts i r c g own v l =
      let tests = passes-unless (begun_at c g.hand) foreign_cell (item_fault meaning i ∷ add_verdict count wide P r g i ∷ []) v in
      let rest = passes (item_fault meaning i) (add_verdict count wide P r g i ∷ []) tests.1 in
      lawful-adds i r g (faultless-fine meaning i own rest.0) (passes (add_verdict count wide P r g i) [] rest.1).0 l

  -- the entry in hand ends, and the next begins
  pub lawful-tabs : (g : Ledger) → Law g → Law (on_open (tabs P g) g g.hand)
  lawful-tabs g l = on-hand (tabs P g) g g.hand l (hand-of meaning count wide P g l) (λ h is a.
      with-hand g _ l (hand-fresh meaning count wide P _ _ _ (sure-finished meaning count wide P sized fits h a)))

  -- .. or goes on
  pub lawful-carries : (r : Room) (c : ℕ) (g : Ledger) → span_verdict P r g c ≡ None → Law g → Law (on_open (carries P g) g g.hand)
  lawful-carries r c g v l = on-hand (carries P g) g g.hand l (hand-of meaning count wide P g l) (λ h is a.
      let b : h.begun ≡ true = begun-is c h (subst (λ (o : Option OpenRow). begun_at c o ≡ true) is (passes-unless (begun_at c g.hand) foreign_cell (when (nat_le (length P) (c + 1)) columns_over ∷ when (lacking r (used_items P g + (length (template_at P (c + 1)).u + length (template_at P (c + 1)).v)) (used_entries g + 0) (used_lines g) (used_text g)) table_full ∷ []) v).0) in
      with-hand g _ l (record {
        sure = a.sure;
        fine = fine-finished meaning count wide P sized fits h a;
        steady = steady-finished meaning count wide P sized fits h a;
        near = λ k lt.
            let w : Within 1073741823 (natural wide h.items k +ℤ natural wide (v_owed P h) k) = subst (λ (vs : List Item). Within 1073741823 (natural wide h.items k +ℤ natural wide vs k)) (begun-owed h b) (a.near k lt) in
            let sum = natural-append wide h.items (v_owed P h) k in
            let none = natural-none wide k in
            (omega (arith, ints, w.0, w.1), omega (arith, ints, w.0, w.1));
      }))

  -- .. or ends the row
  pub lawful-lays : (g : Ledger) → Law g → Law (on_open (lays P g) g g.hand)
  lawful-lays g l = on-hand (lays P g) g g.hand l (hand-of meaning count wide P g l) (λ h is a.
      let es = h.done ++ finished P h ∷ [] in
      lawful-by meaning count wide P (g.lines ++ row es ∷ []) None
      (lines-more meaning count wide P g.lines (row es) (lines-of meaning count wide P g l) refl (sure-finished meaning count wide P sized fits h a)) (hand-none meaning count wide P))

  -- one more line that is no row
  pub lawful-rule : (g : Ledger) → Law g → Law (ruled_by rule g)
  lawful-rule g l = lawful-ruled meaning count wide P rule g refl refl l

  pub lawful-gap : (r : Room) (z : ℤ) (g : Ledger) → gap_verdict P r g z ≡ None → Law g → Law (ruled_by (gap z) g)
  lawful-gap r z g v l =
      let full = when (lacking r (used_items P g) (used_entries g) (used_lines g + 1) (used_text g)) table_full in
      let rest = passes-when (is_open g.hand) foreign_cell (when (not (gap_fits z)) out_of_range ∷ full ∷ []) v in
      lawful-ruled meaning count wide P (gap z) g (passes-unless (gap_fits z) out_of_range (full ∷ []) rest.1).0 refl l
