-- How many lines, entries, items and bytes a ledger has, by the marks.
use Rattle.std.proofs.Common.{◌≡◌, ℕ, ◌+◌, ◌-◌, ◌≤◌, List, [], ◌∷◌, ◌++◌, length, take, drop, sym, refl, ap, ◌∙◌, append_assoc, arith}
use Rattle.std.specs.List.{flat_map}
use Rattle.std.proofs.lemmas.List.{length-append, length-take-le, length-take, length-drop, take_all, take-take, take-append-drop, drop-take, nil_from_length}
use Rattle.ledger.specs.declared.records.ItemRecord.{ItemRecord}
use Rattle.ledger.specs.declared.records.ItemRecord.TheVariants.{CellWord, TemplateWord, Space, Kern, Hfil}
use Rattle.rows.specs.declared.state.EntryRecord.{EntryRecord}
use Rattle.rows.specs.declared.state.LineRecord.{LineRecord}
use Rattle.rows.specs.declared.state.LineRecord.TheVariants.{Row, Rule, Gap}
use Rattle.rows.specs.declared.state.Marks.{Marks}
use Rattle.ledger.specs.Chunks.{chunks, total}
use Rattle.ledger.specs.Ledger.{Item, Entry}
use Rattle.ledger.specs.Calls.{entries_in, items_in, bytes_in}
use Rattle.rows.specs.Held.{part, counted, entry_of, decoded_entries, rowed, line_of, held_by, FitBy}
use Rattle.ledger.specs.Items.{taken, meant, decoded_items}
use Rattle.ledger.proofs.Cuts.{total-append, length-chunks}
use Rattle.rows.proofs.Overs.{length_part}

take-add : {X : Type 0} (a b : ℕ) (xs : List X) → take a xs ++ take b (drop a xs) ≡ take (a + b) xs
take-add {X} a b xs =
    ap (λ (y : List X). y ++ take b (drop a xs)) (sym (take-take a (a + b) xs (omega arith))) ∙ ap (λ (y : List X). take a (take (a + b) xs) ++ y) (sym (drop-take a b xs)) ∙ take-append-drop a (take (a + b) xs)

pub joined-append : {X A : Type 0} (f : X → List A) (xs ys : List X) → flat_map f (xs ++ ys) ≡ flat_map f xs ++ flat_map f ys
joined-append f [] ys = refl
joined-append {X} {A} f (x ∷ xs) ys = ap (λ (z : List A). f x ++ z) (joined-append f xs ys) ∙ sym (append_assoc (f x) (flat_map f xs) (flat_map f ys))

-- the pieces joined again
pub joined-cut : {R A B : Type 0} (size : R → ℕ) (f : R → List A → B) (g : B → List A) → ((r : R) (ys : List A) → length ys ≤ size r → g (f r ys) ≡ ys)
    → (rs : List R) (xs : List A) → flat_map g (chunks size f rs xs) ≡ take (total size rs) xs
unfolding chunks total
joined-cut size f g h [] xs = refl
joined-cut {R} {A} {B} size f g h (r ∷ rs) xs =
    let l : length (take (size r) xs) ≤ size r = simp length-take (omega arith) in
    ap (λ (z : List A). z ++ flat_map g (chunks size f rs (drop (size r) xs))) (h r (take (size r) xs) l)
    ∙ ap (λ (z : List A). take (size r) xs ++ z) (joined-cut size f g h rs (drop (size r) xs)) ∙ take-add (size r) (total size rs) xs

line-back : (r : LineRecord) (ys : List Entry) → length ys ≤ rowed r → entries_in (line_of r ys) ≡ ys
line-back (Row n) ys h = refl
line-back Rule ys h = sym (nil_from_length ys (omega arith))
line-back (Gap z) ys h = sym (nil_from_length ys (omega arith))

span-back : {E : Type 0} (e : EntryRecord E) (ys : List Item) → length ys ≤ counted e → items_in (entry_of e ys) ≡ ys
span-back e ys h = refl

kind-bytes : (p : List ℕ) (k : ItemRecord) (t : List ℕ) → taken k ≤ length t → bytes_in (meant p k (take (taken k) t)) ≡ taken k
kind-bytes p (CellWord n) t h = length-take-le n t h
kind-bytes p (TemplateWord a n) t h = refl
kind-bytes p Space t h = refl
kind-bytes p (Kern z) t h = refl
kind-bytes p Hfil t h = refl

pub item-sizes : (p : List ℕ) (is : List ItemRecord) (t : List ℕ) → total taken is ≤ length t → total bytes_in (decoded_items p is t) ≡ total taken is
unfolding chunks total
item-sizes p [] t h = refl
item-sizes p (i ∷ is) t h =
    let a : taken i ≤ length t = omega arith in
    let k : total taken is ≤ length (drop (taken i) t) = simp length-drop (omega arith) in
    let e = kind-bytes p i t a in
    let f = item-sizes p is (drop (taken i) t) k in
    cc

module _ {E : Type 0} (p : List ℕ) (n : ℕ) (k m : Marks) (b : ℕ) (ls : List LineRecord) (es : List (EntryRecord E)) (is : List ItemRecord) (t : List ℕ) (fit : FitBy n k m b ls es is t) where
  la : List Item
  la = decoded_items p (take k.items is) (take k.text t)

  oa : List Item
  oa = decoded_items p (part k.items m.items is) (part k.text m.text t)

  pub lines-count : length (held_by p n k m ls es is t).lines ≡ n
  lines-count = length-chunks rowed line_of (take n ls) _ ∙ length-take-le n ls fit.lines

  la-length : length la ≡ k.items
  unfolding la
  la-length = let h : k.items ≤ length is = omega arith in length-chunks taken (meant p) (take k.items is) (take k.text t) ∙ length-take-le k.items is h

  oa-length : length oa ≡ m.items - k.items
  unfolding oa
  oa-length = length-chunks taken (meant p) (part k.items m.items is) (part k.text m.text t) ∙ length_part is k.items m.items fit.items

  s0_length : length (decoded_entries (take k.entries es) la) ≡ k.entries
  s0_length = let h : k.entries ≤ length es = omega arith in length-chunks counted entry_of (take k.entries es) la ∙ length-take-le k.entries es h

  pub laid-spans : flat_map entries_in (held_by p n k m ls es is t).lines ≡ decoded_entries (take k.entries es) (decoded_items p (take k.items is) (take k.text t))
  unfolding la
  laid-spans =
      let s0 = decoded_entries (take k.entries es) la in
      let h : length s0 ≤ total rowed (take n ls) = let a = s0_length in omega arith in
      joined-cut rowed line_of entries_in line-back (take n ls) s0 ∙ take_all (total rowed (take n ls)) s0 h

  laid-atoms : flat_map items_in (decoded_entries (take k.entries es) la) ≡ la
  laid-atoms =
      let h : length la ≤ total counted (take k.entries es) = let a = la-length in omega arith in
      joined-cut counted entry_of items_in span-back (take k.entries es) la ∙ take_all (total counted (take k.entries es)) la h

  pub entries-count : length (flat_map entries_in (held_by p n k m ls es is t).lines ++ (held_by p n k m ls es is t).done) ≡ m.entries
  unfolding la oa
  entries-count =
      let a = s0_length in
      let c = length-chunks counted entry_of (part k.entries m.entries es) oa in
      let d = length_part es k.entries m.entries fit.entries in
      rw laid-spans (simp length-append (omega arith))

  all-atoms : flat_map items_in (flat_map entries_in (held_by p n k m ls es is t).lines ++ (held_by p n k m ls es is t).done) ++ (held_by p n k m ls es is t).items ≡ la ++ oa
  unfolding la oa
  all-atoms =
      let oe = part k.entries m.entries es in
      rw (laid-spans, joined-append items_in (decoded_entries (take k.entries es) la) (decoded_entries oe oa), laid-atoms, joined-cut counted entry_of items_in span-back oe oa)
      (append_assoc la (take (total counted oe) oa) (drop (total counted oe) oa) ∙ ap (λ (z : List Item). la ++ z) (take-append-drop (total counted oe) oa))

  pub items-count : length (flat_map items_in (flat_map entries_in (held_by p n k m ls es is t).lines ++ (held_by p n k m ls es is t).done) ++ (held_by p n k m ls es is t).items) ≡ m.items
  items-count = let a = la-length in let c = oa-length in let d = length-append la oa in rw all-atoms (omega arith)

  pub text-count : total bytes_in (flat_map items_in (flat_map entries_in (held_by p n k m ls es is t).lines ++ (held_by p n k m ls es is t).done) ++ (held_by p n k m ls es is t).items) ≡ m.text
  unfolding la oa
  text-count =
      let ht : k.text ≤ length t = omega arith in
      let l1 = length-take-le k.text t ht in
      let l2 = length_part t k.text m.text fit.text in
      let x1 : total taken (take k.items is) ≤ length (take k.text t) = omega arith in
      let x2 : total taken (part k.items m.items is) ≤ length (part k.text m.text t) = omega arith in
      let e1 = item-sizes p (take k.items is) (take k.text t) x1 in
      let e2 = item-sizes p (part k.items m.items is) (part k.text m.text t) x2 in
      let e3 = total-append bytes_in (λ (a : Item) (ys : List ℕ). a) la oa in
      rw all-atoms (omega arith)
