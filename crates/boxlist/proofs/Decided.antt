-- The test of a list is right: it passes exactly the lists that may be written. Assumes nothing.
use Rattle.std.proofs.Common.{◌≡◌, ℕ, ◌^◌, ◌≤◌, true, ◌&&◌, leb, ◌⊎◌, List, length, ℤ, pos, negsuc, Decides, refl, inl, inr, ⊎_elim, arith}
use Rattle.std.specs.List.{AllByRecursion}
use Rattle.std.proofs.lemmas.Int.{ints}
use Rattle.std.proofs.lemmas.Bool.{false≢true, leb-true, le-leb}
use Rattle.std.proofs.lemmas.Bool.Decides.{Decides-and, Decides-like, Decides-ltb}
use Rattle.std.proofs.ByRecursion.{Decides-by_and}
use Rattle.boxlist.specs.declared.Kind.{Kind}
use Rattle.boxlist.specs.declared.Kind.TheVariants as kinds
use Rattle.boxlist.specs.declared.Store.{Store}
use Rattle.boxlist.specs.declared.Store.TheVariants as stores
use Rattle.boxlist.specs.declared.BoxRecord.{BoxRecord}
use Rattle.boxlist.specs.Writing.{sized, counted, listed_store, good_frame, good_part, good_kind, good_box, good_boxes, good_head, writable}
use Rattle.boxlist.specs.Lists.{Sized, Counted, WritablePart, WritableBox, Writable}

decides_leb : (a b : ℕ) → Decides (leb a b) (a ≤ b)
decides_leb a b = (leb-true a b, le-leb a b)

decides_sized : (z : ℤ) → Decides (sized z) (Sized z)
decides_sized (pos n) = decides_leb n (2 ^ 40)
decides_sized (negsuc n) = Decides-ltb n (2 ^ 40)

decides_counted : (z : ℤ) → Decides (counted z) (Counted z)
decides_counted (pos n) = (λ e. (leb-true n (2 ^ 40) e, omega (arith, ints)), λ p. le-leb n (2 ^ 40) p.0)
decides_counted (negsuc n) = (λ e. absurd (false≢true e), λ p. absurd (omega (arith, ints, p.1)))

abbrev ListedStore : Store → Type 0
ListedStore s = (s ≡ stores.Preamble) ⊎ (s ≡ stores.Lines)

decides_store : (s : Store) → Decides (listed_store s) (ListedStore s)
decides_store stores.Preamble = (λ _. inl refl, λ _. refl)
decides_store stores.Lines = (λ _. inr refl, λ _. refl)
decides_store (stores.Unlisted n) = (
  λ e. absurd (false≢true e),
  λ p.
      ⊎_elim
      (λ e. absurd (cc))
      (λ e. absurd (cc))
      p,
)

decides_part : (r : BoxRecord) → Decides (good_part r) (WritablePart r)
decides_part r =
    Decides-like (good_part r)
    (λ p. record { listed = p.0; begins = p.1.0; long = p.1.1 })
    (λ w. (w.listed, (w.begins, w.long)))
    (Decides-and (listed_store r.store) (counted r.place && counted r.len) (decides_store r.store)
    (Decides-and (counted r.place) (counted r.len) (decides_counted r.place) (decides_counted r.len)))

abbrev Framed : BoxRecord → Type 0
Framed r = Sized r.x × (Counted r.y × (Sized r.width × (Counted r.height × Counted r.depth)))

decides_frame : (r : BoxRecord) → Decides (good_frame r) (Framed r)
decides_frame r =
    Decides-and (sized r.x) (counted r.y && (sized r.width && (counted r.height && counted r.depth))) (decides_sized r.x)
    (Decides-and (counted r.y) (sized r.width && (counted r.height && counted r.depth)) (decides_counted r.y)
    (Decides-and (sized r.width) (counted r.height && counted r.depth) (decides_sized r.width)
    (Decides-and (counted r.height) (counted r.depth) (decides_counted r.height) (decides_counted r.depth))))

framed : (r : BoxRecord) → WritableBox r → Framed r
framed r w = (w.across, (w.down, (w.wide, (w.above, w.below))))

decides_kind : (k : Kind) (r : BoxRecord) → r.kind ≡ k → Decides (good_kind k (good_frame r) (good_part r)) (WritableBox r)
decides_kind kinds.Word r k =
    Decides-like (good_frame r && good_part r)
    (λ p. record { listed = inl k; across = p.0.0; down = p.0.1.0; wide = p.0.1.1.0; above = p.0.1.1.1.0; below = p.0.1.1.1.1; part = λ _. p.1 })
    (λ w. (framed r w, w.part k))
    (Decides-and (good_frame r) (good_part r) (decides_frame r) (decides_part r))
decides_kind kinds.Rule r k =
    Decides-like (good_frame r)
    (λ p. record { listed = inr k; across = p.0; down = p.1.0; wide = p.1.1.0; above = p.1.1.1.0; below = p.1.1.1.1; part = λ e. absurd (cc) })
    (framed r)
    (decides_frame r)
decides_kind (kinds.Unlisted n) r k = (
  λ e. absurd (false≢true e),
  λ w.
      ⊎_elim
      (λ e. absurd (cc))
      (λ e. absurd (cc))
      w.listed,
)

pub decides_box : (r : BoxRecord) → Decides (good_box r) (WritableBox r)
unfolding good_box
decides_box r = decides_kind r.kind r refl

decides_boxes : (boxes : List BoxRecord) → Decides (good_boxes boxes) (AllByRecursion WritableBox boxes)
decides_boxes boxes = Decides-by_and good_box WritableBox good_boxes decides_box refl (λ _ _. refl) boxes

pub writable-decided : (t h : ℤ) (boxes : List BoxRecord) → Decides (writable t h boxes) (Writable t h boxes)
unfolding writable
writable-decided t h boxes =
    Decides-like (good_head t h (length boxes) && good_boxes boxes)
    (λ p. record { wide = p.0.0; high = p.0.1.0; few = p.0.1.1; each = p.1 })
    (λ w. ((w.wide, (w.high, w.few)), w.each))
    (Decides-and (good_head t h (length boxes)) (good_boxes boxes)
    (Decides-and (counted t) (counted h && leb (length boxes) (2 ^ 40)) (decides_counted t)
    (Decides-and (counted h) (leb (length boxes) (2 ^ 40)) (decides_counted h) (decides_leb (length boxes) (2 ^ 40))))
    (decides_boxes boxes))

-- a list that is written has at most 2^40 boxes
pub writable-count : (t h : ℤ) (boxes : List BoxRecord) → writable t h boxes ≡ true → length boxes ≤ 2 ^ 40
writable-count t h boxes e = ((writable-decided t h boxes).0 e).few
