-- Items drawn one behind the other: what is left behind the first of them. Assumes nothing.
use Rattle.std.proofs.Common.{◌≡◌, ℕ, ◌+◌, ◌<◌, ◌≤◌, true, List, [], ◌∷◌, ◌++◌, length, get_or, drop, ◌+ℤ◌, Result, sym, refl, ap, subst, ◌∙◌, arith}
use Rattle.std.proofs.lemmas.List.{drop-drop, drop_more, drop_all, length-drop, length-take-le}
use Rattle.boxlist.specs.declared.BoxRecord.{BoxRecord}
use Rattle.ledger.specs.declared.records.ItemRecord.{ItemRecord}
use Rattle.ledger.specs.declared.records.ItemRecord.TheVariants.{Space, CellWord, TemplateWord, Kern, Hfil}
use Rattle.ledger.specs.Chunks.{chunks, total}
use Rattle.ledger.specs.Items.{taken, decoded_items}
use Rattle.ledger.specs.Ledger.{Item}
use Rattle.ledger.specs.Calls.{bytes_in}
use Rattle.ledger.specs.Lawful.{fine, all_fine}
use Rattle.packer.specs.declared.source.Source.{Source}
use Rattle.packer.specs.declared.pen.Pen.{Pen}
use Rattle.packer.specs.Looks.{Look, fill_in}
use Rattle.packer.specs.Boxes.{Spot, Fills, box_of, shifted, item_boxes}
use Rattle.packer.specs.Walks.{filled}
use Rattle.packer.specs.Views.{item_in, items_from, HasRoom, Drawn}
use Rattle.packer.proofs.Fine.{fine-parts}
use Rattle.packer.proofs.Pens.{room-first, room-behind, drawn-append, drawn-none}

-- what is left is drawn as it would be, and completes the boxes bs of all
pub record Left {X E Y : Type 0} (src : Source X E) (meaning : List ℕ → Result Y ℕ) (look : Look) (f : Fills) (o : Pen) (bs : List BoxRecord) (is : List ItemRecord) (passed : ℕ) (s : Spot) (l : Pen) : Type 0 where
  pub counted : passed + total filled is ≡ f.count
  pub text : s.place + total taken is ≤ length src.lines.now
  pub known : all_fine meaning (items_from src is s.place) ≡ true
  pub room : HasRoom l (item_boxes look f passed s (items_from src is s.place))
  pub whole : (new : Pen) → Drawn l new (item_boxes look f passed s (items_from src is s.place)) → Drawn o new bs

module _ {X E : Type 0} (src : Source X E) where
  pub items-more : (a : ItemRecord) (rest : List ItemRecord) (p : ℕ) → items_from src (a ∷ rest) p ≡ item_in src a p ∷ items_from src rest (p + taken a)
  unfolding chunks
  items-more a rest p = ap (λ (t : List ℕ). item_in src a p ∷ decoded_items src.preamble.now rest t) (drop-drop (taken a) p src.lines.now)

  bytes-taken : (a : ItemRecord) (p : ℕ) → p + taken a ≤ length src.lines.now → bytes_in (item_in src a p) ≡ taken a
  bytes-taken Space p h = refl
  bytes-taken (CellWord n) p h = length-take-le n (drop p src.lines.now) (simp length-drop (omega arith))
  bytes-taken (TemplateWord a n) p h = refl
  bytes-taken (Kern z) p h = refl
  bytes-taken Hfil p h = refl

  fill-filled : (a : ItemRecord) (p : ℕ) → fill_in (item_in src a p) ≡ filled a
  fill-filled Space p = refl
  fill-filled (CellWord n) p = refl
  fill-filled (TemplateWord a n) p = refl
  fill-filled (Kern z) p = refl
  fill-filled Hfil p = refl

  pub fills-filled : (is : List ItemRecord) (p : ℕ) → total fill_in (items_from src is p) ≡ total filled is
  unfolding total chunks
  fills-filled [] p = refl
  fills-filled (a ∷ rest) p =
      ap (total fill_in) (items-more a rest p) ∙ (λ i. fill-filled a p i + fills-filled rest (p + taken a) i)

pub filled-few : (is : List ItemRecord) → total filled is ≤ length is
unfolding total
filled-few [] = omega arith
filled-few (a ∷ rest) = let h = filled-few rest in let one = at-most a in omega arith
  where
    at-most : (a : ItemRecord) → filled a ≤ 1
    at-most Space = omega arith
    at-most (CellWord n) = omega arith
    at-most (TemplateWord a n) = omega arith
    at-most (Kern z) = omega arith
    at-most Hfil = omega arith

-- totals of what is left behind i items
module _ (size : ItemRecord → ℕ) (is : List ItemRecord) (i : ℕ) where
  pub total-more : i < length is → total size (drop i is) ≡ size (get_or is i Space) + total size (drop (i + 1) is)
  unfolding total
  total-more lt = ap (total size) (drop_more is i Space lt)

  pub total-done : length is ≤ i → total size (drop i is) ≡ 0
  unfolding total
  total-done h = ap (total size) (drop_all i is h)

-- the first of what is left behind i items, and its box
module _ {X E Y : Type 0} {src : Source X E} {meaning : List ℕ → Result Y ℕ} {look : Look} {f : Fills} {o : Pen} {bs : List BoxRecord} {passed : ℕ} {s : Spot} {l : Pen} (is : List ItemRecord) (i : ℕ) (lt : i < length is) (left : Left src meaning look f o bs (drop i is) passed s l) where
  abbrev a : ItemRecord
  a = get_or is i Space

  abbrev rest : List ItemRecord
  rest = drop (i + 1) is

  abbrev left-item : Item
  left-item = item_in src a s.place

  abbrev left-spot : Spot
  left-spot = record { x = s.x +ℤ look.wide left-item; y = s.y; place = s.place + taken a }

  split : Left src meaning look f o bs (a ∷ rest) passed s l
  split = subst (λ (js : List ItemRecord). Left src meaning look f o bs js passed s l) (drop_more is i Space lt) left

  known-parts : (fine meaning left-item ≡ true) × (all_fine meaning (items_from src rest (s.place + taken a)) ≡ true)
  known-parts =
      fine-parts meaning left-item (items_from src rest (s.place + taken a)) (subst (λ (js : List Item). all_fine meaning js ≡ true) (items-more src a rest s.place) split.known)

  pub left-known : fine meaning left-item ≡ true
  left-known = known-parts.0

  boxes-more : item_boxes look f passed s (items_from src (a ∷ rest) s.place) ≡ box_of look (shifted f passed s) left-item ++ item_boxes look f (passed + filled a) left-spot (items_from src rest (s.place + taken a))
  unfolding item_boxes
  boxes-more =
      ap (item_boxes look f passed s) (items-more src a rest s.place)
      ∙ (λ j. box_of look (shifted f passed s) left-item ++ item_boxes look f (passed + fill-filled src a s.place j) (record { x = s.x +ℤ look.wide left-item; y = s.y; place = s.place + bytes-taken src a s.place (omega (arith, left.text, total-more taken is i lt)) j }) (items_from src rest (s.place + taken a)))

  room-both : HasRoom l (box_of look (shifted f passed s) left-item ++ item_boxes look f (passed + filled a) left-spot (items_from src rest (s.place + taken a)))
  room-both = subst (HasRoom l) boxes-more split.room

  pub left-room : (t : Spot) → t ≡ shifted f passed s → HasRoom l (box_of look t left-item)
  left-room t e = subst (λ (r : Spot). HasRoom l (box_of look r left-item)) (sym e) (room-first l l _ _ room-both)

  more : (b : Pen) → Drawn l b (box_of look (shifted f passed s) left-item) → Left src meaning look f o bs rest (passed + filled a) left-spot b
  more b drawn = record {
    counted = omega (arith, left.counted, total-more filled is i lt);
    text = omega (arith, left.text, total-more taken is i lt);
    known = known-parts.1;
    room = room-behind l b _ _ room-both drawn;
    whole = λ new behind. split.whole new (subst (Drawn l new) (sym boxes-more) (drawn-append l b _ _ room-both drawn new behind));
  }

  pub left-more : (b : Pen) (t u : Spot) (n : ℕ) → t ≡ shifted f passed s → Drawn l b (box_of look t left-item) → n ≡ passed + filled a → u ≡ left-spot → Left src meaning look f o bs rest n u b
  left-more b t u n e drawn m v =
      let d = subst (λ (r : Spot). Drawn l b (box_of look r left-item)) e drawn in
      subst (λ (k : ℕ). Left src meaning look f o bs rest k u b) (sym m)
      (subst (λ (r : Spot). Left src meaning look f o bs rest (passed + filled a) r b) (sym v) (more b d))

-- nothing is left
module _ {X E Y : Type 0} {src : Source X E} {meaning : List ℕ → Result Y ℕ} {look : Look} {f : Fills} {o : Pen} {bs : List BoxRecord} {passed : ℕ} {s : Spot} {l : Pen} where
  left-none : Left src meaning look f o bs [] passed s l → Drawn o l bs
  unfolding item_boxes chunks
  left-none left = left.whole l (drawn-none l)

  pub left-done : (is : List ItemRecord) (i : ℕ) → length is ≤ i → Left src meaning look f o bs (drop i is) passed s l → Drawn o l bs
  left-done is i h left = left-none (subst (λ (js : List ItemRecord). Left src meaning look f o bs js passed s l) (drop_all i is h) left)
