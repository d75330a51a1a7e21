-- Boxes of an entry that may be written. Assumes nothing.
use Rattle.std.proofs.Common.{◌≡◌, ℕ, suc, ◌+◌, ◌^◌, ◌≤◌, ◌⊎◌, List, [], ◌∷◌, length, take, ℤ, pos, negsuc, ◌+ℤ◌, ◌≤ℤ◌, refl, inl, inr, arith}
use Rattle.std.specs.List.{AllByRecursion}
use Rattle.std.proofs.ByRecursion.{All-append}
use Rattle.std.proofs.lemmas.Int.{ints}
use Rattle.extent.specs.Sizes.{Within}
use Rattle.boxlist.specs.declared.Store.{Store}
use Rattle.boxlist.specs.declared.Store.TheVariants as stores
use Rattle.boxlist.specs.Lists.{Sized, Counted, WritableBox}
use Rattle.sharing.specs.Rule.{portion}
use Rattle.sharing.proofs.Rules.{portion-le}
use Rattle.measure.specs.Ranges.{Upto}
use Rattle.ledger.specs.Chunks.{total}
use Rattle.ledger.specs.Ledger.{Item, cell_word, template_word, space, kern, hfil, Entry}
use Rattle.ledger.specs.Calls.{bytes_in}
use Rattle.packer.specs.Looks.{Look, fill_in}
use Rattle.packer.specs.Boxes.{Columns, Spot, Fills, word_box, box_of, shifted, behind, item_boxes, wide_in, fills_of, start_of, entry_boxes, entry_bytes}
use Rattle.packer.specs.Writes.{ItemSized, EntrySized, EndsLow}

pub sized-by : (n : ℕ) (z : ℤ) → n ≤ 2 ^ 40 → Within n z → Sized z
sized-by n (pos k) le w = omega (arith, ints, w.1)
sized-by n (negsuc k) le w = omega (arith, ints, w.0)

pub counted-by : (n : ℕ) (z : ℤ) → n ≤ 2 ^ 40 → pos 0 ≤ℤ z → z ≤ℤ pos n → Counted z
counted-by n (pos k) le a b = (omega (arith, ints), a)
counted-by n (negsuc k) le a b = absurd (omega (arith, ints))

low-counted : (z : ℤ) → Upto 16777215 z → Counted z
low-counted z h = counted-by 16777215 z (omega arith) h.0 h.1

-- before items: where they stand, and that they end in their ranges
record Before (l : Look) (f : Fills) (p : ℕ) (s : Spot) (is : List Item) : Type 0 where
  surplus : f.surplus ≤ 2 ^ 38
  passed : p + total fill_in is ≤ f.count
  across : (j : ℕ) → Within (2 ^ 39) (s.x +ℤ wide_in l (take j is))
  down : Counted s.y
  text : s.place + total bytes_in is ≤ 2 ^ 40
  items : AllByRecursion (ItemSized l) is
  ends : AllByRecursion EndsLow is

module _ (l : Look) where
  word-writable : (a : Item) (x y : ℤ) (s : Store) (p n : ℕ) → (s ≡ stores.Preamble) ⊎ (s ≡ stores.Lines) → Sized x → Counted y → p + n ≤ 2 ^ 40 → ItemSized l a → WritableBox (word_box l a x y s p n)
  word-writable a x y s p n listed across down le h = record {
    listed = inl refl;
    across = across;
    down = down;
    wide = sized-by 1073741823 (l.wide a) (omega arith) h.wide;
    above = low-counted (l.high a) h.high;
    below = low-counted (l.deep a) h.deep;
    part = λ e. record { listed = listed; begins = (omega (arith, ints), omega (arith, ints)); long = (omega (arith, ints), omega (arith, ints)) };
  }

  box-writable : (s : Spot) (a : Item) → Sized s.x → Counted s.y → s.place + bytes_in a ≤ 2 ^ 40 → ItemSized l a → EndsLow a → AllByRecursion WritableBox (box_of l s a)
  box-writable s (cell_word w) across down le h e = (word-writable (cell_word w) s.x s.y stores.Lines s.place (length w) (inr refl) across down le h, tt)
  box-writable s (template_word a w) across down le h e = (word-writable (template_word a w) s.x s.y stores.Preamble a (length w) (inl refl) across down e h, tt)
  box-writable s space across down le h e = tt
  box-writable s (kern z) across down le h e = tt
  box-writable s hfil across down le h e = tt

  before-more : (f : Fills) (p : ℕ) (s : Spot) (a : Item) (rest : List Item) → Before l f p s (a ∷ rest) → Before l f (p + fill_in a) (behind l a s) rest
  unfolding total wide_in
  before-more f p s a rest b = record {
    surplus = b.surplus;
    passed = omega (arith, b.passed);
    across = λ j. let w = b.across (suc j) in (omega (arith, ints, w.0), omega (arith, ints, w.1));
    down = b.down;
    text = omega (arith, b.text);
    items = b.items.1;
    ends = b.ends.1;
  }

  first-across : (f : Fills) (p : ℕ) (s : Spot) (a : Item) (rest : List Item) → Before l f p s (a ∷ rest) → Sized (shifted f p s).x
  unfolding total wide_in
  first-across f p s a rest b =
      let w = b.across 0 in
      let grown : portion f.surplus p f.count ≤ f.surplus = portion-le f.surplus p f.count (omega (arith, b.passed)) in
      sized-by (2 ^ 39 + 2 ^ 38) (s.x +ℤ pos (portion f.surplus p f.count)) (omega arith) (omega (arith, ints, w.0), omega (arith, ints, w.1, b.surplus))

  items-writable : (f : Fills) (p : ℕ) (s : Spot) (is : List Item) → Before l f p s is → AllByRecursion WritableBox (item_boxes l f p s is)
  unfolding item_boxes total
  items-writable f p s [] b = tt
  items-writable f p s (a ∷ rest) b =
      All-append WritableBox (box_of l (shifted f p s) a) (item_boxes l f (p + fill_in a) (behind l a s) rest)
      (box-writable (shifted f p s) a (first-across f p s a rest b) b.down (omega (arith, b.text)) b.items.0 b.ends.0)
      (items-writable f (p + fill_in a) (behind l a s) rest (before-more f p s a rest b))

  pub entry-writable : (c : Columns) (y : ℤ) (t : ℕ) (e : Entry) → EntrySized l c e → Counted y → t + entry_bytes e ≤ 2 ^ 40 → AllByRecursion (ItemSized l) e.items → AllByRecursion EndsLow e.items → AllByRecursion WritableBox (entry_boxes l c y t e)
  entry-writable c y t e h down text items ends = items-writable (fills_of l c e) 0 (start_of c y t e) e.items (record {
    surplus = h.shares;
    passed = omega arith;
    across = λ j. let w = h.near j in let v = h.starts in (omega (arith, ints, w.0, v.0), omega (arith, ints, w.1, v.1));
    down = down;
    text = text;
    items = items;
    ends = ends;
  })
