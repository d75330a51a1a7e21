-- The boxes of a table, one line after another. Assumes nothing.
use Rattle.std.proofs.Common.{◌≡◌, ℕ, ◌+◌, ◌≤◌, List, [], ◌∷◌, ◌++◌, length, take, drop, ℤ, pos, ◌+ℤ◌, sym, refl, ap, ◌∙◌, arith}
use Rattle.std.specs.List.{flat_map}
use Rattle.std.proofs.lemmas.List.{length-take, take_all, nil_from_length}
use Rattle.ledger.specs.Chunks.{chunks, total}
use Rattle.ledger.specs.Items.{taken, meant, decoded_items}
use Rattle.ledger.specs.Ledger.{Item, Entry, Line}
use Rattle.ledger.specs.Calls.{items_in, entries_in, bytes_in}
use Rattle.ledger.specs.declared.records.ItemRecord.{ItemRecord}
use Rattle.ledger.proofs.Cuts.{total-append, length-chunks}
use Rattle.rows.specs.declared.state.EntryRecord.{EntryRecord}
use Rattle.rows.specs.declared.state.LineRecord.{LineRecord}
use Rattle.rows.specs.declared.state.LineRecord.TheVariants.{Row, Rule, Gap}
use Rattle.rows.specs.Held.{counted, entry_of, rowed, line_of, decoded_entries, decoded_lines}
use Rattle.rows.proofs.Counts.{joined-cut}
use Rattle.packer.specs.Looks.{Look}
use Rattle.packer.specs.Boxes.{Columns, entry_bytes}
use Rattle.packer.specs.Lines.{line_size, line_bytes, line_boxes, table_boxes, total_height}
use Rattle.packer.proofs.Cuts.{chunks-take, chunks-drop, chunks-front, items-front, items-behind}
use Rattle.packer.proofs.Rows.{items-bytes}

-- the items of entries are those that their records take
pub row-items : {E : Type 0} (es : List (EntryRecord E)) (xs : List Item) → length xs ≤ total counted es → flat_map items_in (decoded_entries es xs) ≡ xs
row-items es xs h = joined-cut counted entry_of items_in (λ e ys le. refl) es xs ∙ take_all (total counted es) xs h

row-bytes : (es : List Entry) → total entry_bytes es ≡ total bytes_in (flat_map items_in es)
unfolding total
row-bytes [] = refl
row-bytes (e ∷ es) = ap (λ (n : ℕ). total bytes_in e.items + n) (row-bytes es) ∙ sym (total-append bytes_in (λ (a : Item) (ys : List ℕ). a) e.items (flat_map items_in es))

line-entries : (r : LineRecord) (ys : List Entry) → length ys ≤ rowed r → entries_in (line_of r ys) ≡ ys
line-entries (Row n) ys h = refl
line-entries Rule ys h = sym (nil_from_length ys (omega arith))
line-entries (Gap z) ys h = sym (nil_from_length ys (omega arith))

lines-first : (r : LineRecord) (rs : List LineRecord) (ys : List Entry) → decoded_lines (r ∷ rs) ys ≡ line_of r (take (rowed r) ys) ∷ decoded_lines rs (drop (rowed r) ys)
unfolding chunks
lines-first r rs ys = refl

table-first : (l : Look) (c : Columns) (w top : ℤ) (p : ℕ) (s : Line) (ss : List Line) → table_boxes l c w top p (s ∷ ss) ≡ line_boxes l c w top p s ++ table_boxes l c w (top +ℤ line_size l s) (p + line_bytes s) ss
unfolding table_boxes
table-first l c w top p s ss = refl

height-first : (l : Look) (s : Line) (ss : List Line) → total_height l (s ∷ ss) ≡ line_size l s +ℤ total_height l ss
unfolding total_height
height-first l s ss = refl

-- what a line takes, and what lies behind that
module _ {E : Type 0} (q t : List ℕ) (r : LineRecord) (rs : List LineRecord) (es : List (EntryRecord E)) (is : List ItemRecord) (p : ℕ) where
  abbrev pub own_entries : List (EntryRecord E)
  own_entries = take (rowed r) es

  abbrev pub own_items : List ItemRecord
  own_items = take (total counted own_entries) is

  abbrev pub own_line : Line
  own_line = line_of r (decoded_entries own_entries (decoded_items q own_items (drop p t)))

  abbrev pub other_lines : List Line
  other_lines = decoded_lines rs (decoded_entries (drop (rowed r) es) (decoded_items q (drop (total counted own_entries) is) (drop (p + total taken own_items) t)))

  pub lines-next : decoded_lines (r ∷ rs) (decoded_entries es (decoded_items q is (drop p t))) ≡ own_line ∷ other_lines
  lines-next =
      let xs = decoded_items q is (drop p t) in
      let a : take (rowed r) (decoded_entries es xs) ≡ decoded_entries own_entries (decoded_items q own_items (drop p t)) =
      chunks-take counted entry_of (rowed r) es xs ∙ sym (chunks-front counted entry_of own_entries xs) ∙ ap (decoded_entries own_entries) (sym (items-front q t is (total counted own_entries) p)) in
      let b : drop (rowed r) (decoded_entries es xs) ≡ decoded_entries (drop (rowed r) es) (decoded_items q (drop (total counted own_entries) is) (drop (p + total taken own_items) t)) =
      chunks-drop counted entry_of (rowed r) es xs ∙ ap (decoded_entries (drop (rowed r) es)) (sym (items-behind q t is (total counted own_entries) p)) in
      lines-first r rs (decoded_entries es xs) ∙ ap (λ (ys : List Entry). line_of r ys ∷ decoded_lines rs (drop (rowed r) (decoded_entries es xs))) a ∙ ap (λ (ys : List Entry). own_line ∷ decoded_lines rs ys) b

  line-bytes : p + total taken own_items ≤ length t → line_bytes own_line ≡ total taken own_items
  line-bytes h =
      let ys = decoded_items q own_items (drop p t) in
      let few : length (decoded_entries own_entries ys) ≤ rowed r = omega (arith, length-chunks counted entry_of own_entries ys, length-take (rowed r) es) in
      let all : length ys ≤ total counted own_entries = omega (arith, length-chunks taken (meant q) own_items (drop p t), length-take (total counted own_entries) is) in
      ap (total entry_bytes) (line-entries r (decoded_entries own_entries ys) few) ∙ row-bytes (decoded_entries own_entries ys) ∙ ap (total bytes_in) (row-items own_entries ys all) ∙ items-bytes q t own_items p h

  pub table-next : (l : Look) (c : Columns) (w top : ℤ) → p + total taken own_items ≤ length t
      → table_boxes l c w top p (decoded_lines (r ∷ rs) (decoded_entries es (decoded_items q is (drop p t)))) ≡ line_boxes l c w top p own_line ++ table_boxes l c w (top +ℤ line_size l own_line) (p + total taken own_items) other_lines
  table-next l c w top h =
      ap (table_boxes l c w top p) lines-next ∙ table-first l c w top p own_line other_lines
      ∙ ap (λ (n : ℕ). line_boxes l c w top p own_line ++ table_boxes l c w (top +ℤ line_size l own_line) (p + n) other_lines) (line-bytes h)

  pub height-next : (l : Look) → total_height l (decoded_lines (r ∷ rs) (decoded_entries es (decoded_items q is (drop p t)))) ≡ line_size l own_line +ℤ total_height l other_lines
  height-next l = ap (total_height l) lines-next ∙ height-first l own_line other_lines

pub table-none : (l : Look) (c : Columns) (w top : ℤ) (p : ℕ) (ys : List Entry) → table_boxes l c w top p (decoded_lines [] ys) ≡ []
unfolding table_boxes chunks
table-none l c w top p ys = refl

pub height-none : (l : Look) (ys : List Entry) → total_height l (decoded_lines [] ys) ≡ pos 0
unfolding total_height chunks
height-none l ys = refl
