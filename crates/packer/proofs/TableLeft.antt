-- Lines of a table that are left to draw. Assumes nothing.
use Rattle.std.proofs.Common.{◌≡◌, ℕ, ◌+◌, ◌<◌, ◌≤◌, true, List, [], ◌∷◌, ◌++◌, length, get_or, take, drop, ℤ, pos, ◌+ℤ◌, ◌≤ℤ◌, to_z, of_z, w64, FitsSigned, sym, refl, ap, ◌∙◌, subst, arith, ◌*◌}
use Rattle.std.specs.List.{list_all}
use Rattle.std.proofs.lemmas.List.{drop_all, at_drop_more, length-take, length-drop}
use Rattle.std.proofs.lemmas.Int.{ints, to_z-of_z}
use Rattle.measure.specs.declared.measurer.Measurer.{Ghosts as Meaning}
use Rattle.extent.specs.declared.Extent.{Ghosts as Sides}
use Rattle.boxlist.specs.declared.BoxRecord.{BoxRecord}
use Rattle.sharing.specs.declared.Edges.{Edges}
use Rattle.ledger.specs.Chunks.{total}
use Rattle.ledger.specs.Items.{taken}
use Rattle.ledger.specs.Ledger.{Line}
use Rattle.ledger.specs.Lawful.{low}
use Rattle.ledger.specs.declared.records.ItemRecord.{ItemRecord}
use Rattle.rows.specs.declared.state.EntryRecord.{EntryRecord}
use Rattle.rows.specs.declared.state.LineRecord.{LineRecord}
use Rattle.rows.specs.declared.state.LineRecord.TheVariants.{Row}
use Rattle.rows.specs.Held.{counted, rowed, line_of, decoded_entries, decoded_lines}
use Rattle.packer.specs.declared.source.Source.{Source}
use Rattle.packer.specs.declared.pen.Pen.{Pen}
use Rattle.packer.specs.Boxes.{Columns}
use Rattle.packer.specs.Lines.{line_size, line_boxes, table_boxes, total_height}
use Rattle.packer.specs.Views.{look_in, items_from, EdgesAre, HasRoom, Drawn}
use Rattle.packer.proofs.Cuts.{total-cut, all-next}
use Rattle.packer.proofs.Ready.{Ready, ready-front, ready-behind}
use Rattle.packer.proofs.Going.{Going, going-room, going-next, going-end}
use Rattle.packer.proofs.Tables.{own_line, other_lines, lines-next, table-next, height-next, table-none, height-none}

-- the lines of records, the items of the first from the front on
abbrev pub lines_from : {X E : Type 0} → Source X E → List LineRecord → List (EntryRecord E) → List ItemRecord → ℕ → List Line
lines_from src ls es is p = decoded_lines ls (decoded_entries es (items_from src is p))

-- of these those that are left are to be drawn, from a top on
pub record TableLeft {X E : Type 0} (m : Meaning X E) (k : Sides E) (src : Source X E) (columns : List Edges) (w : ℤ) (ls₀ : List LineRecord) (es₀ : List (EntryRecord E)) (is₀ : List ItemRecord) (old : Pen) (ls : List LineRecord) (es : List (EntryRecord E)) (is : List ItemRecord) (p : ℕ) (top : ℤ) (now : Pen) : Type 0 where
  pub ready : Ready m k src (length columns) es is p
  pub gaps : list_all low (lines_from src ls es is p) ≡ true
  pub rows : total rowed ls ≤ length es
  pub above : (pos 0 ≤ℤ top) × ((top +ℤ pos (length ls * 33554430)) ≤ℤ pos 34359738368)
  pub height : (top +ℤ total_height (look_in m k src) (lines_from src ls es is p)) ≡ total_height (look_in m k src) (lines_from src ls₀ es₀ is₀ 0)
  pub going : (c : Columns) → EdgesAre c columns → Going old now (table_boxes (look_in m k src) c w top p (lines_from src ls es is p)) (table_boxes (look_in m k src) c w (pos 0) 0 (lines_from src ls₀ es₀ is₀ 0))

-- the boxes of all lines
abbrev pub whole_from : {X E : Type 0} → Meaning X E → Sides E → Source X E → ℤ → List LineRecord → List (EntryRecord E) → List ItemRecord → Columns → List BoxRecord
whole_from m k src w ls es is c = table_boxes (look_in m k src) c w (pos 0) 0 (lines_from src ls es is 0)

-- the room in a table as wide as is kept
pub room-at : {X E : Type 0} (m : Meaning X E) (k : Sides E) (src : Source X E) (columns : List Edges) (ls₀ : List LineRecord) (es₀ : List (EntryRecord E)) (is₀ : List ItemRecord) (old : Pen) (w : ℤ) → FitsSigned w64 w
    → ((c : Columns) → EdgesAre c columns → HasRoom old (table_boxes (look_in m k src) c w (pos 0) 0 (lines_from src ls₀ es₀ is₀ 0)))
    → (c : Columns) → EdgesAre c columns → HasRoom old (table_boxes (look_in m k src) c (to_z w64 (of_z w64 w)) (pos 0) 0 (lines_from src ls₀ es₀ is₀ 0))
room-at m k src columns ls₀ es₀ is₀ old w fit room c a = subst (λ (z : ℤ). HasRoom old (table_boxes (look_in m k src) c z (pos 0) 0 (lines_from src ls₀ es₀ is₀ 0))) (sym (to_z-of_z w64 w fit)) (room c a)

module _ {X E : Type 0} {m : Meaning X E} {k : Sides E} {src : Source X E} {columns : List Edges} {w : ℤ} {ls₀ : List LineRecord} {es₀ : List (EntryRecord E)} {is₀ : List ItemRecord} {old : Pen} where
  -- one line further
  module _ {i : ℕ} {es : List (EntryRecord E)} {is : List ItemRecord} {p : ℕ} {top : ℤ} {now : Pen} (lt : i < length ls₀) (keeps : TableLeft m k src columns w ls₀ es₀ is₀ old (drop i ls₀) es is p top now) where
    abbrev r : LineRecord
    r = get_or ls₀ i (Row 0)

    abbrev rs : List LineRecord
    rs = drop (i + 1) ls₀

    abbrev own_es : List (EntryRecord E)
    own_es = take (rowed r) es

    abbrev own_is : List ItemRecord
    own_is = take (total counted own_es) is

    abbrev own : Line
    own = own_line src.preamble.now src.lines.now r rs es is p

    abbrev others : List Line
    others = other_lines src.preamble.now src.lines.now r rs es is p

    at-line : TableLeft m k src columns w ls₀ es₀ is₀ old (r ∷ rs) es is p top now
    at-line = subst (λ (qs : List LineRecord). TableLeft m k src columns w ls₀ es₀ is₀ old qs es is p top now) (at_drop_more (λ (qs : List LineRecord). qs) ls₀ i (Row 0) lt) keeps

    rows : rowed r + total rowed rs ≤ length es
    unfolding total
    rows = at-line.rows

    pub rows-here : rowed r ≤ length es
    rows-here = omega (arith, rows)

    text-here : p + total taken own_is ≤ length src.lines.now
    text-here = (ready-front at-line.ready (rowed r)).text

    counts-here : total counted own_es ≡ length own_is
    counts-here = omega (arith, length-take (total counted own_es) is, total-cut counted es (rowed r), at-line.ready.counts)

    lows : (low own ≡ true) × (list_all low others ≡ true)
    lows = all-next low own others (subst (λ (ss : List Line). list_all low ss ≡ true) (lines-next src.preamble.now src.lines.now r rs es is p) at-line.gaps)

    going : (c : Columns) → EdgesAre c columns → Going old now (line_boxes (look_in m k src) c w top p own ++ table_boxes (look_in m k src) c w (top +ℤ line_size (look_in m k src) own) (p + total taken own_is) others) (whole_from m k src w ls₀ es₀ is₀ c)
    going c a = subst (λ (bs : List BoxRecord). Going old now bs (whole_from m k src w ls₀ es₀ is₀ c)) (table-next src.preamble.now src.lines.now r rs es is p (look_in m k src) c w top text-here) (at-line.going c a)

    pub top-here : (pos 0 ≤ℤ top) × (top ≤ℤ pos 34359738368)
    top-here = (at-line.above.0, omega (arith, ints, at-line.above.1))

    -- what the line takes, as it is split off
    module _ {pe : List (EntryRecord E)} {pi : List ItemRecord} {pp : ℕ} (ee : pe ≡ own_es) (ei : pi ≡ own_is) (ep : pp ≡ p) where
      at-own : (P : List (EntryRecord E) → List ItemRecord → ℕ → Type 0) → P own_es own_is p → P pe pi pp
      at-own P h = subst (λ (a : List (EntryRecord E)). P a pi pp) (sym ee) (subst (λ (b : List ItemRecord). P own_es b pp) (sym ei) (subst (λ (c : ℕ). P own_es own_is c) (sym ep) h))

      pub ready-own : Ready m k src (length columns) pe pi pp
      ready-own = at-own (Ready m k src (length columns)) (ready-front at-line.ready (rowed r))

      pub counts-own : total counted pe ≡ length pi
      counts-own = at-own (λ a b c. total counted a ≡ length b) counts-here

      line-is : own ≡ line_of r (decoded_entries pe (items_from src pi pp))
      line-is = at-own (λ a b c. own ≡ line_of r (decoded_entries a (items_from src b c))) refl

      pub low-own : low (line_of r (decoded_entries pe (items_from src pi pp))) ≡ true
      low-own = subst (λ (s : Line). low s ≡ true) line-is lows.0

      boxes-are : (c : Columns) → line_boxes (look_in m k src) c w top p own ≡ line_boxes (look_in m k src) c w top pp (line_of r (decoded_entries pe (items_from src pi pp)))
      boxes-are c = ap (line_boxes (look_in m k src) c w top p) line-is ∙ ap (λ (n : ℕ). line_boxes (look_in m k src) c w top n (line_of r (decoded_entries pe (items_from src pi pp)))) (sym ep)

      module _ (room : (c : Columns) → EdgesAre c columns → HasRoom old (whole_from m k src w ls₀ es₀ is₀ c)) where
        pub room-own : (c : Columns) → EdgesAre c columns → HasRoom now (line_boxes (look_in m k src) c w top pp (line_of r (decoded_entries pe (items_from src pi pp))))
        room-own c a = subst (HasRoom now) (boxes-are c) (going-room old now _ _ _ (room c a) (going c a))

        next-own : (h : ℤ) (new : Pen) → h ≡ line_size (look_in m k src) own → (pos 0 ≤ℤ h) × (h ≤ℤ pos 33554430) → ((c : Columns) → EdgesAre c columns → Drawn now new (line_boxes (look_in m k src) c w top p own))
            → TableLeft m k src columns w ls₀ es₀ is₀ old rs (drop (rowed r) es) (drop (total counted own_es) is) (p + total taken own_is) (top +ℤ h) new
        next-own h new eh bound drawn = record {
          ready = ready-behind at-line.ready (rowed r);
          gaps = lows.1;
          rows = omega (arith, rows, length-drop (rowed r) es);
          above = (omega (arith, ints, at-line.above, bound), omega (arith, ints, at-line.above, bound));
          height =
              let e = height-next src.preamble.now src.lines.now r rs es is p (look_in m k src) in
              let f = at-line.height in
              omega (arith, ints, e, f, eh);
          going = λ c a.
              subst (λ (z : ℤ). Going old new (table_boxes (look_in m k src) c w (top +ℤ z) (p + total taken own_is) others) (whole_from m k src w ls₀ es₀ is₀ c)) (sym eh)
              (going-next old now _ _ _ (room c a) (going c a) new (drawn c a));
        }

        pub next-left : (h top' : ℤ) (new : Pen) (be : List (EntryRecord E)) (bi : List ItemRecord) (bp : ℕ) → be ≡ drop (rowed r) es → bi ≡ drop (total counted own_es) is → bp ≡ p + total taken own_is → top' ≡ top +ℤ h
            → h ≡ line_size (look_in m k src) (line_of r (decoded_entries pe (items_from src pi pp))) → (pos 0 ≤ℤ h) × (h ≤ℤ pos 33554430)
            → ((c : Columns) → EdgesAre c columns → Drawn now new (line_boxes (look_in m k src) c w top pp (line_of r (decoded_entries pe (items_from src pi pp)))))
            → TableLeft m k src columns w ls₀ es₀ is₀ old rs be bi bp top' new
        next-left h top' new be bi bp xe xi xp et eh bound drawn =
            let done = next-own h new (eh ∙ ap (line_size (look_in m k src)) (sym line-is)) bound (λ c a. subst (Drawn now new) (sym (boxes-are c)) (drawn c a)) in
            subst (λ (a : List (EntryRecord E)). TableLeft m k src columns w ls₀ es₀ is₀ old rs a bi bp top' new) (sym xe)
            (subst (λ (b : List ItemRecord). TableLeft m k src columns w ls₀ es₀ is₀ old rs (drop (rowed r) es) b bp top' new) (sym xi)
            (subst (λ (n : ℕ). TableLeft m k src columns w ls₀ es₀ is₀ old rs (drop (rowed r) es) (drop (total counted own_es) is) n top' new) (sym xp)
            (subst (λ (z : ℤ). TableLeft m k src columns w ls₀ es₀ is₀ old rs (drop (rowed r) es) (drop (total counted own_es) is) (p + total taken own_is) z new) (sym et) done)))

  -- no line is left
  module _ {i : ℕ} {es : List (EntryRecord E)} {is : List ItemRecord} {p : ℕ} {top : ℤ} {now : Pen} (le : length ls₀ ≤ i) (keeps : TableLeft m k src columns w ls₀ es₀ is₀ old (drop i ls₀) es is p top now) where
    at-end : TableLeft m k src columns w ls₀ es₀ is₀ old [] es is p top now
    at-end = subst (λ (qs : List LineRecord). TableLeft m k src columns w ls₀ es₀ is₀ old qs es is p top now) (drop_all i ls₀ le) keeps

    pub whole-height : top ≡ total_height (look_in m k src) (lines_from src ls₀ es₀ is₀ 0)
    whole-height = let e = height-none (look_in m k src) (decoded_entries es (items_from src is p)) in let f = at-end.height in omega (arith, ints, e, f)

    pub whole-drawn : (c : Columns) → EdgesAre c columns → Drawn old now (whole_from m k src w ls₀ es₀ is₀ c)
    whole-drawn c a = going-end old now _ (subst (λ (bs : List BoxRecord). Going old now bs (whole_from m k src w ls₀ es₀ is₀ c)) (table-none (look_in m k src) c w top p (decoded_entries es (items_from src is p))) (at-end.going c a))
