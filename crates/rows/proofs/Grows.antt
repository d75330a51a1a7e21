-- What more items, entries and lines make of what is held.
use Rattle.std.proofs.Common.{◌≡◌, ℕ, ◌+◌, ◌-◌, ◌<◌, ◌≤◌, List, [], ◌∷◌, ◌++◌, length, take, drop, set, sym, ap, ◌∙◌, subst, add-zero, arith}
use Rattle.std.proofs.lemmas.List.{length-take-le, length-drop, drop-append-le, drop_all, append-nil, take-set-le, take_more_set, length-set, take-append-drop, length-take}
use Rattle.ledger.specs.declared.records.ItemRecord.{ItemRecord}
use Rattle.rows.specs.declared.state.EntryRecord.{EntryRecord}
use Rattle.rows.specs.declared.state.LineRecord.{LineRecord}
use Rattle.rows.specs.declared.state.LineRecord.TheVariants.{Row}
use Rattle.rows.specs.declared.state.Marks.{Marks}
use Rattle.ledger.specs.Chunks.{total}
use Rattle.ledger.specs.Ledger.{Line}
use Rattle.rows.specs.Held.{over, part, counted, entry_of, decoded_entries, rowed, line_of, decoded_lines, held_by, FitBy, pushed, closed, laid_down, emptied, ruled}
use Rattle.ledger.specs.Items.{taken, meant, decoded_items}
use Rattle.ledger.proofs.Cuts.{total-append, chunks-append, chunks-more, chunks-grow, length-chunks, chunks-one, total-one, chunks-none, total-none}
use Rattle.rows.proofs.Overs.{length_over, take-over_below, part-over, length_part, take_part, set_over}

-- over plain lists
pub grow_done : {E : Type 0} (p : List ℕ) (es : List (EntryRecord E)) (is qs : List ItemRecord) (t w : List ℕ) → total taken is ≡ length t → total counted es ≤ length is →
    decoded_entries es (decoded_items p (is ++ qs) (t ++ w)) ≡ decoded_entries es (decoded_items p is t)
grow_done p es is qs t w e h =
    let l : total counted es ≤ length (decoded_items p is t) = rw (length-chunks taken (meant p) is t) h in
    rw (chunks-grow taken (meant p) is qs t w e, chunks-more counted entry_of es (decoded_items p is t) (decoded_items p qs w) l)

pub grow_items : {E : Type 0} (p : List ℕ) (es : List (EntryRecord E)) (is qs : List ItemRecord) (t w : List ℕ) → total taken is ≡ length t → total counted es ≤ length is →
    drop (total counted es) (decoded_items p (is ++ qs) (t ++ w)) ≡ drop (total counted es) (decoded_items p is t) ++ decoded_items p qs w
grow_items p es is qs t w e h =
    let l : total counted es ≤ length (decoded_items p is t) = rw (length-chunks taken (meant p) is t) h in
    rw (chunks-grow taken (meant p) is qs t w e) (drop-append-le (total counted es) (decoded_items p is t) (decoded_items p qs w) l)

abbrev pub further : Marks → ℕ → ℕ → Marks
further m i b = record { items = m.items + i; entries = m.entries; text = m.text + b }

module _ {E : Type 0} (p : List ℕ) (n : ℕ) (k m : Marks) (b : ℕ) (ls : List LineRecord) (es : List (EntryRecord E)) (is : List ItemRecord) (t : List ℕ) (fit : FitBy n k m b ls es is t) where
  hand-fits : total taken (part k.items m.items is) ≡ length (part k.text m.text t)
  hand-fits = let e = length_part t k.text m.text fit.text in omega arith

  hand-counts : total counted (part k.entries m.entries es) ≤ length (part k.items m.items is)
  hand-counts = let e = length_part is k.items m.items fit.items in omega arith

  module _ (qs : List ItemRecord) (w : List ℕ) (is' : List ItemRecord) (t' : List ℕ) (hi : m.items + length qs ≤ length is) (ht : m.text + length w ≤ length t) (eq : total taken qs ≡ length w)
      (ei : is' ≡ over is m.items qs) (et : t' ≡ over t m.text w) where
    pub grow_held : held_by p n k (further m (length qs) (length w)) ls es is' t' ≡ pushed (held_by p n k m ls es is t) (decoded_items p qs w)
    grow_held =
        let a : k.items ≤ m.items = omega arith in
        let c : k.text ≤ m.text = fit.since_text in
        rw (
          ei,
          et,
          take-over_below is m.items qs k.items a fit.items,
          take-over_below t m.text w k.text c fit.text,
          part-over is k.items m.items qs a hi,
          part-over t k.text m.text w c ht,
          grow_done p (part k.entries m.entries es) (part k.items m.items is) qs (part k.text m.text t) w hand-fits hand-counts,
          grow_items p (part k.entries m.entries es) (part k.items m.items is) qs (part k.text m.text t) w hand-fits hand-counts,
        )

    pub grow_fit : FitBy n k (further m (length qs) (length w)) b ls es is' t'
    grow_fit =
        let a : k.items ≤ m.items = omega arith in
        let c : k.text ≤ m.text = fit.since_text in
        let li : length is' ≡ length is = ap length ei ∙ length_over is m.items qs hi in
        let lt : length t' ≡ length t = ap length et ∙ length_over t m.text w ht in
        let low : total taken (take k.items is') ≡ k.text = rw (ei, take-over_below is m.items qs k.items a fit.items) fit.laid-text in
        let high : total taken (part k.items (m.items + length qs) is') ≡ total taken (part k.items m.items is) + length w =
        rw (ei, part-over is k.items m.items qs a hi) (total-append taken (meant p) (part k.items m.items is) qs ∙ ap (λ x. total taken (part k.items m.items is) + x) eq) in
        record {
          lines = fit.lines;
          items = omega arith;
          entries = fit.entries;
          text = omega arith;
          since_items = fit.since_items;
          begin-items = omega arith;
          since_entries = fit.since_entries;
          since_text = omega arith;
          laid-entries = fit.laid-entries;
          laid-items = fit.laid-items;
          laid-text = low;
          hand-items = fit.hand-items;
          hand-text = omega arith;
        }

  module _ (it : ItemRecord) (w : List ℕ) (is' : List ItemRecord) (t' : List ℕ) (hi : m.items < length is) (ht : m.text + length w ≤ length t) (eq : taken it ≡ length w)
      (ei : is' ≡ set is m.items it) (et : t' ≡ over t m.text w) where
    pub one-held : held_by p n k (further m 1 (length w)) ls es is' t' ≡ pushed (held_by p n k m ls es is t) (meant p it w ∷ [])
    one-held =
        let hi1 : m.items + 1 ≤ length is = omega arith in
        grow_held (it ∷ []) w is' t' hi1 ht (total-one taken (meant p) it ∙ eq) (ei ∙ set_over is m.items it hi) et
        ∙ ap (pushed (held_by p n k m ls es is t)) (chunks-one taken (meant p) it w eq)

    pub one-fit : FitBy n k (further m 1 (length w)) b ls es is' t'
    one-fit =
        let hi1 : m.items + 1 ≤ length is = omega arith in
        grow_fit (it ∷ []) w is' t' hi1 ht (total-one taken (meant p) it ∙ eq) (ei ∙ set_over is m.items it hi) et

  -- items that take no bytes
  module _ (qs : List ItemRecord) (is' : List ItemRecord) (hi : m.items + length qs ≤ length is) (eq : total taken qs ≡ 0) (ei : is' ≡ over is m.items qs) where
    same_text : t ≡ over t m.text []
    same_text = let e : m.text + 0 ≡ m.text = omega arith in rw e (sym (take-append-drop m.text t))

    same-mark : further m (length qs) 0 ≡ record { items = m.items + length qs; entries = m.entries; text = m.text }
    same-mark = rw (add-zero m.text)

    no_room : m.text + 0 ≤ length t
    no_room = let a = fit.text in omega arith

    pub part_held : held_by p n k (record { items = m.items + length qs; entries = m.entries; text = m.text }) ls es is' t ≡ pushed (held_by p n k m ls es is t) (decoded_items p qs [])
    part_held = subst (λ (x : Marks). held_by p n k x ls es is' t ≡ pushed (held_by p n k m ls es is t) (decoded_items p qs [])) same-mark (grow_held qs [] is' t hi no_room eq ei same_text)

    pub part-fit : FitBy n k (record { items = m.items + length qs; entries = m.entries; text = m.text }) b ls es is' t
    part-fit = subst (λ (x : Marks). FitBy n k x b ls es is' t) same-mark (grow_fit qs [] is' t hi no_room eq ei same_text)

  -- the items so far become an entry
  module _ (e : EntryRecord E) (es' : List (EntryRecord E)) (he : m.entries < length es) (eq : e.count ≡ m.items - b) (ee : es' ≡ set es m.entries e) where
    entry-part : part k.entries (m.entries + 1) es' ≡ part k.entries m.entries es ++ e ∷ []
    entry-part = let h : m.entries + 1 ≤ length es = omega arith in rw (ee, set_over es m.entries e he) (part-over es k.entries m.entries (e ∷ []) fit.since_entries h)

    left_over : length (decoded_items p (part k.items m.items is) (part k.text m.text t)) ≡ m.items - k.items
    left_over = length-chunks taken (meant p) (part k.items m.items is) (part k.text m.text t) ∙ length_part is k.items m.items fit.items

    entry-total : total counted (part k.entries (m.entries + 1) es') ≡ m.items - k.items
    entry-total =
        let a = total-append counted entry_of (part k.entries m.entries es) (e ∷ []) in
        let c = total-one counted entry_of e in
        rw entry-part (omega arith)

    pub entry-held : held_by p n k (record { items = m.items; entries = m.entries + 1; text = m.text }) ls es' is t ≡ closed (held_by p n k m ls es is t) e.entry.first e.entry.last
    entry-held =
        let oe = part k.entries m.entries es in
        let oa = decoded_items p (part k.items m.items is) (part k.text m.text t) in
        let lo = left_over in
        let size : counted e ≡ length (drop (total counted oe) oa) = simp length-drop (omega arith) in
        let low : take k.entries es' ≡ take k.entries es = rw ee (take-set-le k.entries es m.entries e fit.since_entries) in
        let done : decoded_entries (part k.entries (m.entries + 1) es') oa ≡ decoded_entries oe oa ++ entry_of e (drop (total counted oe) oa) ∷ [] =
        rw (entry-part, chunks-append counted entry_of oe (e ∷ []) oa, chunks-one counted entry_of e (drop (total counted oe) oa) size) in
        let all : length oa ≤ total counted (part k.entries (m.entries + 1) es') = let x = entry-total in omega arith in
        let items : drop (total counted (part k.entries (m.entries + 1) es')) oa ≡ [] = drop_all _ oa all in
        rw (low, done, items)

    pub entry-fit : FitBy n k (record { items = m.items; entries = m.entries + 1; text = m.text }) m.items ls es' is t
    entry-fit =
        let low : total counted (take k.entries es') ≡ k.items = rw (ee, take-set-le k.entries es m.entries e fit.since_entries) fit.laid-items in
        let l : length es' ≡ length es = ap length ee ∙ length-set es m.entries e in
        let x = entry-total in
        record {
          lines = fit.lines;
          items = fit.items;
          entries = omega arith;
          text = fit.text;
          since_items = omega arith;
          begin-items = omega arith;
          since_entries = omega arith;
          since_text = fit.since_text;
          laid-entries = fit.laid-entries;
          laid-items = low;
          laid-text = fit.laid-text;
          hand-items = omega arith;
          hand-text = fit.hand-text;
        }

  -- nothing since the laid marks
  part_none : {X : Type 0} (a : ℕ) (xs : List X) → part a a xs ≡ []
  part_none a xs = drop_all a (take a xs) (simp length-take (omega arith))

  pub empty-held : held_by p n k k ls es is t ≡ emptied (held_by p n k m ls es is t)
  empty-held =
      rw (part_none k.entries es, part_none k.items is, chunks-none taken (meant p) (part k.text k.text t), chunks-none counted entry_of [], total-none counted entry_of)

  pub empty-fit : FitBy n k k k.items ls es is t
  empty-fit =
      let a : total counted (part k.entries k.entries es) ≡ 0 = rw (part_none k.entries es, total-none counted entry_of) in
      let c : total taken (part k.items k.items is) ≡ 0 = rw (part_none k.items is, total-none taken (meant p)) in
      record {
        lines = fit.lines;
        items = omega arith;
        entries = omega arith;
        text = omega arith;
        since_items = omega arith;
        begin-items = omega arith;
        since_entries = omega arith;
        since_text = omega arith;
        laid-entries = fit.laid-entries;
        laid-items = fit.laid-items;
        laid-text = fit.laid-text;
        hand-items = omega arith;
        hand-text = omega arith;
      }

  -- the entries so far become a row
  module _ (ls' : List LineRecord) (hl : n < length ls) (eb : b ≡ m.items) (el : ls' ≡ set ls n (Row (m.entries - k.entries))) where
    whole-text : total taken (take m.items is) ≡ m.text
    whole-text =
        let h : k.items ≤ m.items = omega arith in
        let a = total-append taken (meant p) (take k.items is) (part k.items m.items is) in
        rw (take_part is k.items m.items h) (omega arith)

    whole-items : total counted (take m.entries es) ≡ m.items
    whole-items =
        let a = total-append counted entry_of (take k.entries es) (part k.entries m.entries es) in
        rw (take_part es k.entries m.entries fit.since_entries) (omega arith)

    whole-spans : decoded_entries (take m.entries es) (decoded_items p (take m.items is) (take m.text t))
        ≡ decoded_entries (take k.entries es) (decoded_items p (take k.items is) (take k.text t)) ++ decoded_entries (part k.entries m.entries es) (decoded_items p (part k.items m.items is) (part k.text m.text t))
    whole-spans =
        let h : k.items ≤ m.items = omega arith in
        let ht : k.text ≤ length t = omega arith in
        let hi : k.items ≤ length is = omega arith in
        let lt = length-take-le k.text t ht in
        let li = length-take-le k.items is hi in
        let lc = length-chunks taken (meant p) (take k.items is) (take k.text t) in
        let la = decoded_items p (take k.items is) (take k.text t) in
        let oa = decoded_items p (part k.items m.items is) (part k.text m.text t) in
        let e1 : total taken (take k.items is) ≡ length (take k.text t) = omega arith in
        let e2 : total counted (take k.entries es) ≡ length la = omega arith in
        ap (λ (x : List ItemRecord). decoded_entries (take m.entries es) (decoded_items p x (take m.text t))) (take_part is k.items m.items h)
        ∙ ap (λ (x : List ℕ). decoded_entries (take m.entries es) (decoded_items p (take k.items is ++ part k.items m.items is) x)) (take_part t k.text m.text fit.since_text)
        ∙ ap (decoded_entries (take m.entries es)) (chunks-grow taken (meant p) (take k.items is) (part k.items m.items is) (take k.text t) (part k.text m.text t) e1)
        ∙ ap (λ (x : List (EntryRecord E)). decoded_entries x (la ++ oa)) (take_part es k.entries m.entries fit.since_entries)
        ∙ chunks-grow counted entry_of (take k.entries es) (part k.entries m.entries es) la oa e2

    pub line-held : held_by p (n + 1) m m ls' es is t ≡ laid_down (held_by p n k m ls es is t)
    line-held =
        let r = Row (m.entries - k.entries) in
        let s0 = decoded_entries (take k.entries es) (decoded_items p (take k.items is) (take k.text t)) in
        let s1 = decoded_entries (part k.entries m.entries es) (decoded_items p (part k.items m.items is) (part k.text m.text t)) in
        let he : k.entries ≤ length es = omega arith in
        let l0 : length s0 ≡ k.entries = length-chunks counted entry_of (take k.entries es) (decoded_items p (take k.items is) (take k.text t)) ∙ length-take-le k.entries es he in
        let l1 : length s1 ≡ m.entries - k.entries = length-chunks counted entry_of (part k.entries m.entries es) (decoded_items p (part k.items m.items is) (part k.text m.text t)) ∙ length_part es k.entries m.entries fit.entries in
        rw (
          el,
          take_more_set ls n r hl,
          whole-spans,
          chunks-grow rowed line_of (take n ls) (r ∷ []) s0 s1 (fit.laid-entries ∙ sym l0),
          chunks-one rowed line_of r s1 (sym l1),
          part_none m.entries es,
          part_none m.items is,
          chunks-none taken (meant p) (part m.text m.text t),
          chunks-none counted entry_of [],
          total-none counted entry_of,
        )

    pub line-fit : FitBy (n + 1) m m b ls' es is t
    line-fit =
        let r = Row (m.entries - k.entries) in
        let a : total counted (part m.entries m.entries es) ≡ 0 = rw (part_none m.entries es, total-none counted entry_of) in
        let c : total taken (part m.items m.items is) ≡ 0 = rw (part_none m.items is, total-none taken (meant p)) in
        let l : length ls' ≡ length ls = ap length el ∙ length-set ls n r in
        let tl = total-append rowed line_of (take n ls) (r ∷ []) in
        let to = total-one rowed line_of r in
        let rows : total rowed (take (n + 1) ls') ≡ m.entries = rw (el, take_more_set ls n r hl) (omega arith) in
        record {
          lines = omega arith;
          items = fit.items;
          entries = fit.entries;
          text = fit.text;
          since_items = omega arith;
          begin-items = omega arith;
          since_entries = omega arith;
          since_text = omega arith;
          laid-entries = rows;
          laid-items = whole-items;
          laid-text = whole-text;
          hand-items = omega arith;
          hand-text = omega arith;
        }

  -- a line without entries
  module _ (r : LineRecord) (ls' : List LineRecord) (hl : n < length ls) (none : rowed r ≡ 0) (el : ls' ≡ set ls n r) where
    pub bare-held : held_by p (n + 1) k m ls' es is t ≡ ruled (held_by p n k m ls es is t) (line_of r [])
    bare-held =
        let s0 = decoded_entries (take k.entries es) (decoded_items p (take k.items is) (take k.text t)) in
        let he : k.entries ≤ length es = omega arith in
        let l0 : length s0 ≡ k.entries = length-chunks counted entry_of (take k.entries es) (decoded_items p (take k.items is) (take k.text t)) ∙ length-take-le k.entries es he in
        let up : decoded_lines (take (n + 1) ls') s0 ≡ decoded_lines (take n ls) s0 ++ line_of r [] ∷ [] =
        rw (el, take_more_set ls n r hl) (ap (decoded_lines (take n ls ++ r ∷ [])) (sym (append-nil s0)) ∙ chunks-grow rowed line_of (take n ls) (r ∷ []) s0 [] (fit.laid-entries ∙ sym l0) ∙ ap (λ (x : List Line). decoded_lines (take n ls) s0 ++ x) (chunks-one rowed line_of r [] none)) in
        rw up

    pub bare-fit : FitBy (n + 1) k m b ls' es is t
    bare-fit =
        let l : length ls' ≡ length ls = ap length el ∙ length-set ls n r in
        let tl = total-append rowed line_of (take n ls) (r ∷ []) in
        let to = total-one rowed line_of r in
        let rows : total rowed (take (n + 1) ls') ≡ k.entries = rw (el, take_more_set ls n r hl) (omega arith) in
        record {
          lines = omega arith;
          items = fit.items;
          entries = fit.entries;
          text = fit.text;
          since_items = fit.since_items;
          begin-items = fit.begin-items;
          since_entries = fit.since_entries;
          since_text = fit.since_text;
          laid-entries = rows;
          laid-items = fit.laid-items;
          laid-text = fit.laid-text;
          hand-items = fit.hand-items;
          hand-text = fit.hand-text;
        }
