-- A template that is finished. Assumes nothing.
use Rattle.std.proofs.Common.{◌≡◌, ℕ, ◌+◌, ◌<◌, ◌≤◌, true, false, ltb, List, [], ◌∷◌, ◌++◌, map, length, take, set, ℤ, pos, sym, refl, ap, ◌∙◌, subst, arith, lt-ltb, Ok, Continue, Break}
use Rattle.std.proofs.lemmas.List.{length-set, length-map, length-take-le, length_push, take_more_set, map_push}
use Rattle.std.specs.List.{AllByRecursion}
use Rattle.std.proofs.ByRecursion.{All-weaker, All-push}
use Rattle.lengths.specs.Gaps.{Parts}
use Rattle.ledger.specs.declared.records.Owed.{Owed}
use Rattle.ledger.specs.Chunks.{chunks}
use Rattle.ledger.specs.Ledger.{Item}
use Rattle.ledger.specs.Calls.{Template}
use Rattle.ledger.specs.Naturals.{natural}
use Rattle.ledger.specs.Preambles.{Reading, Preamble, goes_on, ends, parted, ended, templated, gapped}
use Rattle.templates.specs.declared.memory.Templates.{Templates}
use Rattle.templates.specs.declared.memory.Hand.{Hand}
use Rattle.templates.specs.Kept.{Fine, LiesIn, Fits, Holds, Sound, Turns, u_stored, v_stored, u_natural, v_natural}
use Rattle.templates.specs.Readings.{template_by, gap_by, templates_in, gaps_in, written, reading_of, with_column, renewed}
use Rattle.ledger.proofs.Beyonds.{natural-none}
use Rattle.templates.proofs.Fills.{lie-further, templates-further, template_whole, fine-further}

module _ {E : Type 0} (text : List ℕ) (h : Hand E) (t : Templates E) (fits : Fits h t) where
  pub length-templates : length (reading_of text h t).templates ≡ h.columns
  length-templates = length-map (take h.columns t.columns) (template_by text (take h.column.template.from t.pieces)) ∙ length-take-le h.columns t.columns fits.columns

  pub length-templated : length (templated (reading_of text h t)) ≡ h.columns + 1
  length-templated = length_push (reading_of text h t).templates (record { u = (reading_of text h t).u; v = (reading_of text h t).v }) ∙ ap (λ (n : ℕ). n + 1) length-templates

  column-lies : LiesIn (written h) h.column
  column-lies = record { within = omega arith; few-u = fits.few-u; few-v = fits.few-v }

  pub all_lie : h.columns < length t.columns → AllByRecursion (LiesIn (written h)) (take (h.columns + 1) (set t.columns h.columns h.column))
  all_lie lt =
      let n = h.columns in
      let p = written h in
      subst (AllByRecursion (LiesIn p)) (sym (take_more_set t.columns n h.column lt))
      (All-push (LiesIn p) (take n t.columns) h.column (lie-further h.column.template.from p (take n t.columns) (omega arith) fits.lies) column-lies)

  pub templates-push : h.columns < length t.columns → templates_in text (written h) (h.columns + 1) (with_column t h) ≡ templated (reading_of text h t)
  templates-push lt =
      let n = h.columns in
      let p = written h in
      let F = template_by text (take p t.pieces) in
      ap (map F) (take_more_set t.columns n h.column lt)
      ∙ map_push F (take n t.columns) h.column
      ∙ ap (λ (ts : List Template). ts ++ F h.column ∷ []) (templates-further text t.pieces h.column.template.from p (take n t.columns) (omega arith) fits.lies)
      ∙ ap (λ (x : Template). (reading_of text h t).templates ++ x ∷ []) (template_whole text t.pieces p h.column.template column-lies)

  pub gaps-push : h.columns < length t.columns → gaps_in (h.columns + 1) (with_column t h) ≡ gapped (reading_of text h t)
  gaps-push lt = ap (map gap_by) (take_more_set t.columns h.columns h.column lt) ∙ map_push gap_by (take h.columns t.columns) h.column

module _ {E : Type 0} (count : ℕ) (num : E → ℕ → ℤ) (wide : Item → ℕ → ℤ) (text : List ℕ) (h : Hand E) (t : Templates E) (fits : Fits h t)
    (lc : h.columns < length t.columns) (end : ℕ) (on : h.place < end) (le : end ≤ length text) where
  holds-push : (start : Parts) → Sound count num wide text start h t → (ts : List Template) → ts ≡ templated (reading_of text h t) → Holds count num wide text start (h.columns + 1) end (with_column t h) ts
  holds-push start s ts e =
      let n = h.columns in
      let r = reading_of text h t in
      let x : Template = record { u = r.u; v = r.v } in
      record {
        first = s.holds.first;
        us = λ k lt. ap (map (u_stored num k)) (take_more_set t.columns n h.column lc) ∙ map_push (u_stored num k) (take n t.columns) h.column
            ∙ ap (λ (zs : List ℤ). zs ++ num h.column.widths.u k ∷ []) (s.holds.us k lt) ∙ ap (λ (z : ℤ). map (u_natural wide k) r.templates ++ z ∷ []) (s.wide-u k lt)
            ∙ sym (map_push (u_natural wide k) r.templates x) ∙ ap (map (u_natural wide k)) (sym e);
        vs = λ k lt. ap (map (v_stored num k)) (take_more_set t.columns n h.column lc) ∙ map_push (v_stored num k) (take n t.columns) h.column
            ∙ ap (λ (zs : List ℤ). zs ++ num h.column.widths.v k ∷ []) (s.holds.vs k lt) ∙ ap (λ (z : ℤ). map (v_natural wide k) r.templates ++ z ∷ []) (s.wide-v k lt)
            ∙ sym (map_push (v_natural wide k) r.templates x) ∙ ap (map (v_natural wide k)) (sym e);
        inside = le;
      }

  pieces-on : (start : Parts) → Sound count num wide text start h t → AllByRecursion (Fine text end) (take (written h) t.pieces)
  pieces-on start s = All-weaker (Fine text h.place) (Fine text end) (λ x. fine-further text h.place end x (omega arith)) (take (written h) t.pieces) s.pieces

  -- `&` behind a template with its mark
  pub parted-turns : h.marked ≡ true → h.columns + 1 < 32 → (w : Owed E) → ((k : ℕ) → k < count → num w.u k ≡ pos 0) → ((k : ℕ) → k < count → num w.v k ≡ pos 0)
      → Turns count num wide text h t (parted (reading_of text h t) end) (with_column t h) (Ok (Continue (renewed h end w)))
  unfolding chunks
  parted-turns m few w zu zv =
      let e = templates-push text h t fits lc in
      let g = gaps-push text h t fits lc in
      let r = reading_of text h t in
      let b : ltb (length (templated r)) 32 ≡ true = lt-ltb (length (templated r)) 32 (let l = length-templated text h t fits in omega arith) in
      let go : parted r end ≡ goes_on (record { place = end; templates = templated r; gaps = gapped r; u = []; v = []; marked = false; gap = r.gap }) = parting r end m b in
      let same : reading_of text (renewed h end w) (with_column t h) ≡ record { place = end; templates = templated r; gaps = gapped r; u = []; v = []; marked = false; gap = r.gap } = fresh end (templates_in text (written h) (h.columns + 1) (with_column t h)) (templated r) (gaps_in (h.columns + 1) (with_column t h)) (gapped r) r.gap e g in
      record {
        is = ap goes_on same ∙ sym go;
        keeps = λ start s. (
          on,
          record {
            fits = record {
              columns = simp length-set (omega arith);
              pieces = let q = fits.pieces in omega arith;
              few = few;
              below = let a = fits.below in let b = fits.few-u in let c = fits.few-v in omega arith;
              few-u = omega arith;
              few-v = omega arith;
              bare = λ n. refl;
              lies = all_lie text h t fits lc;
            };
            holds = holds-push start s (templates_in text (written h) (h.columns + 1) (with_column t h)) e;
            pieces = subst (λ (n : ℕ). AllByRecursion (Fine text end) (take n t.pieces)) (omega arith) (pieces-on start s);
            wide-u = λ k kc. zu k kc ∙ sym (natural-none wide k) ∙ ap (λ (q : Reading). natural wide q.u k) (sym same);
            wide-v = λ k kc. zv k kc ∙ sym (natural-none wide k) ∙ ap (λ (q : Reading). natural wide q.v k) (sym same);
          },
        );
      }
    where
      parting : (r : Reading) (end : ℕ) → r.marked ≡ true → ltb (length (templated r)) 32 ≡ true → parted r end ≡ goes_on (record { place = end; templates = templated r; gaps = gapped r; u = []; v = []; marked = false; gap = r.gap })
      parting r end m b = rw (m, b)

      fresh : (end : ℕ) (ts ts' : List Template) (gs gs' : List Parts) (g : Parts) → ts ≡ ts' → gs ≡ gs'
          → ◌≡◌ {A = Reading} (record { place = end; templates = ts; gaps = gs; u = []; v = []; marked = false; gap = g }) (record { place = end; templates = ts'; gaps = gs'; u = []; v = []; marked = false; gap = g })
      fresh end ts ts' gs gs' g a b = rw (a, b)

  -- `\\cr` behind a template with its mark
  pub ended-turns : h.marked ≡ true → Turns count num wide text h t (ended (reading_of text h t) end) (with_column t h) (Ok (Break (record { columns = h.columns + 1; pieces = written h; bytes = end })))
  unfolding chunks
  ended-turns m =
      let e = templates-push text h t fits lc in
      let g = gaps-push text h t fits lc in
      let r = reading_of text h t in
      record {
        is = ap ends (whole (templates_in text (written h) (h.columns + 1) (with_column t h)) (templated r) (gaps_in (h.columns + 1) (with_column t h)) (gapped r) e g) ∙ sym (ending r end m);
        keeps = λ start s. record {
          some = omega arith;
          few = let a = fits.few in omega arith;
          room = let a = fits.below in let b = fits.few-u in let c = fits.few-v in let d = fits.few in omega arith;
          columns = simp length-set (omega arith);
          enough = let q = fits.pieces in omega arith;
          lies = all_lie text h t fits lc;
          holds = holds-push start s (templates_in text (written h) (h.columns + 1) (with_column t h)) e;
          pieces = pieces-on start s;
        };
      }
    where
      ending : (r : Reading) (end : ℕ) → r.marked ≡ true → ended r end ≡ ends (record { templates = templated r; gaps = gapped r; bytes = end })
      ending r end m = rw m

      whole : (ts ts' : List Template) (gs gs' : List Parts) → ts ≡ ts' → gs ≡ gs' → ◌≡◌ {A = Preamble} (record { templates = ts; gaps = gs; bytes = end }) (record { templates = ts'; gaps = gs'; bytes = end })
      whole ts ts' gs gs' a b = rw (a, b)
