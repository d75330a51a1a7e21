-- What holds of every ledger, of its lines and of its row in hand apart.
use Rattle.std.proofs.Common.{◌≡◌, ℕ, ◌<◌, Bool, true, false, List, [], ◌∷◌, ◌++◌, ℤ, ◌+ℤ◌, Some, None, Option, Result, sym, refl, ap, ◌∙◌, subst, arith}
use Rattle.std.proofs.lemmas.Int.{ints}
use Rattle.std.proofs.lemmas.Grind.{flat_map-append}
use Rattle.std.proofs.lemmas.List.{append-nil}
use Rattle.std.specs.List.{list_all, flat_map}
use Rattle.extent.specs.Sizes.{Within}
use Rattle.ledger.specs.Ledger.{Item, Entry, Line, OpenRow, Ledger}
use Rattle.ledger.specs.Calls.{Template, entries_in, items_in, done_of, items_of, laid_entries, v_owed, finished, closed_up, ruled_by, gives_up}
use Rattle.ledger.specs.Naturals.{natural, owed_of, items_now}
use Rattle.ledger.specs.Lawful.{fine, all_fine, FineTemplates, FineSized, Steady, low, Lawful}
use Rattle.ledger.proofs.Beyonds.{natural-none}
use Rattle.ledger.proofs.Fines.{all-first, all-second, all-append, all-one}
use Rattle.ledger.proofs.Steadies.{Few, few-unless, few-v, few-owed, AllSteady, steady-none, steady-more, near-wide, all_steady-none, all_steady-append, all_steady-one}

module _ {X : Type 0} (meaning : List ℕ → Result X ℕ) (count : ℕ) (wide : Item → ℕ → ℤ) (P : List Template) where
  -- entries with fine items, that are not wide
  pub record Sure (es : List Entry) : Type 0 where
    pub fine : all_fine meaning (flat_map items_in es) ≡ true
    pub steady : AllSteady meaning count wide es

  pub sure-append : (xs ys : List Entry) → Sure xs → Sure ys → Sure (xs ++ ys)
  sure-append xs ys a b = record {
    fine = ap (all_fine meaning) (flat_map-append items_in xs ys) ∙ all-append (fine meaning) (flat_map items_in xs) (flat_map items_in ys) a.fine b.fine;
    steady = all_steady-append meaning count wide xs ys a.steady b.steady;
  }

  pub sure-none : Sure []
  sure-none = record { fine = refl; steady = all_steady-none meaning count wide }

  -- what holds of the lines
  pub record Lines (ls : List Line) : Type 0 where
    pub low_gaps : list_all low ls ≡ true
    pub sure : Sure (flat_map entries_in ls)

  -- .. and of the row in hand
  pub record Hand (o : Option OpenRow) : Type 0 where
    pub sure : Sure (done_of o)
    pub fine : all_fine meaning (items_now o) ≡ true
    pub steady : Steady count wide (items_now o)
    pub near : (k : ℕ) → k < count → Within 1073741823 (natural wide (items_now o) k +ℤ natural wide (owed_of P o) k)

  pub lines-of : (g : Ledger) → Lawful meaning count wide P g → Lines g.lines
  lines-of g l =
      let es = laid_entries g in
      let ds = done_of g.hand in
      record {
        low_gaps = l.low_gaps;
        sure = record {
          fine = all-first (fine meaning) (flat_map items_in es) (flat_map items_in ds) (sym (ap (all_fine meaning) (flat_map-append items_in es ds)) ∙ all-first (fine meaning) (flat_map items_in (es ++ ds)) (items_of g.hand) l.items);
          steady = l.laid;
        };
      }

  pub hand-of : (g : Ledger) → Lawful meaning count wide P g → Hand g.hand
  hand-of g l =
      let es = laid_entries g in
      let ds = done_of g.hand in
      record {
        sure = record {
          fine = all-second (fine meaning) (flat_map items_in es) (flat_map items_in ds) (sym (ap (all_fine meaning) (flat_map-append items_in es ds)) ∙ all-first (fine meaning) (flat_map items_in (es ++ ds)) (items_of g.hand) l.items);
          steady = l.done;
        };
        fine = all-second (fine meaning) (flat_map items_in (es ++ ds)) (items_of g.hand) l.items;
        steady = l.hand;
        near = l.near;
      }

  pub lawful-by : (ls : List Line) (o : Option OpenRow) → Lines ls → Hand o → Lawful meaning count wide P (record { lines = ls; hand = o })
  lawful-by ls o a b = record {
    items = all-append (fine meaning) (flat_map items_in (flat_map entries_in ls ++ done_of o)) (items_of o) (sure-append (flat_map entries_in ls) (done_of o) a.sure b.sure).fine b.fine;
    low_gaps = a.low_gaps;
    laid = a.sure.steady;
    done = b.sure.steady;
    hand = b.steady;
    near = b.near;
  }

  -- nothing is in an entry yet, and nothing owed
  pub near-none : (k : ℕ) → k < count → Within 1073741823 (natural wide [] k +ℤ natural wide [] k)
  near-none k lt = let a = natural-none wide k in (omega (arith, ints), omega (arith, ints))

  pub hand-none : Hand None
  hand-none = record { sure = sure-none; fine = refl; steady = steady-none meaning count wide; near = near-none }

  -- an entry in hand with no items yet
  pub hand-fresh : (c f : ℕ) (ds : List Entry) → Sure ds → Hand (Some (record { column = c; begun = false; omitted = false; first = f; done = ds; items = [] }))
  hand-fresh c f ds s = record { sure = s; fine = refl; steady = steady-none meaning count wide; near = near-none }

  -- one more line
  pub lines-more : (ls : List Line) (l : Line) → Lines ls → low l ≡ true → Sure (entries_in l) → Lines (ls ++ l ∷ [])
  lines-more ls l a g s = record {
    low_gaps = all-append low ls (l ∷ []) a.low_gaps (all-one low l g);
    sure = subst Sure (sym (flat_map-append entries_in ls (l ∷ []) ∙ ap (λ (es : List Entry). flat_map entries_in ls ++ es) (append-nil (entries_in l)))) (sure-append (flat_map entries_in ls) (entries_in l) a.sure s);
  }

  -- a new ledger
  pub lawful-new : Lawful meaning count wide P (record { lines = []; hand = None })
  lawful-new = lawful-by [] None (record { low_gaps = refl; sure = sure-none }) hand-none

  pub lawful-closed : (g : Ledger) → Lawful meaning count wide P g → Lawful meaning count wide P (closed_up g)
  lawful-closed g l = lawful-by g.lines None (lines-of g l) hand-none

  pub lawful-gives_up : (b : Bool) (g : Ledger) → Lawful meaning count wide P g → Lawful meaning count wide P (gives_up b g)
  lawful-gives_up true g l = lawful-closed g l
  lawful-gives_up false g l = l

  pub lawful-ruled : (s : Line) (g : Ledger) → low s ≡ true → entries_in s ≡ [] → Lawful meaning count wide P g → Lawful meaning count wide P (ruled_by s g)
  lawful-ruled s g e n l = lawful-by (g.lines ++ s ∷ []) g.hand (lines-more g.lines s (lines-of g l) e (subst Sure (sym n) sure-none)) (hand-of g l)

  -- an entry that is finished
  module _ (sized : FineSized meaning count wide) (fits : FineTemplates meaning P) where
    -- what is in hand is not wide by itself
    pub hand-wide : (o : Option OpenRow) → Hand o → (k : ℕ) → k < count → Within 69793218495 (natural wide (items_now o) k)
    hand-wide o h = near-wide meaning count wide sized (items_now o) (owed_of P o) h.near (few-owed meaning P fits o)

    few-v_owed : (h : OpenRow) → Few meaning (v_owed P h)
    few-v_owed h = few-unless meaning P fits h.omitted _ (few-v meaning P fits h.column)

    -- the items in hand with what is owed of v
    pub steady-finished : (h : OpenRow) → Hand (Some h) → Steady count wide (h.items ++ v_owed P h)
    steady-finished h a = steady-more meaning count wide sized h.items (v_owed P h) a.steady (hand-wide (Some h) a) (few-v_owed h)

    pub fine-finished : (h : OpenRow) → Hand (Some h) → all_fine meaning (h.items ++ v_owed P h) ≡ true
    fine-finished h a = all-append (fine meaning) h.items (v_owed P h) a.fine (few-v_owed h).fine

    pub sure-finished : (h : OpenRow) → Hand (Some h) → Sure (h.done ++ finished P h ∷ [])
    sure-finished h a = sure-append h.done (finished P h ∷ []) a.sure (record {
      fine = ap (all_fine meaning) (append-nil (h.items ++ v_owed P h)) ∙ fine-finished h a;
      steady = all_steady-one meaning count wide (finished P h) (steady-finished h a);
    })
