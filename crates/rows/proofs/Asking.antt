-- Entries that are laid, as ask takes them. Assumes nothing.
use Rattle.std.proofs.Common.{◌≡◌, ℕ, suc, ◌*◌, ◌<◌, ◌≤◌, Bool, true, cond, List, [], ◌∷◌, map, length, get_or, take, ℤ, Some, None, Ok, Option, sym, refl, ap, ◌∙◌, subst, arith}
use Rattle.std.proofs.lemmas.List.{get_or-take, length-take}
use Rattle.std.specs.List.{AllByRecursion}
use Rattle.std.proofs.lemmas.Bool.{and_from, le-leb, lt-ltb}
use Rattle.std.proofs.lemmas.Bool.Decides.{nat_tests}
use Rattle.spans.specs.declared.table.Misfit.{Misfit}
use Rattle.spans.specs.declared.table.Misfit.TheVariants.{Span}
use Rattle.extent.specs.Sizes.{Within}
use Rattle.widths.specs.declared.Entry.{Entry as Sized}
use Rattle.widths.specs.Entries.{on_side, widest, Proper}
use Rattle.widths.specs.Merging.{width}
use Rattle.widths.specs.Settling.{Settled}
use Rattle.widths.proofs.Settles.{merging_settles}
use Rattle.ledger.specs.Ledger.{Item}
use Rattle.ledger.specs.Calls.{laid_entries}
use Rattle.ledger.specs.Naturals.{natural_by}
use Rattle.rows.specs.Columns.{columns_in}
use Rattle.rows.specs.declared.state.Memory.{Memory}
use Rattle.rows.specs.declared.state.State.{State}
use Rattle.rows.specs.declared.preamble.Preamble.{Preamble}
use Rattle.rows.specs.Good.{ledger_of}
use Rattle.spans.specs.Refusals.{merge_fault, settle_fault, all_lie, lie, unless, or_else}
use Rattle.rows.specs.declared.state.EntryRecord.{EntryRecord}
use Rattle.rows.specs.Sound.{Sound, Lies, span_of, stored_by}

pub sides-stored : {E : Type 0} (num : E → ℕ → ℤ) (k : ℕ) (rs : List (EntryRecord E)) → on_side num k (map span_of rs) ≡ map (stored_by num k) rs
sides-stored num k [] = refl
sides-stored num k (r ∷ rs) = ap (λ (x : List (Sized ℤ)). stored_by num k r ∷ x) (sides-stored num k rs)

pub all_lie_lem : {E : Type 0} (n : ℕ) (rs : List (EntryRecord E)) → AllByRecursion (Lies n) rs → all_lie n (map span_of rs) ≡ true
all_lie_lem n [] h = refl
all_lie_lem n (r ∷ rs) h = and_from (lie n (span_of r)) (all_lie n (map span_of rs)) (and_from _ _ (le-leb r.entry.first r.entry.last h.0.0) (lt-ltb r.entry.last n h.0.1)) (all_lie_lem n rs h.1)

free : (n room widths gaps : ℕ) → 1 ≤ n → n ≤ 32 → n * 32 ≤ room → n ≤ widths → n < gaps → merge_fault n room widths gaps ≡ None
free n room widths gaps a b c d e = grind (arith, nat_tests)

pub asks-fine : {E : Type 0} (n room widths gaps : ℕ) (rs : List (EntryRecord E)) → 1 ≤ n → n ≤ 32 → 1024 ≤ room → 32 ≤ widths → n < gaps → AllByRecursion (Lies n) rs
    → unless {X = Unit {0}} (settle_fault n room widths gaps (map span_of rs)) tt ≡ Ok tt
asks-fine n room widths gaps rs a b c d e h =
    ap (λ (o : Option Misfit). unless {X = Unit {0}} (or_else o (cond (all_lie n (map span_of rs)) None (Some Span))) tt) (free n room widths gaps a b (omega arith) (omega arith) e)
    ∙ ap (λ (x : Bool). unless {X = Unit {0}} (cond x None (Some Span)) tt) (all_lie_lem n rs h)

pub tame_entries : {E : Type 0} (num : E → ℕ → ℤ) (k b : ℕ) (rs : List (EntryRecord E)) → AllByRecursion (λ r. Within b (num r.entry.width k)) rs → AllByRecursion (λ e. Within b e.width) (on_side num k (map span_of rs))
tame_entries num k b [] h = tt
tame_entries num k b (r ∷ rs) h = (h.0, tame_entries num k b rs h.1)

all_of : {X : Type 0} (P : X → Type 0) (xs : List X) → ((i : ℕ) (d : X) → i < length xs → P (get_or xs i d)) → AllByRecursion P xs
all_of P [] h = tt
all_of P (x ∷ xs) h = (h 0 x (omega arith), all_of P xs (λ i d lt. h (suc i) d (omega arith)))

-- what holds of each laid record holds of the list of them
pub all_laid : {X : Type 0} (P : X → Type 0) (n : ℕ) (xs : List X) → ((i : ℕ) (d : X) → i < n → P (get_or xs i d)) → AllByRecursion P (take n xs)
all_laid P n xs h = all_of P (take n xs) (λ i d lt. let l = length-take n xs in let b : i < n = omega arith in subst P (sym (get_or-take n xs i d b)) (h i d b))

proper-stored : {E : Type 0} (num : E → ℕ → ℤ) (k n : ℕ) (rs : List (EntryRecord E)) → AllByRecursion (Lies n) rs → Proper n (map (stored_by num k) rs)
proper-stored num k n [] h = tt
proper-stored num k n (r ∷ rs) h = (h.0, proper-stored num k n rs h.1)

within-stored : {E : Type 0} (num : E → ℕ → ℤ) (k b : ℕ) (rs : List (EntryRecord E)) → AllByRecursion (λ r. Within b (num r.entry.width k)) rs → AllByRecursion (λ e. Within b e.width) (map (stored_by num k) rs)
within-stored num k b [] h = tt
within-stored num k b (r ∷ rs) h = (h.0, within-stored num k b rs h.1)

module _ {E : Type 0} (count : ℕ) (num : E → ℕ → ℤ) (wide : Item → ℕ → ℤ) (q : Preamble E) (s : State E) (m : Memory E) (sound : Sound count num wide q s m) (k : ℕ) (kc : k < count) where
  -- the ledger's laid entries lie in the columns, and none is wide
  pub sound-proper : Proper (length (columns_in q.columns.now)) (map (natural_by wide k) (laid_entries (ledger_of q s m)))
  sound-proper =
      let n = length (columns_in q.columns.now) in
      subst (λ (xs : List (Sized ℤ)). Proper n xs) (sound.laid k kc) (proper-stored num k n (take s.laid.entries m.entries.now) (all_laid (Lies n) s.laid.entries m.entries.now sound.lies))

  pub sound-within : AllByRecursion (λ e. Within 1073741823 e.width) (map (natural_by wide k) (laid_entries (ledger_of q s m)))
  sound-within = subst (λ (xs : List (Sized ℤ)). AllByRecursion (λ e. Within 1073741823 e.width) xs) (sound.laid k kc)
      (within-stored num k 1073741823 (take s.laid.entries m.entries.now) (all_laid (λ (r : EntryRecord E). Within 1073741823 (num r.entry.width k)) s.laid.entries m.entries.now (λ t d lt. sound.sized k t d kc lt)))

-- whatever are the widths that the ledger's laid entries merge to are settled
pub sound-settles_to : {E : Type 0} (count : ℕ) (num : E → ℕ → ℤ) (wide : Item → ℕ → ℤ) (q : Preamble E) (s : State E) (m : Memory E) → Sound count num wide q s m → length (columns_in q.columns.now) ≤ 32
    → (start : ℤ) (g : ℕ → ℤ) → Within 16777215 start → ((j : ℕ) → Within 16777215 (g j)) → (k : ℕ) → k < count
    → (w : ℕ → Option ℤ) → ((j : ℕ) → j < length (columns_in q.columns.now) → w j ≡ width (widest (map (natural_by wide k) (laid_entries (ledger_of q s m)))) g j)
    → Settled (map (natural_by wide k) (laid_entries (ledger_of q s m))) start g (length (columns_in q.columns.now)) w
sound-settles_to count num wide q s m sound few start g a b k kc w same =
    merging_settles (map (natural_by wide k) (laid_entries (ledger_of q s m))) start g (length (columns_in q.columns.now)) w few
    (sound-proper count num wide q s m sound k kc)
    (record { entries = sound-within count num wide q s m sound k kc; starting = a; gaps = b })
    same

-- .. so those widths are
pub sound-settles : {E : Type 0} (count : ℕ) (num : E → ℕ → ℤ) (wide : Item → ℕ → ℤ) (q : Preamble E) (s : State E) (m : Memory E) → Sound count num wide q s m → length (columns_in q.columns.now) ≤ 32
    → (start : ℤ) (g : ℕ → ℤ) → Within 16777215 start → ((j : ℕ) → Within 16777215 (g j)) → (k : ℕ) → k < count
    → Settled (map (natural_by wide k) (laid_entries (ledger_of q s m))) start g (length (columns_in q.columns.now)) (width (widest (map (natural_by wide k) (laid_entries (ledger_of q s m)))) g)
sound-settles count num wide q s m sound few start g a b k kc =
    sound-settles_to count num wide q s m sound few start g a b k kc (width (widest (map (natural_by wide k) (laid_entries (ledger_of q s m)))) g) (λ j lt. refl)
