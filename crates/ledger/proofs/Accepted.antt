-- What a verdict that refuses nothing says.
use Rattle.std.proofs.Common.{◌≡◌, ℕ, ◌<◌, Bool, true, false, cond, not, eqb, List, ◌∷◌, ℤ, Some, None, Ok, Err, Option, Result, refl, arith, eqb-true}
use Rattle.std.proofs.lemmas.Int.{ints}
use Rattle.faults.specs.declared.Fault.{Fault}
use Rattle.extent.specs.Sizes.{Within}
use Rattle.measure.specs.Asked.{measured_by}
use Rattle.lengths.specs.Gaps.{natural_fits}
use Rattle.ledger.specs.Refusals.{out_of_range}
use Rattle.ledger.specs.Ledger.{Item, cell_word, template_word, space, kern, hfil, OpenRow}
use Rattle.ledger.specs.Calls.{first_of, when, fresh_at, begun_at}
use Rattle.ledger.specs.Naturals.{out_z, beyond, fault_in, item_fault}
use Rattle.ledger.specs.Lawful.{fine}
use Rattle.ledger.proofs.Beyonds.{beyond-not}
use Rattle.std.specs.Result.{is_ok}

-- each test passes, and those after it
pub passes : (o : Option Fault) (os : List (Option Fault)) → first_of (o ∷ os) ≡ None → (o ≡ None) × (first_of os ≡ None)
passes None os e = (refl, e)
passes (Some f) os e = cc

pub passes-when : (b : Bool) (f : Fault) (os : List (Option Fault)) → first_of (when b f ∷ os) ≡ None → (b ≡ false) × (first_of os ≡ None)
passes-when true f os e = cc
passes-when false f os e = (refl, e)

pub passes-unless : (b : Bool) (f : Fault) (os : List (Option Fault)) → first_of (when (not b) f ∷ os) ≡ None → (b ≡ true) × (first_of os ≡ None)
passes-unless true f os e = (refl, e)
passes-unless false f os e = cc

test-not : (b : Bool) (f : Fault) → when (not b) f ≡ None → b ≡ true
test-not true f e = refl
test-not false f e = cc

-- a width is in its range
pub not-out : (z : ℤ) → out_z z ≡ false → Within 1073741823 z
not-out z h = (grind (arith, ints), grind (arith, ints))

pub not-beyond : (count k : ℕ) (f : ℕ → ℤ) → k < count → beyond count f ≡ false → Within 1073741823 (f k)
not-beyond count k f lt e = not-out (f k) (beyond-not count k f lt e)

-- a cell that is fresh, or begun
unbegun : (b x : Bool) → cond b false x ≡ true → b ≡ false
unbegun true x e = cc
unbegun false x e = refl

same_column : (b x : Bool) → cond b false x ≡ true → x ≡ true
same_column true x e = cc
same_column false x e = e

begun : (b x : Bool) → cond b x false ≡ true → b ≡ true
begun true x e = refl
begun false x e = cc

pub fresh-unbegun : (c : ℕ) (h : OpenRow) → fresh_at c (Some h) ≡ true → h.begun ≡ false
fresh-unbegun c h e = unbegun h.begun (eqb h.column c) e

pub fresh-column : (c : ℕ) (h : OpenRow) → fresh_at c (Some h) ≡ true → h.column ≡ c
fresh-column c h e = eqb-true h.column c (same_column h.begun (eqb h.column c) e)

pub begun-is : (c : ℕ) (h : OpenRow) → begun_at c (Some h) ≡ true → h.begun ≡ true
begun-is c h e = begun h.begun (eqb h.column c) e

-- an item with nothing wrong is one that a table may have
fault_none : {X : Type 0} (r : Result X Fault) → fault_in r ≡ None → is_ok r ≡ true
fault_none (Ok x) e = refl
fault_none (Err f) e = cc

-- a word of a template is put by no call
abbrev pub OfCell : Item → Type 0
OfCell (cell_word w) = Unit {0}
OfCell (template_word a w) = ⊥
OfCell space = Unit {0}
OfCell (kern z) = Unit {0}
OfCell hfil = Unit {0}

pub faultless-fine : {X : Type 0} (meaning : List ℕ → Result X ℕ) (a : Item) → OfCell a → item_fault meaning a ≡ None → fine meaning a ≡ true
faultless-fine meaning (cell_word w) c e = fault_none (measured_by meaning w) e
faultless-fine meaning (template_word a w) c e = absurd c
faultless-fine meaning space c e = refl
faultless-fine meaning (kern z) c e = test-not (natural_fits z) out_of_range e
faultless-fine meaning hfil c e = refl
