-- A row that there is no room for. Assumes nothing.
use Rattle.std.proofs.Common.{◌≡◌, ℕ, ◌<◌, Bool, true, false, List, [], ◌∷◌, ℤ, pos, ◌+ℤ◌, Option, None, Some, Ok, Err, Result, refl, sym, ap, ◌∙◌, arith}
use Rattle.std.proofs.lemmas.Int.{ints}
use Rattle.faults.specs.declared.Fault.{Fault}
use Rattle.ledger.specs.declared.records.Room.{Room}
use Rattle.ledger.specs.Refusals.{entry_wide}
use Rattle.ledger.specs.Ledger.{Item, Ledger}
use Rattle.ledger.specs.Calls.{Template, template_at, first_of, when, opened}
use Rattle.ledger.specs.Naturals.{beyond, natural, start_verdict}
use Rattle.ledger.proofs.Beyonds.{beyond-same, natural-none}
use Rattle.rows.specs.Answers.{unless}
use Rattle.lines.specs.declared.acts.Opening.{Opening}
use Rattle.lines.specs.declared.acts.Opening.TheVariants as opening
use Rattle.lines.specs.Lines.{Act, moved_to, started, too_wide, the_fault, crowded_act, crowded_by}
use Rattle.lines.specs.Steps.{lead_in, unmeant}

when-first : (b : Bool) (f : Fault) → first_of (when b f ∷ []) ≡ when b f
when-first true f = refl
when-first false f = refl

-- u, nothing and v
abbrev pub Bare : ℕ → (ℕ → ℤ) → (Item → ℕ → ℤ) → List Template → Bool
Bare count none wide P = beyond count (λ k. (natural wide (template_at P 0).u k +ℤ none k) +ℤ natural wide (template_at P 0).v k)

-- the fault, by whether u and v exceed, and why the first item does
abbrev pub crowd : ℕ → Fault → Bool → Option Fault → Fault
crowd place full b w = moved_to place (the_fault {X = ℕ} [] unmeant [] 0 (λ i k. pos 0) (record { items = 0; entries = 0; lines = 0; text = 0 }) (first_of (when b entry_wide ∷ w ∷ [])) full)

module _ (text : List ℕ) (P : List Template) (count : ℕ) (wide : Item → ℕ → ℤ) (m : Room) (g : Ledger) (place : ℕ) (full : Fault) (none : ℕ → ℤ) (zero : (k : ℕ) → k < count → none k ≡ pos 0) where
  first-wide : when (Bare count none wide P) entry_wide ≡ start_verdict count wide P (opened g) 0
  first-wide =
      let U : ℕ → ℤ = λ k. natural wide (template_at P 0).u k in
      let V : ℕ → ℤ = λ k. natural wide (template_at P 0).v k in
      ap (λ (b : Bool). when b entry_wide) (beyond-same count (λ k. (U k +ℤ none k) +ℤ V k) (λ k. (natural wide [] k +ℤ U k) +ℤ V k) (λ k kc. let z = zero k kc in let e = natural-none wide k in omega (arith, ints)))
      ∙ sym (when-first (beyond count (λ k. (natural wide [] k +ℤ U k) +ℤ V k)) entry_wide)

  pub crowded-is : (b : Bool) (w : Option Fault) (a : Act) → b ≡ Bare count none wide P → w ≡ too_wide text unmeant P count wide m (started P (opened g)) a → crowd place full b w ≡ crowded_act text unmeant P count wide m full g place (Ok a)
  crowded-is b w a e f =
      ap (λ (x : Bool). crowd place full x w) e
      ∙ ap (λ (x : Option Fault). moved_to place (the_fault text unmeant P count wide m (first_of (x ∷ w ∷ [])) full)) first-wide
      ∙ ap (λ (x : Option Fault). moved_to place (the_fault text unmeant P count wide m (first_of (start_verdict count wide P (opened g) 0 ∷ x ∷ [])) full)) f

-- of a token that is not \omit
module _ {X : Type 0} (text : List ℕ) (meaning : List ℕ → Result X ℕ) (P : List Template) (count : ℕ) (wide : Item → ℕ → ℤ) (m : Room) (full : Fault) (g : Ledger) (place : ℕ) where
  pub crowded-same : (a : Act) → crowded_act text unmeant P count wide m full g place (Ok a) ≡ crowded_act text meaning P count wide m full g place (Ok a)
  crowded-same a = refl

  pub crowded-lead : (o : Opening) (a : Result Act Fault) → (o ≡ opening.Omit → ⊥) → crowded_act text meaning P count wide m full g place a ≡ crowded_by text meaning P count wide m (lead_in o) full g place a
  crowded-lead opening.Space a never = refl
  crowded-lead opening.Omit a never = absurd (never refl)
  crowded-lead opening.Other a never = refl

-- a verdict that an answer tells
pub none-verdict : (v : Option Fault) → ◌≡◌ {A = Result (Unit {0}) Fault} (Ok tt) (unless v tt) → None ≡ v
none-verdict None e = refl
none-verdict (Some f) e = cc

pub some-verdict : (v : Option Fault) (f : Fault) → ◌≡◌ {A = Result (Unit {0}) Fault} (Err f) (unless v tt) → Some f ≡ v
some-verdict None f e = cc
some-verdict (Some g) f e = let same : f ≡ g = cc in ap Some same
