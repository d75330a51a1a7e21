-- The laws of a portion, from which all else follows. Assumes nothing.
use Rattle.std.proofs.Common.{◌≡◌, ℕ, zero, suc, ◌*◌, ◌/◌, ◌≤◌, refl, mul-le-mul, arith}
use Rattle.std.proofs.Math.Nat.{div-le_self, div-mul-le_self, div-zero, mul-div_cancel}
use Rattle.std.proofs.lemmas.Nat.{le-div}
use Rattle.sharing.specs.Rule.{portion, PortionOfNone, PortionOfAll, PortionNeverFalls, PortionAmongNone, PortionSamples}

pub portion-is : (e p s : ℕ) → e * p / s ≡ portion e p s
unfolding portion
portion-is e p s = refl

pub portion-among_none : PortionAmongNone
unfolding portion
portion-among_none e p = div-zero (e * p)

pub portion-none : PortionOfNone
unfolding portion
portion-none e s = let a = div-le_self 0 s in omega (arith)

pub portion-all : PortionOfAll
unfolding portion
portion-all e s h = mul-div_cancel e h

pub portion_mono : PortionNeverFalls
unfolding portion
portion_mono e p q zero h = let a = div-zero (e * p) in omega (arith)
portion_mono e p q (suc s) h =
    let a = div-mul-le_self (e * p) (suc s) in
    let b : e * p ≤ e * q = mul-le-mul (omega arith) h in
    le-div (e * p / suc s) (e * q) (suc s) (omega arith) (omega (arith))

-- a part gets at most all
pub portion-le : (e p s : ℕ) → p ≤ s → portion e p s ≤ e
portion-le e p zero h = let a = portion-among_none e p in omega arith
portion-le e p (suc s) h = let a = portion-all e (suc s) (omega arith) in let b = portion_mono e p (suc s) (suc s) h in omega arith

pub portion-samples : PortionSamples
unfolding portion
portion-samples = (refl, refl, refl, refl)
