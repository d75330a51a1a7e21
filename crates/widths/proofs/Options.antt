-- Laws of numbers that may be missing. Assumes nothing.
use Rattle.std.proofs.Common.{◌≡◌, ℤ, pos, ◌+ℤ◌, ◌-ℤ◌, ◌≤ℤ◌, Some, None, Option, sym, refl, ap, ◌∙◌, arith}
use Rattle.std.specs.Int.{int_max}
use Rattle.std.proofs.lemmas.Int.{ints, clamps, by_lt_z}
use Rattle.std.proofs.lemmas.Option.{none-some}
use Rattle.widths.specs.Merging.{less, join, counted}
use Rattle.widths.specs.Settling.{instead}

max_less : (a b z : ℤ) → int_max a b -ℤ z ≡ int_max (a -ℤ z) (b -ℤ z)
max_less a b z = omega (arith, ints, clamps)

max_assoc : (a b c : ℤ) → int_max a (int_max b c) ≡ int_max (int_max a b) c
max_assoc a b c = omega (arith, ints, clamps)

pub less-join : (a b : Option ℤ) (z : ℤ) → less (join a b) z ≡ join (less a z) (less b z)
less-join (Some a) (Some b) z = ap Some (max_less a b z)
less-join (Some a) None z = refl
less-join None b z = refl

pub less-less : (a : Option ℤ) (y z : ℤ) → less (less a y) z ≡ less a (y +ℤ z)
less-less (Some a) y z = ap Some (omega (arith, ints))
less-less None y z = refl

pub less_zero : (a : Option ℤ) → less a (pos 0) ≡ a
less_zero (Some a) = ap Some (omega (arith, ints))
less_zero None = refl

pub join-assoc : (a b c : Option ℤ) → join a (join b c) ≡ join (join a b) c
join-assoc (Some a) (Some b) (Some c) = ap Some (max_assoc a b c)
join-assoc (Some a) (Some b) None = refl
join-assoc (Some a) None c = refl
join-assoc None b c = refl

pub join-none : (a : Option ℤ) → join a None ≡ a
join-none (Some a) = refl
join-none None = refl

-- a larger-of is one of the two
pub join-from : {P : Type 0} (a b : Option ℤ) (z : ℤ) → join a b ≡ Some z → (a ≡ Some z → P) → (b ≡ Some z → P) → P
join-from (Some a) (Some b) z e l r = by_lt_z b a
    (λ lt. l (ap Some (let m : int_max a b ≡ z = cc in let k : int_max a b ≡ a = omega (arith, ints, clamps) in cc)))
    (λ ge. r (ap Some (let m : int_max a b ≡ z = cc in let k : int_max a b ≡ b = omega (arith, ints, clamps) in cc)))
join-from (Some a) None z e l r = l e
join-from None b z e l r = r e

-- a number that is there and reaches x
pub record Above (x : ℤ) (o : Option ℤ) : Type 0 where
  pub top : ℤ
  pub is : o ≡ Some top
  pub reaches : x ≤ℤ top

pub join-above_left : (x : ℤ) (a b : Option ℤ) → Above x a → Above x (join a b)
join-above_left x (Some a) (Some b) h = let e : a ≡ h.top = let i = h.is in cc in let r = h.reaches in record { top = int_max a b; is = refl; reaches = omega (arith, ints, clamps) }
join-above_left x (Some a) None h = h
join-above_left x None b h = absurd (none-some h.top h.is)

pub join-above_right : (x : ℤ) (a b : Option ℤ) → Above x b → Above x (join a b)
join-above_right x (Some a) (Some b) h = let e : b ≡ h.top = let i = h.is in cc in let r = h.reaches in record { top = int_max a b; is = refl; reaches = omega (arith, ints, clamps) }
join-above_right x (Some a) None h = absurd (none-some h.top h.is)
join-above_right x None b h = h

pub above-some : (x : ℤ) (o : Option ℤ) → Above x o → o ≡ None → ⊥
above-some x o h e = none-some h.top (sym e ∙ h.is)

pub by-option : {P : Type 0} (o : Option ℤ) → ((z : ℤ) → o ≡ Some z → P) → (o ≡ None → P) → P
by-option (Some z) s n = s z refl
by-option None s n = n refl

-- the number that a lessened one comes from
pub less-from : {P : Type 0} (o : Option ℤ) (y z : ℤ) → less o y ≡ Some z → ((e : ℤ) → o ≡ Some e → e ≡ z +ℤ y → P) → P
less-from (Some e) y z h go = go e refl (let k : e -ℤ y ≡ z = cc in omega (arith, ints))
less-from None y z h go = absurd (none-some z h)

-- voidness is all that a gap's count asks of a width
pub counted-instead : (o : Option ℤ) (z g : ℤ) → counted (instead o z) g ≡ counted o g
counted-instead (Some w) z g = refl
counted-instead None z g = refl
