-- What a width that can be had keeps to. Assumes nothing.
use Rattle.std.proofs.Common.{◌≡◌, ℕ, ◌<◌, ◌≤◌, ◌⊎◌, Bool, true, cond, ◌&&◌, ◌||◌, nat_lt, ℤ, pos, negsuc, ◌+ℤ◌, ◌-ℤ◌, ◌≤ℤ◌, Some, None, Option, refl, sym, ◌∙◌, ⊎_elim, inl, inr, arith}
use Rattle.std.specs.Prelude.{int_le}
use Rattle.std.proofs.lemmas.Int.{ints}
use Rattle.std.proofs.lemmas.Bool.{and_parts, or_cases, cases_Bool, cond-true, cond-false, ltb-true}
use Rattle.std.proofs.lemmas.Option.{none-some}
use Rattle.lengths.specs.Gaps.{Parts}
use Rattle.sharing.specs.declared.Aim.{Aim}
use Rattle.sharing.specs.Gaps.{upward, all_sharers}
use Rattle.sharing.specs.Columns.{natural_width, aimed, attainable, width_set, surplus}

-- a natural width n can be set to t
pub record Attains (n t : ℤ) (s : ℕ) : Type 0 where
  pub least : pos 0 ≤ℤ n
  pub up : n ≤ℤ t
  pub most : t ≤ℤ pos 1073741823
  pub stretches : (0 < s) ⊎ (t ≤ℤ n)

int_le-holds : (a b : ℤ) → int_le a b ≡ true → a ≤ℤ b
int_le-holds a b h = grind (arith, ints)

pub attains : (n t : ℤ) (s : ℕ) → attainable n t s ≡ true → Attains n t s
attains n t s h =
    let a = and_parts (int_le (pos 0) n) (int_le n t && (int_le t (pos 1073741823) && (int_le t n || nat_lt 0 s))) h in
    let b = and_parts (int_le n t) (int_le t (pos 1073741823) && (int_le t n || nat_lt 0 s)) a.1 in
    let d = and_parts (int_le t (pos 1073741823)) (int_le t n || nat_lt 0 s) b.1 in
    record {
      least = int_le-holds (pos 0) n a.0;
      up = int_le-holds n t b.0;
      most = int_le-holds t (pos 1073741823) d.0;
      stretches = ⊎_elim (λ x. inr (int_le-holds t n x)) (λ y. inl (ltb-true 0 s y)) (or_cases (int_le t n) (nat_lt 0 s) d.1);
    }

upward-is : (z : ℤ) → pos 0 ≤ℤ z → pos (upward z) ≡ z
upward-is (pos n) h = refl
upward-is (negsuc n) h = absurd (omega (arith, ints))

-- a choice that gives something was taken
cond-some : (b : Bool) (x t : ℤ) → cond b (Some x) None ≡ Some t → (b ≡ true) × (t ≡ x)
cond-some b x t h = ⊎_elim
    (λ yes. let e = cond-true b (Some x) None yes in (yes, cc))
    (λ no. absurd (none-some t (sym (cond-false b (Some x) None no) ∙ h)))
    (cases_Bool b)

module _ (w : ℕ → Option ℤ) (g : ℕ → Parts) (n : ℕ) (a : Aim) (t : ℤ) (is : width_set w g n a ≡ Some t) where
  pub aimed-at : t ≡ aimed a (natural_width w g n)
  aimed-at = (cond-some (attainable (natural_width w g n) (aimed a (natural_width w g n)) (all_sharers w g n)) (aimed a (natural_width w g n)) t is).1

  pub aim-attains : Attains (natural_width w g n) (aimed a (natural_width w g n)) (all_sharers w g n)
  aim-attains = attains (natural_width w g n) (aimed a (natural_width w g n)) (all_sharers w g n)
      (cond-some (attainable (natural_width w g n) (aimed a (natural_width w g n)) (all_sharers w g n)) (aimed a (natural_width w g n)) t is).0

  pub surplus-over : aimed a (natural_width w g n) ≡ natural_width w g n +ℤ pos (surplus w g n a)
  surplus-over =
      let u = aim-attains.up in
      let b = upward-is (aimed a (natural_width w g n) -ℤ natural_width w g n) (omega (arith, ints)) in
      omega (arith, ints)

  pub surplus-spent : (0 < all_sharers w g n) ⊎ (surplus w g n a ≡ 0)
  surplus-spent = ⊎_elim
      (λ some. inl some)
      (λ (le : aimed a (natural_width w g n) ≤ℤ natural_width w g n). inr (let b = surplus-over in omega (arith, ints)))
      aim-attains.stretches

  pub surplus-small : surplus w g n a ≤ 1073741823
  surplus-small = let x = aim-attains.least in let y = aim-attains.most in let b = surplus-over in omega (arith, ints)
