-- The groups of a number one by one. Assumes nothing.
use Rattle.std.proofs.Common.{◌≡◌, ℕ, zero, suc, ◌+◌, ◌/◌, ◌%◌, ◌^◌, ◌<◌, ◌≤◌, ltb, List, [], ◌∷◌, length, sym, refl, ap, ◌∙◌, ⊎_elim, pow-suc, arith}
use Rattle.std.proofs.lemmas.Bool.{cases_lt, cond-true, cond-false, lt-ltb, le-ltb}
use Rattle.boxlist.specs.Groups.{groups_by, groups_of}

-- enough turns are enough
turns : (f g n : ℕ) → n ≤ f → n ≤ g → groups_by f n ≡ groups_by g n
turns zero zero n p q = refl
turns zero (suc g) n p q = sym (cond-true (ltb n 128) _ _ (lt-ltb n 128 (omega arith)))
turns (suc f) zero n p q = cond-true (ltb n 128) _ _ (lt-ltb n 128 (omega arith))
turns (suc f) (suc g) n p q =
    ⊎_elim
    (λ small. let e = lt-ltb n 128 small in cond-true (ltb n 128) _ _ e ∙ sym (cond-true (ltb n 128) _ _ e))
    (λ large.
    let e = le-ltb n 128 large in
    cond-false (ltb n 128) _ _ e
    ∙ ap (λ (l : List ℕ). (n % 128 + 128) ∷ l) (turns f g (n / 128) (omega arith) (omega arith))
    ∙ sym (cond-false (ltb n 128) _ _ e))
    (cases_lt n 128)

pub groups_last : (n : ℕ) → n < 128 → groups_of n ≡ n ∷ []
unfolding groups_of
groups_last zero small = refl
groups_last (suc n) small = cond-true (ltb (suc n) 128) _ _ (lt-ltb (suc n) 128 small)

pub groups_more : (n : ℕ) → 128 ≤ n → groups_of n ≡ (n % 128 + 128) ∷ groups_of (n / 128)
unfolding groups_of
groups_more zero large = absurd (omega arith)
groups_more (suc n) large =
    cond-false (ltb (suc n) 128) _ _ (le-ltb (suc n) 128 large)
    ∙ ap (λ (l : List ℕ). (suc n % 128 + 128) ∷ l) (turns n (suc n / 128) (suc n / 128) (omega arith) (omega arith))

pub length-groups_last : (n : ℕ) → n < 128 → length (groups_of n) ≡ 1
length-groups_last n small = ap length (groups_last n small)

pub length-groups_more : (n : ℕ) → 128 ≤ n → length (groups_of n) ≡ length (groups_of (n / 128)) + 1
length-groups_more n large = ap length (groups_more n large) ∙ omega arith

-- a number of so many groups at most
pub length-groups_le : (k n : ℕ) → n < 128 ^ suc k → length (groups_of n) ≤ suc k
length-groups_le zero n h = omega (arith, length-groups_last)
length-groups_le (suc k) n h =
    ⊎_elim
    (λ small. omega (arith, length-groups_last))
    (λ large.
    let under : n / 128 < 128 ^ suc k = omega (arith, pow-suc 128 (suc k)) in
    omega (arith, length-groups_more n large, length-groups_le k (n / 128) under))
    (cases_lt n 128)
