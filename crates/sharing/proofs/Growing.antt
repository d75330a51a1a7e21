-- What the growth of gaps keeps to. Assumes nothing.
use Rattle.std.proofs.Common.{◌≡◌, ℕ, zero, suc, ◌+◌, ◌<◌, ◌⊎◌, ℤ, pos, ◌+ℤ◌, ap, ◌∙◌, ⊎_elim, arith}
use Rattle.std.proofs.lemmas.Int.{ints}
use Rattle.widths.specs.Formula.{between}
use Rattle.widths.proofs.Sums.{between_none, between_more}
use Rattle.sharing.specs.Rule.{portion}
use Rattle.sharing.specs.Gaps.{sum_to, growth}
use Rattle.sharing.specs.Laws.{Shares}
use Rattle.sharing.proofs.Rules.{portion-none, portion-all, portion_mono, portion-le}
use Rattle.sharing.proofs.Sums.{sum_to-none, sum_to-suc, sum_to_mono}

-- none get nothing, ..
pub given-none : (e all : ℕ) (s : ℕ → ℕ) → portion e (sum_to s 0) all ≡ 0
given-none e all s = ap (λ p. portion e p all) (sum_to-none s) ∙ portion-none e all

-- .. and each gap adds its growth to what was given before
pub given-more : (e all : ℕ) (s : ℕ → ℕ) (k : ℕ) → portion e (sum_to s (suc k)) all ≡ portion e (sum_to s k) all + growth e s all k
given-more e all s k = let a = portion_mono e (sum_to s k) (sum_to s (suc k)) all (sum_to_mono s k (suc k) (omega arith)) in omega arith

-- a gap without stretch gains nothing
pub growth-none : (e all : ℕ) (s : ℕ → ℕ) (k : ℕ) → s k ≡ 0 → growth e s all k ≡ 0
growth-none e all s k nil =
    let a = sum_to-suc s k in
    let same : sum_to s (suc k) ≡ sum_to s k = omega arith in
    let p = ap (λ q. portion e q all) same in
    omega arith

-- all get the surplus, if any stretches
pub given-all : (e all : ℕ) → (0 < all) ⊎ (e ≡ 0) → portion e all all ≡ e
given-all e all h = ⊎_elim
    (λ some. portion-all e all some)
    (λ nil. let a = portion-le e all all (omega arith) in omega arith)
    h

module _ (e n : ℕ) (old set : ℕ → ℤ) (s : ℕ → ℕ) (is : (k : ℕ) → set k ≡ old k +ℤ pos (growth e s (sum_to s (suc n)) k)) where
  gaps-together : (k : ℕ) → between set 0 k ≡ between old 0 k +ℤ pos (portion e (sum_to s k) (sum_to s (suc n)))
  gaps-together zero =
      let a = between_none set 0 in
      let b = between_none old 0 in
      let c = given-none e (sum_to s (suc n)) s in
      omega (arith, ints)
  gaps-together (suc k) =
      let a = between_more set 0 k (omega arith) in
      let b = between_more old 0 k (omega arith) in
      let c = gaps-together k in
      let d = is k in
      let m = given-more e (sum_to s (suc n)) s k in
      omega (arith, ints)

  pub gaps-shared : Shares e n old set s
  gaps-shared = record {
    grows = λ k le. let a = is k in omega (arith, ints);
    only = λ k le nil. let a = is k in let b = growth-none e (sum_to s (suc n)) s k nil in omega (arith, ints);
    together = λ k le. gaps-together (suc k);
    all = λ h. let a = gaps-together (suc n) in let b = given-all e (sum_to s (suc n)) h in omega (arith, ints);
  }
