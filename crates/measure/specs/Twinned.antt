-- Two measurers' answers together are in the ranges of each.
use Rattle.std.specs.Prelude.{◌≡◌, ℕ, ◌<◌, ℤ, Ok, Err, Result, ◌==◌, refl}
use Rattle.std.proofs.Common.{arith, ap, subst}
use Rattle.std.proofs.lemmas.Bool.{cond_both}
use Rattle.extent.specs.Sides.{pick}
use Rattle.extent.specs.Sizes.{Within}
use Rattle.extent.specs.declared.Plain.{Plain}
use Rattle.extent.specs.declared.Twin.{Twin}
use Rattle.measure.specs.declared.measurer.Metrics.{Metrics}
use Rattle.measure.specs.Ranges.{Upto}
use Rattle.measure.specs.Bounds.{Bounded, Spaced}
use Rattle.measure.specs.Twins.{both_sides, both_metrics, twin_meaning}

abbrev plain_num : Plain → ℕ → ℤ
plain_num e _ = e.strip

abbrev twin_num : Twin → ℕ → ℤ
twin_num e k = pick k e.strip e.window

picked : (P : ℤ → Type 0) (k : ℕ) (a b : ℤ) → P a → P b → P (pick k a b)
picked P k a b p q = cond_both (k == 0) a b P (λ _. p) (λ _. q)

both-bounded : (y z : Metrics Plain) → Bounded 1 plain_num y → Bounded 1 plain_num z → Bounded 2 twin_num (both_metrics y z)
both-bounded y z h g k l =
    let p = h 0 (omega arith) in
    let q = g 0 (omega arith) in
    (picked (Within 1073741823) k _ _ p.0 q.0, picked (Upto 16777215) k _ _ p.1 q.1, picked (Upto 16777215) k _ _ p.2 q.2)

pub twin-bounded : (a b : Result (Metrics Plain) ℕ) (x : Metrics Twin) → ((y : Metrics Plain) → a ≡ Ok y → Bounded 1 plain_num y) → ((y : Metrics Plain) → b ≡ Ok y → Bounded 1 plain_num y) → twin_meaning a b ≡ Ok x → Bounded 2 twin_num x
twin-bounded (Ok y) (Ok z) x h g e =
    let q : both_metrics y z ≡ x = cc in
    subst (Bounded 2 twin_num) q (both-bounded y z (h y refl) (g z refl))
twin-bounded (Ok y) (Err p) x h g e = cc
twin-bounded (Err p) b x h g e = cc

pub twin-spaced : (a b : Plain) → Spaced 1 plain_num a → Spaced 1 plain_num b → Spaced 2 twin_num (both_sides a b)
twin-spaced a b h g k l = picked (Upto 16777215) k _ _ (h 0 (omega arith)) (g 0 (omega arith))

pub twin-placed : (a b : Result (Metrics Plain) ℕ) (n p : ℕ) → ((q : ℕ) → a ≡ Err q → q < n) → ((q : ℕ) → b ≡ Err q → q < n) → twin_meaning a b ≡ Err p → p < n
twin-placed (Ok y) (Ok z) n p h g e = cc
twin-placed (Ok y) (Err q) n p h g e = let s : q ≡ p = cc in g p (ap Err s)
twin-placed (Err q) b n p h g e = let s : q ≡ p = cc in h p (ap Err s)
