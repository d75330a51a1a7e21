-- The order that shares. Assumes nothing.
use Rattle.std.proofs.Common.{ℕ, ◌<◌, ◌≤◌, cond, nat_lt, arith}
use Rattle.std.proofs.lemmas.Bool.{cond_both, ltb-true, ltb-false}
use Rattle.lengths.specs.declared.order.Order.{Order}
use Rattle.lengths.specs.declared.order.Order.TheVariants.{Points, Fil, Fill, Filll}
use Rattle.sharing.specs.Gaps.{rank, highest}
use Rattle.sharing.specs.Laws.{Highest}

module _ (t : Order → ℕ) where
  third-above : (p : Order) → rank p ≤ 3
  third-above Points = omega arith
  third-above Fil = omega arith
  third-above Fill = omega arith
  third-above Filll = omega arith

  second-above : t Filll ≤ 0 → (p : Order) → 0 < t p → rank p ≤ 2
  second-above none Points some = omega arith
  second-above none Fil some = omega arith
  second-above none Fill some = omega arith
  second-above none Filll some = absurd (omega arith)

  first-above : t Filll ≤ 0 → t Fill ≤ 0 → (p : Order) → 0 < t p → rank p ≤ 1
  first-above none nor Points some = omega arith
  first-above none nor Fil some = omega arith
  first-above none nor Fill some = absurd (omega arith)
  first-above none nor Filll some = absurd (omega arith)

  points-above : t Filll ≤ 0 → t Fill ≤ 0 → t Fil ≤ 0 → (p : Order) → 0 < t p → (rank p ≤ 0) × (0 < t Points)
  points-above none nor third Points some = (omega arith, some)
  points-above none nor third Fil some = absurd (omega arith)
  points-above none nor third Fill some = absurd (omega arith)
  points-above none nor third Filll some = absurd (omega arith)

  pub order-highest : Highest t (highest t)
  order-highest = cond_both (nat_lt 0 (t Filll)) Filll (cond (nat_lt 0 (t Fill)) Fill (cond (nat_lt 0 (t Fil)) Fil Points)) (Highest t)
      (λ yes. record { any = λ p some. ltb-true 0 (t Filll) yes; above = λ p some. third-above p })
      (λ no. let none = ltb-false 0 (t Filll) no in
      cond_both (nat_lt 0 (t Fill)) Fill (cond (nat_lt 0 (t Fil)) Fil Points) (Highest t)
      (λ yes. record { any = λ p some. ltb-true 0 (t Fill) yes; above = λ p some. second-above none p some })
      (λ no. let nor = ltb-false 0 (t Fill) no in
      cond_both (nat_lt 0 (t Fil)) Fil Points (Highest t)
      (λ yes. record { any = λ p some. ltb-true 0 (t Fil) yes; above = λ p some. first-above none nor p some })
      (λ no. let third = ltb-false 0 (t Fil) no in
      record { any = λ p some. (points-above none nor third p some).1; above = λ p some. (points-above none nor third p some).0 })))
