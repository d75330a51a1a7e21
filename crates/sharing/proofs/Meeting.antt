-- Whatever width can be had is met. Assumes nothing.
use Rattle.std.proofs.Common.{◌≡◌, ℕ, ℤ, Some, Option, refl, ◌∙◌, arith}
use Rattle.std.proofs.lemmas.Int.{ints}
use Rattle.lengths.specs.Gaps.{Parts}
use Rattle.widths.specs.Formula.{natural}
use Rattle.sharing.specs.declared.Aim.{Aim}
use Rattle.sharing.specs.Gaps.{natural_at, whole_in, sharers, all_sharers, set_gap}
use Rattle.sharing.specs.Columns.{width_set, surplus, first_set, gaps_set}
use Rattle.sharing.specs.Laws.{SettingMeets}
use Rattle.sharing.proofs.Growing.{given-all, gaps-shared}
use Rattle.sharing.proofs.Voids.{natural-set, room-kept}
use Rattle.sharing.proofs.Orders.{order-highest}
use Rattle.sharing.proofs.Aims.{aimed-at, aim-attains, surplus-over, surplus-spent}

width-met : (w : ℕ → Option ℤ) (g : ℕ → Parts) (n : ℕ) (a : Aim) (t : ℤ) → width_set w g n a ≡ Some t → natural (first_set w g n a) w (gaps_set w g n a) n ≡ t
width-met w g n a t is =
    let x = natural-set w g n (surplus w g n a) n in
    let y = given-all (surplus w g n a) (all_sharers w g n) (surplus-spent w g n a t is) in
    let z = surplus-over w g n a t is in
    let v = aimed-at w g n a t is in
    omega (arith, ints)

pub settings-met : SettingMeets
settings-met w g n a t is =
    let v = aimed-at w g n a t is in
    let f = aim-attains w g n a t is in
    let m = f.most in
    let z = surplus-over w g n a t is in
    record {
      aimed_at = v;
      wide = f.least;
      over = v ∙ z;
      most = omega (arith, ints);
      order = order-highest (whole_in w g n);
      shares = gaps-shared (surplus w g n a) n (natural_at w g) (set_gap w g n (surplus w g n a)) (sharers w g n) (λ k. refl);
      spent = surplus-spent w g n a t is;
      meets = record {
        whole = width-met w g n a t is;
        holds = λ es proper holds. room-kept w g n (surplus w g n a) n es proper holds;
      };
    }
