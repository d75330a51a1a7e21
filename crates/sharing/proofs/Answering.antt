-- The code's answer is the one of the definition. Assumes nothing.
use Rattle.std.proofs.Common.{◌≡◌, ℕ, true, false, ℤ, ◌-ℤ◌, Some, None, Option, FitsSigned, w64, to_z, of_z, sym, ap, ◌∙◌, arith}
use Rattle.std.proofs.lemmas.Int.{ints, to_z-of_z}
use Rattle.std.proofs.lemmas.Bool.{cond-true, cond-false}
use Rattle.lengths.specs.Gaps.{Parts}
use Rattle.sharing.specs.declared.Aim.{Aim}
use Rattle.sharing.specs.Gaps.{upward, all_sharers}
use Rattle.sharing.specs.Columns.{natural_width, aimed, attainable, width_set, surplus}
use Rattle.sharing.proofs.Aims.{attains}

-- the width that the code aims at, and its test
target-is : (w : ℕ → Option ℤ) (g : ℕ → Parts) (n : ℕ) (a : Aim) (r t : ℤ) → FitsSigned w64 r → FitsSigned w64 t → r ≡ natural_width w g n → t ≡ aimed a (to_z w64 (of_z w64 r))
    → to_z w64 (of_z w64 t) ≡ aimed a (natural_width w g n)
target-is w g n a r t rf tf ri ti = to_z-of_z w64 t tf ∙ ti ∙ ap (aimed a) (to_z-of_z w64 r rf ∙ ri)

test-is : (w : ℕ → Option ℤ) (g : ℕ → Parts) (n : ℕ) (a : Aim) (r t : ℤ) (all : ℕ) → FitsSigned w64 r → FitsSigned w64 t → r ≡ natural_width w g n → t ≡ aimed a (to_z w64 (of_z w64 r))
    → all ≡ all_sharers w g n → attainable (to_z w64 (of_z w64 r)) (to_z w64 (of_z w64 t)) all ≡ attainable (natural_width w g n) (aimed a (natural_width w g n)) (all_sharers w g n)
test-is w g n a r t all rf tf ri ti ai =
    ap (λ x. attainable x (to_z w64 (of_z w64 t)) all) (to_z-of_z w64 r rf ∙ ri)
    ∙ ap (λ x. attainable (natural_width w g n) x all) (target-is w g n a r t rf tf ri ti)
    ∙ ap (attainable (natural_width w g n) (aimed a (natural_width w g n))) ai

-- where it fails, there is no answer
pub refused : (w : ℕ → Option ℤ) (g : ℕ → Parts) (n : ℕ) (a : Aim) (r t : ℤ) (all : ℕ) → FitsSigned w64 r → FitsSigned w64 t → r ≡ natural_width w g n → t ≡ aimed a (to_z w64 (of_z w64 r))
    → all ≡ all_sharers w g n → false ≡ attainable (to_z w64 (of_z w64 r)) (to_z w64 (of_z w64 t)) all → None ≡ width_set w g n a
refused w g n a r t all rf tf ri ti ai failed =
    sym (cond-false (attainable (natural_width w g n) (aimed a (natural_width w g n)) (all_sharers w g n)) (Some (aimed a (natural_width w g n))) None (sym (failed ∙ test-is w g n a r t all rf tf ri ti ai)))

-- the width t that the code answers, and the surplus u that it shares
pub record Answered (w : ℕ → Option ℤ) (g : ℕ → Parts) (n : ℕ) (a : Aim) (t : ℤ) (u : ℕ) : Type 0 where
  pub answer : width_set w g n a ≡ Some t
  pub surplus-is : u ≡ surplus w g n a

pub answered : (w : ℕ → Option ℤ) (g : ℕ → Parts) (n : ℕ) (a : Aim) (r t : ℤ) (all u : ℕ) → FitsSigned w64 r → FitsSigned w64 t → r ≡ natural_width w g n
    → t ≡ aimed a (to_z w64 (of_z w64 r)) → all ≡ all_sharers w g n → true ≡ attainable (to_z w64 (of_z w64 r)) (to_z w64 (of_z w64 t)) all
    → u ≡ upward (to_z w64 (of_z w64 (to_z w64 (of_z w64 t) -ℤ to_z w64 (of_z w64 r)))) → Answered w g n a (to_z w64 (of_z w64 t)) u
answered w g n a r t all u rf tf ri ti ai passed ui =
    let natural : to_z w64 (of_z w64 r) ≡ natural_width w g n = to_z-of_z w64 r rf ∙ ri in
    let target = target-is w g n a r t rf tf ri ti in
    let good = sym (passed ∙ test-is w g n a r t all rf tf ri ti ai) in
    let f = attains (natural_width w g n) (aimed a (natural_width w g n)) (all_sharers w g n) good in
    let least = f.least in
    let up = f.up in
    let most = f.most in
    let over : to_z w64 (of_z w64 (to_z w64 (of_z w64 t) -ℤ to_z w64 (of_z w64 r))) ≡ aimed a (natural_width w g n) -ℤ natural_width w g n = omega (arith, ints) in
    record {
      answer = cond-true (attainable (natural_width w g n) (aimed a (natural_width w g n)) (all_sharers w g n)) (Some (aimed a (natural_width w g n))) None good ∙ ap Some (sym target);
      surplus-is = ui ∙ ap upward over;
    }
