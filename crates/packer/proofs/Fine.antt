-- Fine items on a side: words that are measured, and all in their ranges. Assumes nothing.
use Rattle.std.proofs.Common.{◌≡◌, ℕ, ◌*◌, ◌<◌, true, is_ok, List, [], ◌∷◌, length, ℤ, Ok, Err, Result, sym, refl, subst, arith}
use Rattle.std.proofs.lemmas.Int.{ints}
use Rattle.std.proofs.lemmas.Bool.Decides.{nat_tests}
use Rattle.std.proofs.lemmas.Bool.{and_parts}
use Rattle.extent.specs.Sizes.{Within}
use Rattle.extent.specs.declared.Extent.{Ghosts as Sides}
use Rattle.faults.specs.declared.Fault.{Fault}
use Rattle.lengths.specs.Gaps.{natural_fits}
use Rattle.measure.specs.declared.measurer.Metrics.{Metrics}
use Rattle.measure.specs.declared.measurer.Measurer.{Ghosts as Meaning}
use Rattle.measure.specs.Words.{IsWord}
use Rattle.measure.specs.Asked.{measured_by}
use Rattle.measure.specs.Bounds.{Bounded, Spaced}
use Rattle.measure.proofs.Worded.{measured-law}
use Rattle.ledger.specs.Ledger.{Item, cell_word, template_word, space, kern, hfil}
use Rattle.ledger.specs.Lawful.{fine, all_fine}
use Rattle.ledger.specs.Naturals.{word_by}
use Rattle.ledger.proofs.Words.{within_more}
use Rattle.packer.specs.Looks.{look_of}
use Rattle.packer.specs.Boxes.{wide_in}

-- a word that has metrics
pub record Known {X : Type 0} (meaning : List ℕ → Result X ℕ) (w : List ℕ) : Type 0 where
  pub metrics : X
  pub word : IsWord w
  pub meant : meaning w ≡ Ok metrics

module _ {X : Type 0} (meaning : List ℕ → Result X ℕ) (w : List ℕ) where
  known-by : (r : Result X Fault) → r ≡ measured_by meaning w → is_ok r ≡ true → Known meaning w
  known-by (Ok x) e h = let l = measured-law meaning w (Ok x) e in record { metrics = x; word = l.0; meant = l.1 }
  known-by (Err f) e h = absurd (cc)

  pub fine-known : fine meaning (cell_word w) ≡ true → Known meaning w
  fine-known h = known-by (measured_by meaning w) refl h

pub fine-parts : {Y : Type 0} (meaning : List ℕ → Result Y ℕ) (a : Item) (rest : List Item) → all_fine meaning (a ∷ rest) ≡ true → (fine meaning a ≡ true) × (all_fine meaning rest ≡ true)
fine-parts meaning a rest h = and_parts (fine meaning a) (all_fine meaning rest) h

pub kern-within : (z : ℤ) → natural_fits z ≡ true → Within 16777215 z
kern-within z h = (grind (arith, ints, nat_tests), grind (arith, ints, nat_tests))

-- on a side k, with a measurer and extents that keep their laws
module _ {X E : Type 0} (m : Meaning X E) (s : Sides E) (x : X) (k : ℕ) (side : k < s.count)
    (words : (w : List ℕ) (y : Metrics E) → IsWord w → m.meaning x w ≡ Ok y → Bounded s.count s.num y)
    (spaces : Spaced s.count s.num (m.blank x))
    (kerns : (b : ℕ) (z : ℤ) → Within b z → Within b (s.entered k z))
  where
    word-wide : (w : List ℕ) → fine (m.meaning x) (cell_word w) ≡ true → Within 1073741823 (word_by s.num (m.meaning x w) k)
    word-wide w h = let q = fine-known (m.meaning x) w h in
        subst (λ (r : Result (Metrics E) ℕ). Within 1073741823 (word_by s.num r k)) (sym q.meant) (words w q.metrics q.word q.meant k side).0

    pub item-within : (a : Item) → fine (m.meaning x) a ≡ true → Within 1073741823 ((look_of m s x k).wide a)
    item-within (cell_word w) h = word-wide w h
    item-within (template_word a w) h = word-wide w h
    item-within space h = let b = spaces k side in (omega (arith, ints), omega (arith, ints))
    item-within (kern z) h = within_more 16777215 1073741823 (s.entered k z) (omega arith) (kerns 16777215 z (kern-within z h))
    item-within hfil h = (omega (arith, ints), omega (arith, ints))

    -- .. and so many of them in as many times that
    pub items-within : (is : List Item) → all_fine (m.meaning x) is ≡ true → Within (1073741823 * length is) (wide_in (look_of m s x k) is)
    unfolding wide_in
    items-within [] h = (omega (arith, ints), omega (arith, ints))
    items-within (a ∷ rest) h =
        let both = fine-parts (m.meaning x) a rest h in
        let first = item-within a both.0 in
        let others = items-within rest both.1 in
        (omega (arith, ints), omega (arith, ints))
