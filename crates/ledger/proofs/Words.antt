-- Words of a text as a measurer has them. Assumes nothing.
use Rattle.std.proofs.Common.{◌≡◌, ℕ, ◌+◌, ◌-◌, ◌<◌, ◌≤◌, true, leb, List, length, get_or, take, drop, ℤ, sym, ap, ◌∙◌, subst, arith, le-leb}
use Rattle.std.proofs.lemmas.Int.{ints}
use Rattle.std.proofs.lemmas.List.{length-take-le, length-drop, get_or-take, get_or-drop}
use Rattle.std.proofs.ByRecursion.{All-from_get_or}
use Rattle.std.proofs.lemmas.Bool.{and_from}
use Rattle.extent.specs.Sizes.{Within}
use Rattle.measure.specs.Words.{IsWord, word_byte}
use Rattle.reader.specs.Reads.{WordWithin}

-- a smaller bound
pub within_more : (a b : ℕ) (z : ℤ) → a ≤ b → Within a z → Within b z
within_more a b z le w = (omega (arith, ints, w.0), omega (arith, ints, w.1))

-- a word of the reader is one of a measurer
pub word-is : (text : List ℕ) (place w n e : ℕ) → WordWithin text place w n e → IsWord (take n (drop w text))
word-is text place w n e i =
    let long : n ≤ length (drop w text) = simp length-drop (let a = i.upto in let b = i.inside in omega arith) in
    let len : length (take n (drop w text)) ≡ n = length-take-le n (drop w text) long in (
      let a = i.some in omega arith,
      let a = i.few in omega arith,
      All-from_get_or (λ b. word_byte b ≡ true) (take n (drop w text)) 0 (λ j lt.
          let less : j < n = omega arith in
          let r = i.bytes j less in
          let same : get_or (take n (drop w text)) j 0 ≡ get_or text (w + j) 0 = get_or-take n (drop w text) j 0 less ∙ get_or-drop w text j 0 in
          subst (λ (b : ℕ). word_byte b ≡ true) (sym same) (and_from (leb 33 (get_or text (w + j) 0)) (leb (get_or text (w + j) 0) 126) (le-leb 33 (get_or text (w + j) 0) r.0) (le-leb (get_or text (w + j) 0) 126 r.1))),
    )

-- the bytes of a word as they are cut out
pub cut-is : (text : List ℕ) (w n : ℕ) → take ((w + n) - w) (drop w text) ≡ take n (drop w text)
cut-is text w n = let e : (w + n) - w ≡ n = omega arith in ap (λ (m : ℕ). take m (drop w text)) e
