-- What writing a list answers and leaves is what the law asks. Assumes nothing.
use Rattle.std.proofs.Common.{◌≡◌, ℕ, ◌+◌, ◌<◌, ◌≤◌, Bool, true, false, cond, leb, List, length, drop, ℤ, Ok, Err, Result, sym, refl, ap, ◌∙◌, subst, inl, inr, arith}
use Rattle.std.proofs.lemmas.List.{take_at, drop_at}
use Rattle.std.proofs.lemmas.Bool.{leb-true, leb-false}
use Rattle.std.proofs.lemmas.Bool.Decides.{not_from_Decides}
use Rattle.faults.specs.declared.Cause.TheVariants.{BadBox, TooLittleRoom}
use Rattle.faults.specs.declared.Fault.{Fault}
use Rattle.faults.specs.Faults.{fault_at}
use Rattle.boxlist.specs.declared.BoxRecord.{BoxRecord}
use Rattle.boxlist.specs.Spellings.{SpellsRow}
use Rattle.boxlist.specs.Over.{over}
use Rattle.boxlist.specs.Format.{list_numbers, bytes_of}
use Rattle.boxlist.specs.Writing.{writable, write_answer, written_over}
use Rattle.boxlist.specs.Lists.{Writable, Written, Wrote}
use Rattle.boxlist.proofs.Spelling.{row-spelled, row-only}
use Rattle.boxlist.proofs.Telling.{bytes-numbers}
use Rattle.boxlist.proofs.Decided.{writable-decided}

-- the bytes of a list spell its numbers, and no other bytes do
pub bytes-spelled : (t h : ℤ) (boxes : List BoxRecord) → SpellsRow (bytes_of t h boxes) (list_numbers t h boxes)
bytes-spelled t h boxes =
    let P : List ℕ → Type 0 = λ bs. SpellsRow bs (list_numbers t h boxes) in
    subst P (sym (bytes-numbers t h boxes)) (row-spelled (list_numbers t h boxes))

pub bytes-only : (t h : ℤ) (boxes : List BoxRecord) (bs : List ℕ) → SpellsRow bs (list_numbers t h boxes) → bs ≡ bytes_of t h boxes
bytes-only t h boxes bs p = row-only (list_numbers t h boxes) bs p ∙ sym (bytes-numbers t h boxes)

accepted : (t h : ℤ) (boxes : List BoxRecord) (old : List ℕ) → Writable t h boxes → length (bytes_of t h boxes) ≤ length old → Written t h boxes old (over old 0 (bytes_of t h boxes)) (length (bytes_of t h boxes))
accepted t h boxes old may fits =
    let P : List ℕ → Type 0 = λ l. SpellsRow l (list_numbers t h boxes) in
    record {
      may = may;
      fits = fits;
      spelled = subst P (sym (take_at (bytes_of t h boxes) (drop (0 + length (bytes_of t h boxes)) old) (length (bytes_of t h boxes)) refl)) (bytes-spelled t h boxes);
      behind = drop_at (bytes_of t h boxes) (drop (0 + length (bytes_of t h boxes)) old) (length (bytes_of t h boxes)) refl ∙ ap (λ n. drop n old) (omega arith);
    }

outcome : (t h : ℤ) (boxes : List BoxRecord) (old : List ℕ) (w f : Bool) → writable t h boxes ≡ w → leb (length (bytes_of t h boxes)) (length old) ≡ f → Wrote t h boxes old (cond w (cond f (over old 0 (bytes_of t h boxes)) old) old) (cond w (cond f (Ok (length (bytes_of t h boxes))) (Err (fault_at TooLittleRoom 0))) (Err (fault_at BadBox 0)))
outcome t h boxes old true true p q =
    accepted t h boxes old ((writable-decided t h boxes).0 p) (leb-true (length (bytes_of t h boxes)) (length old) q)
outcome t h boxes old true false p q =
    let short : length old < length (bytes_of t h boxes) = leb-false (length (bytes_of t h boxes)) (length old) q in
    (refl, inr ((writable-decided t h boxes).0 p, λ bs s. omega (arith, ap length (bytes-only t h boxes bs s)), refl))
outcome t h boxes old false f p q =
    (refl, inl (not_from_Decides (writable t h boxes) (writable-decided t h boxes) p, refl))

pub wrote : (t h : ℤ) (boxes : List BoxRecord) (old new : List ℕ) (r : Result ℕ Fault) → r ≡ write_answer t h boxes (length old) → new ≡ written_over t h boxes old → Wrote t h boxes old new r
wrote t h boxes old new r answer bytes =
    let made = outcome t h boxes old (writable t h boxes) (leb (length (bytes_of t h boxes)) (length old)) refl refl in
    let P : List ℕ → Type 0 = λ l. Wrote t h boxes old l (write_answer t h boxes (length old)) in
    let Q : Result ℕ Fault → Type 0 = λ a. Wrote t h boxes old new a in
    subst Q (sym answer) (subst P (sym bytes) made)
