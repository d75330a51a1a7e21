-- Which lists are written, and what writing one answers and leaves. Assumes nothing.
use Rattle.std.specs.Prelude.{ℕ, ◌^◌, Bool, true, false, cond, ◌&&◌, List, [], ◌∷◌, length, ℤ, pos, negsuc, Ok, Err, Result, nat_le, nat_lt}
use Rattle.faults.specs.declared.Cause.TheVariants.{BadBox, TooLittleRoom}
use Rattle.faults.specs.declared.Fault.{Fault}
use Rattle.faults.specs.Faults.{fault_at}
use Rattle.boxlist.specs.declared.Kind.{Kind}
use Rattle.boxlist.specs.declared.Kind.TheVariants as kinds
use Rattle.boxlist.specs.declared.Store.{Store}
use Rattle.boxlist.specs.declared.Store.TheVariants as stores
use Rattle.boxlist.specs.declared.BoxRecord.{BoxRecord}
use Rattle.boxlist.specs.Over.{over}
use Rattle.boxlist.specs.Format.{bytes_of}

-- at most 2^40 in size
abbrev pub sized : ℤ → Bool
sized (pos n) = nat_le n (2 ^ 40)
sized (negsuc n) = nat_lt n (2 ^ 40)

-- at most 2^40, and not below zero
abbrev pub counted : ℤ → Bool
counted (pos n) = nat_le n (2 ^ 40)
counted (negsuc n) = false

abbrev pub listed_store : Store → Bool
listed_store stores.Preamble = true
listed_store stores.Lines = true
listed_store (stores.Unlisted n) = false

abbrev pub good_frame : BoxRecord → Bool
good_frame r = sized r.x && (counted r.y && (sized r.width && (counted r.height && counted r.depth)))

abbrev pub good_part : BoxRecord → Bool
good_part r = listed_store r.store && (counted r.place && counted r.len)

-- a \hrule's store, place and length are not looked at
abbrev pub good_kind : Kind → Bool → Bool → Bool
good_kind kinds.Word frame part = frame && part
good_kind kinds.Rule frame part = frame
good_kind (kinds.Unlisted n) frame part = false

unfoldable pub good_box : BoxRecord → Bool
good_box r = good_kind r.kind (good_frame r) (good_part r)

abbrev pub good_boxes : List BoxRecord → Bool
good_boxes [] = true
good_boxes (r ∷ rs) = good_box r && good_boxes rs

abbrev pub good_head : ℤ → ℤ → ℕ → Bool
good_head t h n = counted t && (counted h && nat_le n (2 ^ 40))

-- the lists that are written
unfoldable pub writable : ℤ → ℤ → List BoxRecord → Bool
writable t h boxes = good_head t h (length boxes) && good_boxes boxes

-- how many bytes, or why not
abbrev pub write_answer : ℤ → ℤ → List BoxRecord → ℕ → Result ℕ Fault
write_answer t h boxes room = cond (writable t h boxes) (cond (nat_le (length (bytes_of t h boxes)) room) (Ok (length (bytes_of t h boxes))) (Err (fault_at TooLittleRoom 0))) (Err (fault_at BadBox 0))

-- the bytes afterwards
abbrev pub written_over : ℤ → ℤ → List BoxRecord → List ℕ → List ℕ
written_over t h boxes old = cond (writable t h boxes) (cond (nat_le (length (bytes_of t h boxes)) (length old)) (over old 0 (bytes_of t h boxes)) old) old
