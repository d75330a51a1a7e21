-- Boxes that are drawn one part after another. Assumes nothing.
use Rattle.std.proofs.Common.{◌≡◌, List, [], ◌++◌, sym, refl, ◌∙◌, subst}
use Rattle.std.proofs.lemmas.List.{append_assoc, append-nil}
use Rattle.boxlist.specs.declared.BoxRecord.{BoxRecord}
use Rattle.packer.specs.declared.pen.Pen.{Pen}
use Rattle.packer.specs.Views.{HasRoom, Drawn}
use Rattle.packer.proofs.Pens.{drawn-none, room-first, room-behind, drawn-append}

-- of all boxes the rest is left
pub record Going (old now : Pen) (rest all : List BoxRecord) : Type 0 where
  pub front : List BoxRecord
  pub drawn : Drawn old now front
  pub whole : front ++ rest ≡ all

pub going-start : (old : Pen) (all : List BoxRecord) → Going old old all all
going-start old all = record { front = []; drawn = drawn-none old; whole = refl }

module _ (old now : Pen) (part rest all : List BoxRecord) (room : HasRoom old all) (going : Going old now (part ++ rest) all) where
  whole-room : HasRoom old (going.front ++ (part ++ rest))
  whole-room = subst (HasRoom old) (sym going.whole) room

  pub going-room : HasRoom now part
  going-room = room-first now now part rest (room-behind old now going.front (part ++ rest) whole-room going.drawn)

  pub going-next : (new : Pen) → Drawn now new part → Going old new rest all
  going-next new drawn = record {
    front = going.front ++ part;
    drawn = drawn-append old now going.front part (room-first old now (going.front ++ part) rest (subst (HasRoom old) (sym (append_assoc going.front part rest)) whole-room)) going.drawn new drawn;
    whole = append_assoc going.front part rest ∙ going.whole;
  }

pub going-end : (old now : Pen) (all : List BoxRecord) → Going old now [] all → Drawn old now all
going-end old now all going = subst (Drawn old now) (sym (append-nil going.front) ∙ going.whole) going.drawn
