-- Boxes drawn one behind the other. Assumes nothing.
use Rattle.std.proofs.Common.{◌≡◌, ℕ, ◌+◌, ◌≤◌, List, [], ◌++◌, length, take, drop, sym, refl, ap, ◌∙◌, arith}
use Rattle.std.proofs.lemmas.List.{append_assoc, drop-drop, length-append, length-take-le, take_at, drop_at}
use Rattle.boxlist.specs.declared.BoxRecord.{BoxRecord}
use Rattle.boxlist.specs.Over.{over}
use Rattle.boxlist.proofs.Overs.{over_none}
use Rattle.rows.proofs.Overs.{length_over}
use Rattle.packer.specs.declared.pen.Pen.{Pen}
use Rattle.packer.specs.Views.{HasRoom, Drawn}

-- two rows, one behind the other, are one
over-append : {X : Type 0} (xs ys old : List X) (place next : ℕ) → place + length xs ≤ length old → next ≡ place + length xs → over (over old place xs) next ys ≡ over old place (xs ++ ys)
over-append xs ys old place next room e =
    let m = take place old ++ xs in
    let d = drop (place + length xs) old in
    let whole : over old place xs ≡ m ++ d = sym (append_assoc (take place old) xs d) in
    let long : length m ≡ next = omega (arith, length-append (take place old) xs, length-take-le place old) in
    let behind : drop (next + length ys) (m ++ d) ≡ drop (place + length (xs ++ ys)) old =
    sym (drop-drop (length ys) next (m ++ d))
    ∙ ap (drop (length ys)) (drop_at m d next long)
    ∙ drop-drop (length ys) (place + length xs) old
    ∙ ap (λ k. drop k old) (omega (arith, length-append xs ys)) in
    ap (λ l. take next l ++ (ys ++ drop (next + length ys) l)) whole
    ∙ (λ i. take_at m d next long i ++ (ys ++ behind i))
    ∙ simp append_assoc

pub drawn-none : (o : Pen) → Drawn o o []
drawn-none o = record { same = refl; next = omega arith; records = sym (over_none o.records.now o.next) }

-- where there is room for two rows
module _ (a b : Pen) (xs ys : List BoxRecord) (room : HasRoom a (xs ++ ys)) where
  pub room-first : HasRoom a xs
  room-first = omega (arith, length-append xs ys)

  module _ (drawn : Drawn a b xs) where
    pub room-behind : HasRoom b ys
    room-behind =
        omega (arith, length-append xs ys, drawn.next, ap length drawn.records ∙ length_over a.records.now a.next xs room-first)

    pub drawn-append : (c : Pen) → Drawn b c ys → Drawn a c (xs ++ ys)
    drawn-append c more = record {
      same = more.same ∙ drawn.same;
      next = omega (arith, length-append xs ys, drawn.next, more.next);
      records = more.records
          ∙ ap (λ l. over l b.next ys) drawn.records
          ∙ over-append xs ys a.records.now a.next b.next room-first drawn.next;
    }
