-- The bytes of a list tell it, but for what is not written. Assumes nothing.
use Rattle.std.proofs.Common.{◌≡◌, ℕ, ◌⊎◌, List, [], ◌∷◌, ◌++◌, map, length, ℤ, pos, negsuc, sym, refl, ap, ◌∙◌, ⊎_elim, arith}
use Rattle.std.specs.List.{flat_map, AllByRecursion}
use Rattle.std.proofs.lemmas.List.{append_assoc, length-map}
use Rattle.std.proofs.lemmas.List.Concat.{flat_map-append}
use Rattle.std.proofs.lemmas.Int.{ints}
use Rattle.boxlist.specs.declared.Kind.{Kind}
use Rattle.boxlist.specs.declared.Kind.TheVariants as kinds
use Rattle.boxlist.specs.declared.Store.{Store}
use Rattle.boxlist.specs.declared.Store.TheVariants as stores
use Rattle.boxlist.specs.declared.BoxRecord.{BoxRecord}
use Rattle.boxlist.specs.Groups.{groups_of, all_groups}
use Rattle.boxlist.specs.Format.{kind_number, store_number, natural, frame_numbers, part_numbers, only_of_words, box_numbers, head_numbers, list_numbers, bytes_of_box, bytes_of}
use Rattle.boxlist.specs.Lists.{Counted, WritableBox, Writable, plain_by, plain, Alike}
use Rattle.boxlist.proofs.Spelling.{rows_apart}
use Rattle.boxlist.proofs.Folds.{folds_apart}
use Rattle.boxlist.proofs.Bytes.{bytes-list}

joined-boxes : (boxes : List BoxRecord) → flat_map bytes_of_box boxes ≡ all_groups (flat_map box_numbers boxes)
unfolding bytes_of_box
joined-boxes [] = refl
joined-boxes (r ∷ rs) =
    ap (λ (l : List ℕ). all_groups (box_numbers r) ++ l) (joined-boxes rs)
    ∙ sym (flat_map-append groups_of (box_numbers r) (flat_map box_numbers rs))

-- the bytes of a list are those of its numbers
pub bytes-numbers : (t h : ℤ) (boxes : List BoxRecord) → bytes_of t h boxes ≡ all_groups (list_numbers t h boxes)
bytes-numbers t h boxes =
    bytes-list t h boxes
    ∙ ap (λ (l : List ℕ). all_groups (head_numbers t h (length boxes)) ++ l) (joined-boxes boxes)
    ∙ sym (flat_map-append groups_of (head_numbers t h (length boxes)) (flat_map box_numbers boxes))

-- a number from zero up is told
natural-apart : (y z : ℤ) → Counted y → Counted z → natural y ≡ natural z → y ≡ z
natural-apart (pos m) (pos n) p q e = ap pos e
natural-apart (pos m) (negsuc n) p q e = absurd (omega (arith, ints, q.1))
natural-apart (negsuc m) z p q e = absurd (omega (arith, ints, p.1))

-- a listed store is told
store_apart : (s u : Store) → (s ≡ stores.Preamble) ⊎ (s ≡ stores.Lines) → (u ≡ stores.Preamble) ⊎ (u ≡ stores.Lines) → store_number s ≡ store_number u → s ≡ u
store_apart s u p q e =
    ⊎_elim
    (λ a. ⊎_elim (λ b. a ∙ sym b) (λ b. let z : ◌≡◌ {A = ℕ} 0 1 = sym (ap store_number a) ∙ e ∙ ap store_number b in absurd (omega arith)) q)
    (λ a. ⊎_elim (λ b. let z : ◌≡◌ {A = ℕ} 1 0 = sym (ap store_number a) ∙ e ∙ ap store_number b in absurd (omega arith)) (λ b. a ∙ sym b) q)
    p

-- a word whose numbers are told is told
word-told : (a b : BoxRecord) → WritableBox a → WritableBox b → a.kind ≡ kinds.Word → b.kind ≡ kinds.Word → frame_numbers a ≡ frame_numbers b → part_numbers a ≡ part_numbers b → a ≡ b
word-told a b p q j k frame part =
    let pa = p.part j in
    let qb = q.part k in
    let x : a.x ≡ b.x = folds_apart a.x b.x (cc) in
    let y : a.y ≡ b.y = natural-apart a.y b.y p.down q.down (cc) in
    let w : a.width ≡ b.width = folds_apart a.width b.width (cc) in
    let h : a.height ≡ b.height = natural-apart a.height b.height p.above q.above (cc) in
    let d : a.depth ≡ b.depth = natural-apart a.depth b.depth p.below q.below (cc) in
    let s : a.store ≡ b.store = store_apart a.store b.store pa.listed qb.listed (cc) in
    let at : a.place ≡ b.place = natural-apart a.place b.place pa.begins qb.begins (cc) in
    let n : a.len ≡ b.len = natural-apart a.len b.len pa.long qb.long (cc) in
    let kd : a.kind ≡ b.kind = j ∙ sym k in
    λ i. record { kind = kd i; x = x i; y = y i; width = w i; height = h i; depth = d i; store = s i; place = at i; len = n i }

rule_told : (a b : BoxRecord) → WritableBox a → WritableBox b → a.kind ≡ kinds.Rule → b.kind ≡ kinds.Rule → frame_numbers a ≡ frame_numbers b → plain_by kinds.Rule a ≡ plain_by kinds.Rule b
rule_told a b p q j k frame =
    let x : a.x ≡ b.x = folds_apart a.x b.x (cc) in
    let y : a.y ≡ b.y = natural-apart a.y b.y p.down q.down (cc) in
    let w : a.width ≡ b.width = folds_apart a.width b.width (cc) in
    let h : a.height ≡ b.height = natural-apart a.height b.height p.above q.above (cc) in
    let d : a.depth ≡ b.depth = natural-apart a.depth b.depth p.below q.below (cc) in
    let kd : a.kind ≡ b.kind = j ∙ sym k in
    λ i. record { kind = kd i; x = x i; y = y i; width = w i; height = h i; depth = d i; store = stores.Preamble; place = pos 0; len = pos 0 }

-- a box's bytes, whatever follows
abbrev Told : BoxRecord → BoxRecord → List ℕ → List ℕ → Type 0
Told a b r s = (plain a ≡ plain b) × (r ≡ s)

-- what stands behind the numbers that every box has
framed : (a : BoxRecord) (r : List ℕ) → bytes_of_box a ++ r ≡ all_groups (frame_numbers a) ++ (all_groups (only_of_words a.kind (part_numbers a)) ++ r)
unfolding bytes_of_box
framed a r =
    ap (λ (l : List ℕ). l ++ r) (flat_map-append groups_of (frame_numbers a) (only_of_words a.kind (part_numbers a)))
    ∙ append_assoc (all_groups (frame_numbers a)) (all_groups (only_of_words a.kind (part_numbers a))) r

box_told : (a b : BoxRecord) (r s : List ℕ) → WritableBox a → WritableBox b → bytes_of_box a ++ r ≡ bytes_of_box b ++ s → Told a b r s
box_told a b r s p q e =
    let both = rows_apart (frame_numbers a) (frame_numbers b) _ _ refl (sym (framed a r) ∙ e ∙ framed b s) in
    let frame = both.0 in
    let kind : kind_number a.kind ≡ kind_number b.kind = cc in
    let behind : (k l : Kind) → a.kind ≡ k → b.kind ≡ l → all_groups (only_of_words k (part_numbers a)) ++ r ≡ all_groups (only_of_words l (part_numbers b)) ++ s = λ k l j m. ap (λ n. all_groups (only_of_words n (part_numbers a)) ++ r) (sym j) ∙ both.1 ∙ ap (λ n. all_groups (only_of_words n (part_numbers b)) ++ s) m in
    let apart : (k l : Kind) → a.kind ≡ k → b.kind ≡ l → kind_number k ≡ kind_number l = λ k l j m. sym (ap kind_number j) ∙ kind ∙ ap kind_number m in
    ⊎_elim
    (λ j.
    ⊎_elim
    (λ k.
    let rest = rows_apart (part_numbers a) (part_numbers b) r s refl (behind kinds.Word kinds.Word j k) in
    (ap (λ n. plain_by n a) j ∙ word-told a b p q j k frame rest.0 ∙ sym (ap (λ n. plain_by n b) k), rest.1))
    (λ k. let z : ◌≡◌ {A = ℕ} 1 2 = apart kinds.Word kinds.Rule j k in absurd (omega arith))
    q.listed)
    (λ j.
    ⊎_elim
    (λ k. let z : ◌≡◌ {A = ℕ} 2 1 = apart kinds.Rule kinds.Word j k in absurd (omega arith))
    (λ k. (ap (λ n. plain_by n a) j ∙ rule_told a b p q j k frame ∙ sym (ap (λ n. plain_by n b) k), behind kinds.Rule kinds.Rule j k))
    q.listed)
    p.listed

boxes-told : (cs bs : List BoxRecord) (r s : List ℕ) → length cs ≡ length bs → AllByRecursion WritableBox cs → AllByRecursion WritableBox bs → flat_map bytes_of_box cs ++ r ≡ flat_map bytes_of_box bs ++ s → (map plain cs ≡ map plain bs) × (r ≡ s)
boxes-told [] [] r s long p q e = (refl, e)
boxes-told [] (b ∷ bs) r s long p q e = absurd (omega arith)
boxes-told (a ∷ cs) [] r s long p q e = absurd (omega arith)
boxes-told (a ∷ cs) (b ∷ bs) r s long p q e =
    let split : bytes_of_box a ++ (flat_map bytes_of_box cs ++ r) ≡ bytes_of_box b ++ (flat_map bytes_of_box bs ++ s) = sym (append_assoc (bytes_of_box a) (flat_map bytes_of_box cs) r) ∙ e ∙ append_assoc (bytes_of_box b) (flat_map bytes_of_box bs) s in
    let first = box_told a b (flat_map bytes_of_box cs ++ r) (flat_map bytes_of_box bs ++ s) p.0 q.0 split in
    let others = boxes-told cs bs r s (omega arith) p.1 q.1 first.1 in
    ((λ i. first.0 i ∷ others.0 i), others.1)

pub list-shows_end : (t h t' h' : ℤ) (boxes boxes' : List BoxRecord) (r s : List ℕ) → Writable t h boxes → Writable t' h' boxes' → bytes_of t h boxes ++ r ≡ bytes_of t' h' boxes' ++ s → Alike t h boxes t' h' boxes' × (r ≡ s)
list-shows_end t h t' h' boxes boxes' r s p q e =
    let split : (a b : ℤ) (cs : List BoxRecord) (u : List ℕ) → bytes_of a b cs ++ u ≡ all_groups (head_numbers a b (length cs)) ++ (flat_map bytes_of_box cs ++ u) = λ a b cs u. ap (λ (l : List ℕ). l ++ u) (bytes-list a b cs) ∙ append_assoc (all_groups (head_numbers a b (length cs))) (flat_map bytes_of_box cs) u in
    let head = rows_apart (head_numbers t h (length boxes)) (head_numbers t' h' (length boxes')) (flat_map bytes_of_box boxes ++ r) (flat_map bytes_of_box boxes' ++ s) refl (sym (split t h boxes r) ∙ e ∙ split t' h' boxes' s) in
    let numbers = head.0 in
    let long : length boxes ≡ length boxes' = cc in
    let rest = boxes-told boxes boxes' r s long p.each q.each head.1 in
    (record { wide = natural-apart t t' p.wide q.wide (cc); high = natural-apart h h' p.high q.high (cc); each = rest.0 }, rest.1)

pub bytes-tell_list : (t h t' h' : ℤ) (boxes boxes' : List BoxRecord) → Writable t h boxes → Writable t' h' boxes' → bytes_of t h boxes ≡ bytes_of t' h' boxes' → Alike t h boxes t' h' boxes'
bytes-tell_list t h t' h' boxes boxes' p q e =
    (list-shows_end t h t' h' boxes boxes' [] [] p q (ap (λ (l : List ℕ). l ++ []) e)).0

plain_box : (k : Kind) (r : BoxRecord) → r.kind ≡ k → box_numbers (plain_by k r) ≡ box_numbers r
plain_box kinds.Word r j = refl
plain_box kinds.Rule r j =
    ap (λ k. frame_numbers r ++ only_of_words k (part_numbers (plain_by kinds.Rule r))) j
    ∙ sym (ap (λ k. frame_numbers r ++ only_of_words k (part_numbers r)) j)
plain_box (kinds.Unlisted n) r j = refl

plain-boxes : (boxes : List BoxRecord) → flat_map box_numbers (map plain boxes) ≡ flat_map box_numbers boxes
plain-boxes [] = refl
plain-boxes (r ∷ rs) = λ i. plain_box r.kind r refl i ++ plain-boxes rs i

pub unwritten_idle : (t h : ℤ) (boxes : List BoxRecord) → bytes_of t h (map plain boxes) ≡ bytes_of t h boxes
unwritten_idle t h boxes =
    bytes-numbers t h (map plain boxes)
    ∙ (λ i. all_groups (head_numbers t h (length-map boxes plain i) ++ plain-boxes boxes i))
    ∙ sym (bytes-numbers t h boxes)
