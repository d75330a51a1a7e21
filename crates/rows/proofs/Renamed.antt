-- The template words of a ledger are the bytes of the preamble text at their places. Assumes nothing.
use Rattle.std.proofs.Common.{◌≡◌, ℕ, zero, suc, List, [], ◌∷◌, ◌++◌, map, length, take, drop, refl, ap, ◌∙◌}
use Rattle.std.proofs.lemmas.List.{length-take, take_min}
use Rattle.std.proofs.ByRecursion.{All-append}
use Rattle.std.specs.List.{AllByRecursion, flat_map}
use Rattle.ledger.specs.declared.records.ItemRecord.{ItemRecord}
use Rattle.ledger.specs.declared.records.ItemRecord.TheVariants.{Space, CellWord, TemplateWord, Kern, Hfil}
use Rattle.ledger.specs.Chunks.{chunks}
use Rattle.ledger.specs.Ledger.{Item, cell_word, template_word, space, kern, hfil, Entry, Line}
use Rattle.ledger.specs.Calls.{entries_in, items_in, done_of, items_of, all_items}
use Rattle.ledger.specs.Items.{taken, meant, decoded_items}
use Rattle.rows.specs.declared.state.EntryRecord.{EntryRecord}
use Rattle.rows.specs.declared.state.LineRecord.{LineRecord}
use Rattle.rows.specs.declared.state.LineRecord.TheVariants.{Row, Rule, Gap}
use Rattle.rows.specs.declared.state.Memory.{Memory}
use Rattle.rows.specs.declared.state.State.{State}
use Rattle.rows.specs.declared.state.Stage.{Stage}
use Rattle.rows.specs.declared.state.Stage.TheVariants.{Closed, Fresh, Begun, Omitted}
use Rattle.rows.specs.declared.preamble.Preamble.{Preamble}
use Rattle.rows.specs.Held.{counted, entry_of, rowed, line_of, Held, held_of}
use Rattle.rows.specs.Good.{hand_by, ledger_by, ledger_of}

-- an item whose word, if it is a template's, is read again from the text
abbrev pub renamed : List ℕ → Item → Item
renamed p (cell_word w) = cell_word w
renamed p (template_word a w) = template_word a (take (length w) (drop a p))
renamed p space = space
renamed p (kern z) = kern z
renamed p hfil = hfil

all-taken : {A : Type 0} (Q : A → Type 0) (n : ℕ) (xs : List A) → AllByRecursion Q xs → AllByRecursion Q (take n xs)
all-taken Q zero xs h = tt
all-taken Q (suc n) [] h = tt
all-taken Q (suc n) (x ∷ xs) h = (h.0, all-taken Q n xs h.1)

all-dropped : {A : Type 0} (Q : A → Type 0) (n : ℕ) (xs : List A) → AllByRecursion Q xs → AllByRecursion Q (drop n xs)
all-dropped Q zero xs h = h
all-dropped Q (suc n) [] h = tt
all-dropped Q (suc n) (x ∷ xs) h = all-dropped Q n xs h.1

-- what holds of all that is cut holds of the pieces, ..
all-cut : {R A B : Type 0} (Q : A → Type 0) (S : B → Type 0) (size : R → ℕ) (f : R → List A → B) → ((r : R) (xs : List A) → AllByRecursion Q xs → S (f r xs)) → (rs : List R) (xs : List A) → AllByRecursion Q xs → AllByRecursion S (chunks size f rs xs)
unfolding chunks
all-cut Q S size f k [] xs h = tt
all-cut Q S size f k (r ∷ rs) xs h = (k r (take (size r) xs) (all-taken Q (size r) xs h), all-cut Q S size f k rs (drop (size r) xs) (all-dropped Q (size r) xs h))

-- .. and of the pieces joined
all-joined : {A B : Type 0} (Q : A → Type 0) (f : B → List A) (ys : List B) → AllByRecursion (λ y. AllByRecursion Q (f y)) ys → AllByRecursion Q (flat_map f ys)
all-joined Q f [] h = tt
all-joined Q f (y ∷ ys) h = All-append Q (f y) (flat_map f ys) h.0 (all-joined Q f ys h.1)

all-any : {A : Type 0} (xs : List A) → AllByRecursion (λ (x : A). Unit {0}) xs
all-any [] = tt
all-any (x ∷ xs) = (tt, all-any xs)

module _ (p : List ℕ) where
  abbrev Named : Item → Type 0
  Named i = renamed p i ≡ i

  abbrev NamedIn : Entry → Type 0
  NamedIn e = AllByRecursion Named (items_in e)

  abbrev NamedOn : Line → Type 0
  NamedOn l = AllByRecursion NamedIn (entries_in l)

  item-named : (r : ItemRecord) (w : List ℕ) → AllByRecursion (λ (x : ℕ). Unit {0}) w → Named (meant p r w)
  item-named Space w h = refl
  item-named (CellWord n) w h = refl
  item-named (TemplateWord a n) w h =
      let ys = drop a p in
      ap (λ (xs : List ℕ). template_word a xs) (ap (λ (k : ℕ). take k ys) (length-take n ys) ∙ take_min n ys)
  item-named (Kern z) w h = refl
  item-named Hfil w h = refl

  line-named : (r : LineRecord) (es : List Entry) → AllByRecursion NamedIn es → NamedOn (line_of r es)
  line-named (Row n) es h = h
  line-named Rule es h = tt
  line-named (Gap z) es h = tt

  items-named : (is : List ItemRecord) (t : List ℕ) → AllByRecursion Named (decoded_items p is t)
  items-named is t = all-cut (λ (x : ℕ). Unit {0}) Named taken (meant p) item-named is t (all-any t)

  entries-named : {E : Type 0} (es : List (EntryRecord E)) (xs : List Item) → AllByRecursion Named xs → AllByRecursion NamedIn (chunks counted entry_of es xs)
  entries-named es xs h = all-cut Named NamedIn counted entry_of (λ r ys k. k) es xs h

  same-named : (xs : List Item) → AllByRecursion Named xs → map (renamed p) xs ≡ xs
  same-named [] h = refl
  same-named (x ∷ xs) h = let e = same-named xs h.1 in let f = h.0 in cc

  done-named : (s : Stage) (c f : ℕ) (h : Held) → AllByRecursion NamedIn h.done → AllByRecursion NamedIn (done_of (hand_by s c f h))
  done-named Closed c f h k = tt
  done-named Fresh c f h k = k
  done-named Begun c f h k = k
  done-named Omitted c f h k = k

  hand-named : (s : Stage) (c f : ℕ) (h : Held) → AllByRecursion Named h.items → AllByRecursion Named (items_of (hand_by s c f h))
  hand-named Closed c f h k = tt
  hand-named Fresh c f h k = k
  hand-named Begun c f h k = k
  hand-named Omitted c f h k = k

  held-named : (s : Stage) (c f : ℕ) (h : Held) → AllByRecursion NamedOn h.lines → AllByRecursion NamedIn h.done → AllByRecursion Named h.items → map (renamed p) (all_items (ledger_by s c f h)) ≡ all_items (ledger_by s c f h)
  held-named s c f h ls ds is =
      let es = flat_map entries_in h.lines in
      let xs = es ++ done_of (hand_by s c f h) in
      same-named (flat_map items_in xs ++ items_of (hand_by s c f h))
      (All-append Named (flat_map items_in xs) (items_of (hand_by s c f h))
      (all-joined Named items_in xs (All-append NamedIn es (done_of (hand_by s c f h)) (all-joined NamedIn entries_in h.lines ls) (done-named s c f h ds)))
      (hand-named s c f h is))

-- the items of a ledger are the same read again from the preamble text
pub ledger-renamed : {E : Type 0} (q : Preamble E) (s : State E) (m : Memory E) → map (renamed q.text.now) (all_items (ledger_of q s m)) ≡ all_items (ledger_of q s m)
ledger-renamed q s m =
    let p = q.text.now in
    let h = held_of p s m in
    held-named p s.stage s.row.column s.row.first h
    (all-cut (NamedIn p) (NamedOn p) rowed line_of (line-named p) _ _ (entries-named p _ _ (items-named p _ _)))
    (entries-named p _ _ (items-named p _ _))
    (all-dropped (Named p) _ _ (items-named p _ _))
