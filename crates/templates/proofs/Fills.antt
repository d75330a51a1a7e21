-- What a write at the end of a part does to the parts, and what the parts mean. Assumes nothing.
use Rattle.std.proofs.Common.{◌≡◌, ℕ, ◌+◌, ◌-◌, ◌*◌, ◌<◌, ◌≤◌, List, [], ◌∷◌, ◌++◌, map, length, take, drop, set, ℤ, ◌+ℤ◌, sym, refl, ap, ◌∙◌, subst, arith}
use Rattle.std.proofs.lemmas.List.{length-drop, length-take-le, length-take, drop-set-add, take-set-le, take_more_set, take-take, drop-take, drop_all}
use Rattle.std.specs.List.{AllByRecursion}
use Rattle.std.proofs.ByRecursion.{All-take, All-drop, All-push, All-weaker}
use Rattle.ledger.specs.declared.records.ItemRecord.{ItemRecord}
use Rattle.ledger.specs.declared.records.ItemRecord.TheVariants.{Space, CellWord, TemplateWord, Kern, Hfil}
use Rattle.ledger.specs.declared.records.Column.{Column}
use Rattle.ledger.specs.declared.records.ColumnRecord.{ColumnRecord}
use Rattle.ledger.specs.Chunks.{chunks, total}
use Rattle.ledger.specs.Ledger.{Item, template_word}
use Rattle.ledger.specs.Calls.{Template}
use Rattle.ledger.specs.Items.{taken, meant, decoded_items, template_in}
use Rattle.ledger.proofs.Cuts.{chunks-append, length-chunks, chunks-one}
use Rattle.ledger.specs.Naturals.{natural}
use Rattle.extent.specs.Sizes.{Within}
use Rattle.std.proofs.lemmas.Int.{ints}
use Rattle.templates.specs.Kept.{Fine, Lies, LiesIn, Sized}
use Rattle.templates.specs.Readings.{part_of, template_by}

-- one more element at the end of a part
pub part-more : {X : Type 0} (xs : List X) (from n : ℕ) (x : X) → from + n < length xs → take (n + 1) (drop from (set xs (from + n) x)) ≡ take n (drop from xs) ++ x ∷ []
part-more xs from n x h =
    let lt : n < length (drop from xs) = simp length-drop (omega arith) in
    rw (drop-set-add from xs n x) (take_more_set (drop from xs) n x lt)

-- a part before the write stays
pub part_stays : {X : Type 0} (xs : List X) (from n i : ℕ) (x : X) → from + n ≤ i → take n (drop from (set xs i x)) ≡ take n (drop from xs)
part_stays {X} xs from n i x h =
    let e : from + (i - from) ≡ i = omega arith in
    let le : n ≤ i - from = omega arith in
    ap (λ (j : ℕ). take n (drop from (set xs j x))) (sym e) ∙ ap (take n) (drop-set-add from xs (i - from) x) ∙ take-set-le n (drop from xs) (i - from) x le

-- a part lies in any front that holds it
pub part-front : {X : Type 0} (xs : List X) (from n p : ℕ) → from + n ≤ p → take n (drop from (take p xs)) ≡ take n (drop from xs)
part-front {X} xs from n p h =
    let e : from + (p - from) ≡ p = omega arith in
    let le : n ≤ p - from = omega arith in
    ap (λ (j : ℕ). take n (drop from (take j xs))) (sym e) ∙ ap (take n) (drop-take from (p - from) xs) ∙ take-take n (p - from) (drop from xs) le

pub drop_none : {X : Type 0} (n : ℕ) → ◌≡◌ {A = List X} (drop n []) []
drop_none n = drop_all n [] (omega arith)

-- one more item
pub decoded_push : (text : List ℕ) (xs : List ItemRecord) (x : ItemRecord) → taken x ≡ 0 → decoded_items text (xs ++ x ∷ []) [] ≡ decoded_items text xs [] ++ meant text x [] ∷ []
decoded_push text xs x e =
    chunks-append taken (meant text) xs (x ∷ []) []
    ∙ ap (λ (l : List ℕ). decoded_items text xs [] ++ chunks taken (meant text) (x ∷ []) l) (drop_none (total taken xs))
    ∙ ap (λ (l : List Item). decoded_items text xs [] ++ l) (chunks-one taken (meant text) x [] e)

pub length_part : (text : List ℕ) (from n : ℕ) (ps : List ItemRecord) → from + n ≤ length ps → length (part_of text from n ps) ≡ n
length_part text from n ps h =
    let le : n ≤ length (drop from ps) = simp length-drop (omega arith) in
    length-chunks taken (meant text) (take n (drop from ps)) [] ∙ length-take-le n (drop from ps) le

-- fine items take no bytes of a line
pub fine-taken : (text : List ℕ) (b : ℕ) (x : ItemRecord) → Fine text b x → taken x ≡ 0
fine-taken text b Space f = refl
fine-taken text b (CellWord n) f = absurd f
fine-taken text b (TemplateWord a n) f = refl
fine-taken text b (Kern z) f = refl
fine-taken text b Hfil f = refl

pub fine-total : (text : List ℕ) (b : ℕ) (xs : List ItemRecord) → AllByRecursion (Fine text b) xs → total taken xs ≡ 0
unfolding total
fine-total text b [] f = refl
fine-total text b (x ∷ xs) f = let e = fine-taken text b x f.0 in let h = fine-total text b xs f.1 in omega arith

-- further on they are fine too
pub fine-further : (text : List ℕ) (b e : ℕ) (x : ItemRecord) → b ≤ e → Fine text b x → Fine text e x
fine-further text b e Space h f = f
fine-further text b e (CellWord n) h f = f
fine-further text b e (TemplateWord a n) h f = (f.0, omega (arith, f.1))
fine-further text b e (Kern z) h f = f
fine-further text b e Hfil h f = f

-- they mean the same over the bytes that were read
pub fine-meant : (text : List ℕ) (b : ℕ) (x : ItemRecord) (w : List ℕ) → Fine text b x → meant (take b text) x w ≡ meant text x w
fine-meant text b Space w f = refl
fine-meant text b (CellWord n) w f = refl
fine-meant text b (TemplateWord a n) w f = ap (template_word a) (part-front text a n b f.1)
fine-meant text b (Kern z) w f = refl
fine-meant text b Hfil w f = refl

pub fine-decoded : (text : List ℕ) (b : ℕ) (xs : List ItemRecord) (w : List ℕ) → AllByRecursion (Fine text b) xs → decoded_items (take b text) xs w ≡ decoded_items text xs w
unfolding chunks
fine-decoded text b [] w f = refl
fine-decoded text b (x ∷ xs) w f = rw (fine-meant text b x (take (taken x) w) f.0, fine-decoded text b xs (drop (taken x) w) f.1)

-- items of a part are fine where all that are written are
pub fine-part : (text : List ℕ) (b from n m : ℕ) (ps : List ItemRecord) → from + n ≤ m → AllByRecursion (Fine text b) (take m ps) → AllByRecursion (Fine text b) (take n (drop from ps))
fine-part text b from n m ps h f =
    subst (AllByRecursion (Fine text b)) (part-front ps from n m h) (All-take (Fine text b) n (drop from (take m ps)) (All-drop (Fine text b) from (take m ps) f))

-- one more fine item
pub fine-push : (text : List ℕ) (b e m n : ℕ) (ps : List ItemRecord) (x : ItemRecord) → m < length ps → n ≡ m + 1 → b ≤ e → AllByRecursion (Fine text b) (take m ps) → Fine text e x → AllByRecursion (Fine text e) (take n (set ps m x))
fine-push text b e m n ps x lt same le f one =
    subst (AllByRecursion (Fine text e)) (sym (take_more_set ps m x lt) ∙ ap (λ (j : ℕ). take j (set ps m x)) (sym same))
    (All-push (Fine text e) (take m ps) x (All-weaker (Fine text b) (Fine text e) (λ y. fine-further text b e y le) (take m ps) f) one)

-- templates over a front that holds them
pub template_whole : (text : List ℕ) (ps : List ItemRecord) (p : ℕ) (c : Column) → Lies p c → template_in text (take p ps) c ≡ template_in text ps c
template_whole text ps p c l =
    let a : c.from + c.u ≤ p = omega (arith, l.within) in
    let b : (c.from + c.u) + c.v ≤ p = omega (arith, l.within) in
    rw (part-front ps c.from c.u p a, part-front ps (c.from + c.u) c.v p b)

templates-whole : {E : Type 0} (text : List ℕ) (ps : List ItemRecord) (p : ℕ) (cs : List (ColumnRecord E)) → AllByRecursion (LiesIn p) cs → map (template_by text (take p ps)) cs ≡ map (template_by text ps) cs
templates-whole text ps p [] l = refl
templates-whole text ps p (c ∷ cs) l =
    ap (λ (t : Template). t ∷ map (template_by text (take p ps)) cs) (template_whole text ps p c.template l.0) ∙ ap (λ (ts : List Template). template_by text ps c ∷ ts) (templates-whole text ps p cs l.1)

pub lies-further : (p q : ℕ) (c : Column) → p ≤ q → Lies p c → Lies q c
lies-further p q c h l = record { within = omega (arith, l.within); few-u = l.few-u; few-v = l.few-v }

pub lie-further : {E : Type 0} (p q : ℕ) (cs : List (ColumnRecord E)) → p ≤ q → AllByRecursion (LiesIn p) cs → AllByRecursion (LiesIn q) cs
lie-further p q cs h = All-weaker (LiesIn p) (LiesIn q) (λ c. lies-further p q c.template h) cs

pub templates-further : {E : Type 0} (text : List ℕ) (ps : List ItemRecord) (p q : ℕ) (cs : List (ColumnRecord E)) → p ≤ q → AllByRecursion (LiesIn p) cs → map (template_by text (take q ps)) cs ≡ map (template_by text (take p ps)) cs
templates-further text ps p q cs h l = templates-whole text ps q cs (lie-further p q cs h l) ∙ sym (templates-whole text ps p cs l)

-- .. and over the bytes that were read
pub template_cut : (text : List ℕ) (b p : ℕ) (ps : List ItemRecord) (c : Column) → AllByRecursion (Fine text b) (take p ps) → template_in (take b text) (take p ps) c ≡ template_in text (take p ps) c
template_cut text b p ps c f =
    let u = All-take (Fine text b) c.u (drop c.from (take p ps)) (All-drop (Fine text b) c.from (take p ps) f) in
    let v = All-take (Fine text b) c.v (drop (c.from + c.u) (take p ps)) (All-drop (Fine text b) (c.from + c.u) (take p ps) f) in
    rw (fine-decoded text b (take c.u (drop c.from (take p ps))) [] u, fine-decoded text b (take c.v (drop (c.from + c.u) (take p ps))) [] v)

pub templates-cut : {E : Type 0} (text : List ℕ) (b p : ℕ) (ps : List ItemRecord) (cs : List (ColumnRecord E)) → AllByRecursion (Fine text b) (take p ps) → map (template_by (take b text) (take p ps)) cs ≡ map (template_by text (take p ps)) cs
templates-cut text b p ps [] f = refl
templates-cut text b p ps (c ∷ cs) f =
    ap (λ (t : Template). t ∷ map (template_by (take b text) (take p ps)) cs) (template_cut text b p ps c.template f) ∙ ap (λ (ts : List Template). template_by text (take p ps) c ∷ ts) (templates-cut text b p ps cs f)

-- fine items, each within a word's width, are together within as many
fine-any : (text : List ℕ) (b : ℕ) (x : ItemRecord) (w : List ℕ) → Fine text b x → meant text x w ≡ meant text x []
fine-any text b Space w f = refl
fine-any text b (CellWord n) w f = absurd f
fine-any text b (TemplateWord a n) w f = refl
fine-any text b (Kern z) w f = refl
fine-any text b Hfil w f = refl

pub fine-natural : (count : ℕ) (wide : Item → ℕ → ℤ) (text : List ℕ) (b k : ℕ) → Sized count wide text → k < count → (xs : List ItemRecord) → AllByRecursion (Fine text b) xs → Within (length xs * 1073741823) (natural wide (decoded_items text xs []) k)
unfolding chunks natural
fine-natural count wide text b k sized lt [] f = (omega (arith, ints), omega (arith, ints))
fine-natural count wide text b k sized lt (x ∷ xs) f =
    let one = sized x b k f.0 lt in
    let more = fine-natural count wide text b k sized lt xs f.1 in
    let e : natural wide (decoded_items text (x ∷ xs) []) k ≡ wide (meant text x []) k +ℤ natural wide (decoded_items text xs []) k =
    ap (λ (i : Item). wide i k +ℤ natural wide (chunks taken (meant text) xs (drop (taken x) [])) k) (fine-any text b x (take (taken x) []) f.0)
    ∙ ap (λ (l : List ℕ). wide (meant text x []) k +ℤ natural wide (chunks taken (meant text) xs l) k) (drop_none (taken x)) in
    (rw e (omega (arith, ints)), rw e (omega (arith, ints)))

-- a part has at most 64 items
pub part-near : (count : ℕ) (wide : Item → ℕ → ℤ) (text : List ℕ) (b k : ℕ) → Sized count wide text → k < count → (n : ℕ) (xs : List ItemRecord) → n ≤ 64 → AllByRecursion (Fine text b) (take n xs) → Within 68719476736 (natural wide (decoded_items text (take n xs) []) k)
part-near count wide text b k sized lt n xs few f =
    let all = fine-natural count wide text b k sized lt (take n xs) f in
    let le : length (take n xs) ≤ 64 = let e = length-take n xs in omega arith in
    (omega (arith, ints, all.0), omega (arith, ints, all.1))
