-- The part that is handed out is the one that the box names. Assumes nothing.
use Rattle.std.proofs.Common.{◌≡◌, ℕ, ◌+◌, Bool, true, false, cond, leb, List, ◌++◌, length, take, drop, ℤ, pos, negsuc, Some, None, Option, Result, sym, refl, ap, ◌∙◌, subst, inl, inr, ⊎_elim, arith}
use Rattle.std.proofs.lemmas.List.{take-append-drop, length-take-le, length-drop, length-append}
use Rattle.std.proofs.lemmas.Bool.{leb-true, leb-false}
use Rattle.faults.specs.declared.Fault.{Fault}
use Rattle.boxlist.specs.declared.Kind.{Kind}
use Rattle.boxlist.specs.declared.Kind.TheVariants as kinds
use Rattle.boxlist.specs.declared.Store.{Store}
use Rattle.boxlist.specs.declared.Store.TheVariants as stores
use Rattle.boxlist.specs.declared.BoxRecord.{BoxRecord}
use Rattle.boxlist.specs.Parts.{named_text, text_part, part_in, or_refused, fetch_answer, PartOf, Fetched}

-- a part of a text is there exactly where the test says so
abbrev Cut : List ℕ → ℤ → ℤ → Option (List ℕ) → Type 0
Cut text a n (Some bs) = PartOf text a n bs
Cut text a n None = (bs : List ℕ) → PartOf text a n bs → ⊥

cut_by : (text : List ℕ) (a n : ℕ) (b : Bool) → leb (a + n) (length text) ≡ b → Cut text (pos a) (pos n) (cond b (Some (take n (drop a text))) None)
cut_by text a n true e =
    let fits = leb-true (a + n) (length text) e in
    record {
      before = take a text;
      behind = drop n (drop a text);
      whole = sym (take-append-drop a text) ∙ ap (λ (l : List ℕ). take a text ++ l) (sym (take-append-drop n (drop a text)));
      begins = ap pos (length-take-le a text (omega arith));
      long = ap pos (length-take-le n (drop a text) (omega (arith, length-drop a text)));
    }
cut_by text a n false e =
    λ bs p.
    let short = leb-false (a + n) (length text) e in
    let first : length p.before ≡ a = cc p.begins in
    let second : length bs ≡ n = cc p.long in
    let all = ap length p.whole ∙ length-append p.before (bs ++ p.behind) in
    absurd (omega (arith, length-append bs p.behind))

cut : (text : List ℕ) (a n : ℤ) → Cut text a n (text_part text a n)
cut text (pos a) (pos n) = cut_by text a n (leb (a + n) (length text)) refl
cut text (pos a) (negsuc n) = λ bs p. let e = p.long in absurd (cc)
cut text (negsuc a) n = λ bs p. let e = p.begins in absurd (cc)

from-preamble : (r : BoxRecord) (p l : List ℕ) (o : Option (List ℕ)) → r.kind ≡ kinds.Word → r.store ≡ stores.Preamble → Cut p r.place r.len o → Fetched r p l (or_refused o)
from-preamble r p l (Some bs) k s c = (k, inl (s, c))
from-preamble r p l None k s c =
    (refl, λ bs n. ⊎_elim (λ x. c bs x.1) (λ x. let e = x.0 in absurd (cc)) n.1)

from-lines : (r : BoxRecord) (p l : List ℕ) (o : Option (List ℕ)) → r.kind ≡ kinds.Word → r.store ≡ stores.Lines → Cut l r.place r.len o → Fetched r p l (or_refused o)
from-lines r p l (Some bs) k s c = (k, inr (s, c))
from-lines r p l None k s c =
    (refl, λ bs n. ⊎_elim (λ x. let e = x.0 in absurd (cc)) (λ x. c bs x.1) n.1)

fetched-by : (k : Kind) (s : Store) (r : BoxRecord) (p l : List ℕ) → r.kind ≡ k → r.store ≡ s → Fetched r p l (or_refused (part_in (named_text k s p l) r.place r.len))
fetched-by kinds.Word stores.Preamble r p l k s = from-preamble r p l (text_part p r.place r.len) k s (cut p r.place r.len)
fetched-by kinds.Word stores.Lines r p l k s = from-lines r p l (text_part l r.place r.len) k s (cut l r.place r.len)
fetched-by kinds.Word (stores.Unlisted u) r p l k s =
    (refl, λ bs n. ⊎_elim (λ x. let e = x.0 in absurd (cc)) (λ x. let e = x.0 in absurd (cc)) n.1)
fetched-by kinds.Rule t r p l k s = (refl, λ bs n. let e = n.0 in absurd (cc))
fetched-by (kinds.Unlisted u) t r p l k s = (refl, λ bs n. let e = n.0 in absurd (cc))

pub fetched : (r : BoxRecord) (p l : List ℕ) (a : Result (List ℕ) Fault) → a ≡ fetch_answer r p l → Fetched r p l a
fetched r p l a e =
    let P : Result (List ℕ) Fault → Type 0 = λ b. Fetched r p l b in
    subst P (sym e) (fetched-by r.kind r.store r p l refl refl)
