-- Whether the entries from one on lie in the columns, one entry further. Assumes nothing.
use Rattle.std.proofs.Common.{◌≡◌, ℕ, ◌+◌, ◌<◌, true, false, ◌&&◌, List, length, get_or, drop, sym, ap, ◌∙◌}
use Rattle.std.proofs.lemmas.List.{at_drop_more}
use Rattle.widths.specs.declared.Entry.{Entry}
use Rattle.spans.specs.Refusals.{lie, all_lie}

pub all_lie-more : {E : Type 0} (n : ℕ) (es : List (Entry E)) (i : ℕ) (e : Entry E) → i < length es → e ≡ get_or es i e → lie n e ≡ true → all_lie n (drop (i + 1) es) ≡ all_lie n (drop i es)
all_lie-more n es i e lt is h =
    sym (at_drop_more (all_lie n) es i e lt ∙ ap (λ x. lie n x && all_lie n (drop (i + 1) es)) (sym is) ∙ ap (λ b. b && all_lie n (drop (i + 1) es)) h)

pub all_lie-stop : {E : Type 0} (n : ℕ) (es : List (Entry E)) (i : ℕ) (e : Entry E) → i < length es → e ≡ get_or es i e → lie n e ≡ false → all_lie n (drop i es) ≡ false
all_lie-stop n es i e lt is h =
    at_drop_more (all_lie n) es i e lt ∙ ap (λ x. lie n x && all_lie n (drop (i + 1) es)) (sym is) ∙ ap (λ b. b && all_lie n (drop (i + 1) es)) h
