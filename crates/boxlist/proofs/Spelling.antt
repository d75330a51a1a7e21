-- Spellings of numbers: the groups of a number are the shortest, and every spelling shows its end. Assumes nothing.
use Rattle.std.proofs.Common.{◌≡◌, ℕ, zero, suc, ◌+◌, ◌*◌, ◌/◌, ◌%◌, ◌^◌, ◌<◌, ◌≤◌, ◌⊎◌, List, [], ◌∷◌, ◌++◌, length, sym, refl, ap, ◌∙◌, subst, inl, inr, ⊎_elim, pow-suc, arith}
use Rattle.std.proofs.lemmas.List.{append_assoc}
use Rattle.std.proofs.lemmas.Bool.{cases_lt, cases_eq}
use Rattle.boxlist.specs.Groups.{groups_of, all_groups}
use Rattle.boxlist.specs.Spellings.{Marked, group_sum, Spells, Shortest, SpellsRow, last_of, EndsWell}
use Rattle.boxlist.proofs.Steps.{groups_last, groups_more, length-groups_last, length-groups_more, length-groups_le}

-- a first group before a spelling is a spelling
marked_more : (b : ℕ) (bs : List ℕ) → 128 ≤ b → b < 256 → Marked bs → Marked (b ∷ bs)
marked_more b [] low high m = absurd m
marked_more b (c ∷ bs) low high m = (low, high, m)

abbrev Spelt : ℕ → Type 0
Spelt n = Spells (groups_of n) n

spelt_last : (n : ℕ) → n < 128 → Spelt n
spelt_last n small =
    let sum : n % 128 + 128 * 0 ≡ n = omega arith in
    let P : List ℕ → Type 0 = λ gs. Spells gs n in
    subst P (sym (groups_last n small)) (record { marks = small; sum = sum })

spelt_more : (n : ℕ) → 128 ≤ n → Spelt (n / 128) → Spelt n
spelt_more n large s =
    let P : List ℕ → Type 0 = λ gs. Spells gs n in
    subst P (sym (groups_more n large))
    (record {
      marks = marked_more (n % 128 + 128) (groups_of (n / 128)) (omega arith) (omega arith) s.marks;
      sum = omega (arith, s.sum);
    })

spelt_by : (k n : ℕ) → n ≤ k → Spelt n
spelt_by zero n h = spelt_last n (omega arith)
spelt_by (suc k) n h = ⊎_elim (spelt_last n) (λ large. spelt_more n large (spelt_by k (n / 128) (omega arith))) (cases_lt n 128)

pub groups_spell : (n : ℕ) → Spells (groups_of n) n
groups_spell n = spelt_by n n (omega arith)

-- a first group before the groups of a number above 0
groups_before : (b n : ℕ) → 128 ≤ b → b < 256 → 0 < n → groups_of (b % 128 + 128 * n) ≡ b ∷ groups_of n
groups_before b n low high some =
    let large : 128 ≤ b % 128 + 128 * n = omega arith in
    let first : (b % 128 + 128 * n) % 128 + 128 ≡ b = omega arith in
    let others : (b % 128 + 128 * n) / 128 ≡ n = omega arith in
    groups_more (b % 128 + 128 * n) large ∙ (λ i. first i ∷ groups_of (others i))

-- a row by the sum of its own groups
abbrev Against : List ℕ → Type 0
Against bs = (bs ≡ groups_of (group_sum bs)) ⊎ (length (groups_of (group_sum bs)) < length bs)

against : (bs : List ℕ) → Marked bs → Against bs
against [] m = absurd m
against (b ∷ []) m =
    let sum : b % 128 + 128 * 0 ≡ b = omega arith in
    inl (sym (ap groups_of sum ∙ groups_last b m))
against (b ∷ (c ∷ bs)) m =
    ⊎_elim
    (λ none.
    let small : b % 128 + 128 * group_sum (c ∷ bs) < 128 = omega arith in
    inr (omega (arith, length-groups_last (b % 128 + 128 * group_sum (c ∷ bs)) small)))
    (λ some.
    let more = groups_before b (group_sum (c ∷ bs)) m.0 m.1 (omega arith) in
    ⊎_elim
    (λ same. inl (ap (λ (l : List ℕ). b ∷ l) same ∙ sym more))
    (λ longer. inr (omega (arith, ap length more)))
    (against (c ∷ bs) m.2))
    (cases_eq (group_sum (c ∷ bs)) 0)

pub others_longer : (bs : List ℕ) (n : ℕ) → Spells bs n → (bs ≡ groups_of n) ⊎ (length (groups_of n) < length bs)
others_longer bs n s =
    let P : ℕ → Type 0 = λ k. (bs ≡ groups_of k) ⊎ (length (groups_of k) < length bs) in
    subst P s.sum (against bs s.marks)

pub groups_shortest : (n : ℕ) → Shortest (groups_of n) n
groups_shortest n =
    record {
      spells = groups_spell n;
      least = λ cs s. ⊎_elim (λ same. omega (arith, ap length same)) (λ longer. omega arith) (others_longer cs n s);
    }

pub shortest_is : (bs : List ℕ) (n : ℕ) → Shortest bs n → bs ≡ groups_of n
shortest_is bs n s =
    ⊎_elim (λ same. same) (λ longer. absurd (omega (arith, s.least (groups_of n) (groups_spell n)))) (others_longer bs n s.spells)

-- a row whose last group is not 0 has a sum above 0
sum-some : (bs : List ℕ) → Marked bs → (last_of bs ≡ 0 → ⊥) → 0 < group_sum bs
sum-some [] m some = absurd m
sum-some (b ∷ []) m some = ⊎_elim (λ none. absurd (some none)) (λ h. omega arith) (cases_eq b 0)
sum-some (b ∷ (c ∷ bs)) m some = omega (arith, sum-some (c ∷ bs) m.2 some)

ends-shortest : (bs : List ℕ) → Marked bs → (last_of bs ≡ 0 → ⊥) → bs ≡ groups_of (group_sum bs)
ends-shortest [] m some = absurd m
ends-shortest (b ∷ []) m some =
    let sum : b % 128 + 128 * 0 ≡ b = omega arith in
    sym (ap groups_of sum ∙ groups_last b m)
ends-shortest (b ∷ (c ∷ bs)) m some =
    ap (λ (l : List ℕ). b ∷ l) (ends-shortest (c ∷ bs) m.2 some)
    ∙ sym (groups_before b (group_sum (c ∷ bs)) m.0 m.1 (sum-some (c ∷ bs) m.2 some))

one-shortest : (bs : List ℕ) → Marked bs → length bs ≡ 1 → bs ≡ groups_of (group_sum bs)
one-shortest [] m one = absurd m
one-shortest (b ∷ []) m one =
    let sum : b % 128 + 128 * 0 ≡ b = omega arith in
    sym (ap groups_of sum ∙ groups_last b m)
one-shortest (b ∷ (c ∷ bs)) m one = absurd (omega arith)

-- a row of two groups or more whose last is 0 is longer than it need be
ends-longer : (bs : List ℕ) → Marked bs → 1 < length bs → last_of bs ≡ 0 → length (groups_of (group_sum bs)) < length bs
ends-longer [] m long none = absurd m
ends-longer (b ∷ []) m long none = absurd (omega arith)
ends-longer (b ∷ (c ∷ [])) m long none =
    let small : b % 128 + 128 * group_sum (c ∷ []) < 128 = omega arith in
    omega (arith, length-groups_last (b % 128 + 128 * group_sum (c ∷ [])) small)
ends-longer (b ∷ (c ∷ (d ∷ bs))) m long none =
    ⊎_elim
    (λ nothing.
    let small : b % 128 + 128 * group_sum (c ∷ (d ∷ bs)) < 128 = omega arith in
    omega (arith, length-groups_last (b % 128 + 128 * group_sum (c ∷ (d ∷ bs))) small))
    (λ some.
    let more = groups_before b (group_sum (c ∷ (d ∷ bs))) m.0 m.1 (omega arith) in
    omega (arith, ap length more, ends-longer (c ∷ (d ∷ bs)) m.2 (omega arith) none))
    (cases_eq (group_sum (c ∷ (d ∷ bs))) 0)

ends-well : (bs : List ℕ) → Marked bs → bs ≡ groups_of (group_sum bs) → EndsWell bs
ends-well [] m same = absurd m
ends-well (b ∷ []) m same = inl refl
ends-well (b ∷ (c ∷ bs)) m same =
    inr (λ none. absurd (omega (arith, ap length same, ends-longer (b ∷ (c ∷ bs)) m (omega arith) none)))

pub shortest_ends_well : (bs : List ℕ) (n : ℕ) → Spells bs n → (bs ≡ groups_of n → EndsWell bs) × (EndsWell bs → bs ≡ groups_of n)
shortest_ends_well bs n s =
    let P : ℕ → Type 0 = λ k. (bs ≡ groups_of k → EndsWell bs) × (EndsWell bs → bs ≡ groups_of k) in
    subst P s.sum (ends-well bs s.marks, λ e. ⊎_elim (one-shortest bs s.marks) (ends-shortest bs s.marks) e)

-- the marks alone show where a row ends
shows_end : (bs cs r s : List ℕ) → Marked bs → Marked cs → bs ++ r ≡ cs ++ s → (bs ≡ cs) × (r ≡ s)
shows_end [] cs r s m n e = absurd m
shows_end (b ∷ bs) [] r s m n e = absurd n
shows_end (b ∷ []) (c ∷ []) r s m n e = (cc, cc)
shows_end (b ∷ []) (c ∷ (d ∷ cs)) r s m n e = let same : b ≡ c = cc in absurd (omega (arith, n.0))
shows_end (b ∷ (d ∷ bs)) (c ∷ []) r s m n e = let same : b ≡ c = cc in absurd (omega (arith, m.0))
shows_end (b ∷ (d ∷ bs)) (c ∷ (g ∷ cs)) r s m n e =
    let same : b ≡ c = cc in
    let others : d ∷ (bs ++ r) ≡ g ∷ (cs ++ s) = cc in
    let ih = shows_end (d ∷ bs) (g ∷ cs) r s m.2 n.2 others in
    ((λ i. same i ∷ ih.0 i), ih.1)

pub spelling-shows_end : (bs cs r s : List ℕ) (m n : ℕ) → Spells bs m → Spells cs n → bs ++ r ≡ cs ++ s → (bs ≡ cs) × (r ≡ s) × (m ≡ n)
spelling-shows_end bs cs r s m n p q e =
    let both = shows_end bs cs r s p.marks q.marks e in
    (both.0, both.1, sym p.sum ∙ ap group_sum both.0 ∙ q.sum)

pub groups_apart : (m n : ℕ) (r s : List ℕ) → groups_of m ++ r ≡ groups_of n ++ s → (m ≡ n) × (r ≡ s)
groups_apart m n r s e =
    let all = spelling-shows_end (groups_of m) (groups_of n) r s m n (groups_spell m) (groups_spell n) e in
    (all.2, all.1)

pub groups_some : (n : ℕ) → 0 < length (groups_of n)
groups_some n =
    ⊎_elim (λ small. omega (arith, length-groups_last n small)) (λ large. omega (arith, length-groups_more n large)) (cases_lt n 128)

-- so many groups hold no other numbers
pub few-groups : (k n : ℕ) → length (groups_of n) ≤ suc k → n < 128 ^ suc k
few-groups zero n h =
    ⊎_elim
    (λ small. omega arith)
    (λ large. absurd (omega (arith, length-groups_more n large, groups_some (n / 128))))
    (cases_lt n 128)
few-groups (suc k) n h =
    ⊎_elim
    (λ small. omega (arith, pow-suc 128 (suc k), few-groups k 0 (omega (arith, length-groups_last 0 (omega arith)))))
    (λ large. omega (arith, pow-suc 128 (suc k), few-groups k (n / 128) (omega (arith, length-groups_more n large))))
    (cases_lt n 128)

-- numbers one behind the other
pub row-spelled : (ns : List ℕ) → SpellsRow (all_groups ns) ns
row-spelled [] = refl
row-spelled (n ∷ ns) = (groups_of n, all_groups ns, refl, groups_shortest n, row-spelled ns)

pub row-only : (ns bs : List ℕ) → SpellsRow bs ns → bs ≡ all_groups ns
row-only [] bs e = e
row-only (n ∷ ns) bs p =
    p.2 ∙ (λ i. shortest_is p.0 n p.3 i ++ row-only ns p.1 p.4 i)

-- rows of as many numbers
pub rows_apart : (ms ns r s : List ℕ) → length ms ≡ length ns → all_groups ms ++ r ≡ all_groups ns ++ s → (ms ≡ ns) × (r ≡ s)
rows_apart [] [] r s long e = (refl, e)
rows_apart [] (n ∷ ns) r s long e = absurd (omega arith)
rows_apart (m ∷ ms) [] r s long e = absurd (omega arith)
rows_apart (m ∷ ms) (n ∷ ns) r s long e =
    let split : groups_of m ++ (all_groups ms ++ r) ≡ groups_of n ++ (all_groups ns ++ s) = sym (append_assoc (groups_of m) (all_groups ms) r) ∙ e ∙ append_assoc (groups_of n) (all_groups ns) s in
    let first = groups_apart m n (all_groups ms ++ r) (all_groups ns ++ s) split in
    let others = rows_apart ms ns r s (omega arith) first.1 in
    ((λ i. first.0 i ∷ others.0 i), others.1)

pub six_groups : (n : ℕ) → (n < 2 ^ 42 → length (groups_of n) ≤ 6) × (length (groups_of n) ≤ 6 → n < 2 ^ 42)
six_groups n = (length-groups_le 5 n, few-groups 5 n)
