-- Records that are ready to be drawn, cut in two. Assumes nothing.
use Rattle.std.proofs.Common.{◌≡◌, ℕ, zero, suc, ◌+◌, ◌<◌, ◌≤◌, true, List, [], ◌∷◌, length, take, drop, ℤ, sym, ap, ◌∙◌, subst, arith}
use Rattle.std.proofs.lemmas.List.{length-take, length-drop, drop-drop, drop-take, take-take}
use Rattle.measure.specs.declared.measurer.Measurer.{Ghosts as Meaning}
use Rattle.extent.specs.declared.Extent.{Ghosts as Sides}
use Rattle.ledger.specs.Chunks.{total}
use Rattle.ledger.specs.Items.{taken}
use Rattle.ledger.specs.Ledger.{Item}
use Rattle.ledger.specs.Lawful.{fine, all_fine}
use Rattle.ledger.specs.declared.records.ItemRecord.{ItemRecord}
use Rattle.rows.specs.declared.state.EntryRecord.{EntryRecord}
use Rattle.rows.specs.Held.{counted}
use Rattle.packer.specs.declared.source.Source.{Source}
use Rattle.packer.specs.Looks.{Look}
use Rattle.packer.specs.Boxes.{wide_in}
use Rattle.packer.specs.Views.{look_in, items_from, Stored}
use Rattle.packer.proofs.Cuts.{total-cut, all-front, all-behind, items-front, items-behind}

-- the widths of the first n entries, and of those behind them
module _ {E : Type 0} (num : E → ℕ → ℤ) (l : Look) (k w : ℕ) where
  pub stored-front : (n : ℕ) (es : List (EntryRecord E)) (xs : List Item) → Stored num l k w es xs → Stored num l k w (take n es) (take (total counted (take n es)) xs)
  unfolding total
  stored-front zero es xs h = tt
  stored-front (suc n) [] xs h = tt
  stored-front (suc n) (e ∷ es) xs h =
      let rest = total counted (take n es) in
      let a : take e.count (take (e.count + rest) xs) ≡ take e.count xs = take-take e.count (e.count + rest) xs (omega arith) in
      let b = drop-take e.count rest xs in
      let t = stored-front n es (drop e.count xs) h.3 in
      (h.0 ∙ ap (wide_in l) (sym a), h.1, h.2, subst (Stored num l k w (take n es)) (sym b) t)

  pub stored-behind : (n : ℕ) (es : List (EntryRecord E)) (xs : List Item) → Stored num l k w es xs → Stored num l k w (drop n es) (drop (total counted (take n es)) xs)
  unfolding total
  stored-behind zero es xs h = h
  stored-behind (suc n) [] xs h = tt
  stored-behind (suc n) (e ∷ es) xs h = subst (Stored num l k w (drop n es)) (drop-drop (total counted (take n es)) e.count xs) (stored-behind n es (drop e.count xs) h.3)

-- entries with the items that they take, whose bytes begin at a place, and what a drawing asks of them
pub record Ready {X E : Type 0} (m : Meaning X E) (k : Sides E) (src : Source X E) (w : ℕ) (es : List (EntryRecord E)) (is : List ItemRecord) (p : ℕ) : Type 0 where
  pub few : length is ≤ 16384
  pub known : all_fine (m.meaning src.measurer.now) (items_from src is p) ≡ true
  pub stored : Stored k.num (look_in m k src) src.side w es (items_from src is p)
  pub counts : total counted es ≤ length is
  pub text : p + total taken is ≤ length src.lines.now

module _ {X E : Type 0} {m : Meaning X E} {k : Sides E} {src : Source X E} {w : ℕ} {es : List (EntryRecord E)} {is : List ItemRecord} {p : ℕ} (ready : Ready m k src w es is p) where
  -- the first c items, and those behind them
  module _ (c : ℕ) where
    pub few-front : length (take c is) ≤ 16384
    few-front = omega (arith, length-take c is, ready.few)

    pub text-front : p + total taken (take c is) ≤ length src.lines.now
    text-front = omega (arith, total-cut taken is c, ready.text)

    pub known-front : all_fine (m.meaning src.measurer.now) (items_from src (take c is) p) ≡ true
    known-front =
        subst (λ (xs : List Item). all_fine (m.meaning src.measurer.now) xs ≡ true) (sym (items-front src.preamble.now src.lines.now is c p)) (all-front (fine (m.meaning src.measurer.now)) c (items_from src is p) ready.known)

    few-behind : length (drop c is) ≤ 16384
    few-behind = omega (arith, length-drop c is, ready.few)

    text-behind : (p + total taken (take c is)) + total taken (drop c is) ≤ length src.lines.now
    text-behind = omega (arith, total-cut taken is c, ready.text)

    known-behind : all_fine (m.meaning src.measurer.now) (items_from src (drop c is) (p + total taken (take c is))) ≡ true
    known-behind =
        subst (λ (xs : List Item). all_fine (m.meaning src.measurer.now) xs ≡ true) (sym (items-behind src.preamble.now src.lines.now is c p)) (all-behind (fine (m.meaning src.measurer.now)) c (items_from src is p) ready.known)

  -- the first n entries with their items, and those behind them
  module _ (n : ℕ) where
    pub ready-front : Ready m k src w (take n es) (take (total counted (take n es)) is) p
    ready-front =
        let c = total counted (take n es) in
        record {
          few = few-front c;
          known = known-front c;
          stored = subst (Stored k.num (look_in m k src) src.side w (take n es)) (sym (items-front src.preamble.now src.lines.now is c p)) (stored-front k.num (look_in m k src) src.side w n es (items_from src is p) ready.stored);
          counts = omega (arith, length-take c is, total-cut counted es n, ready.counts);
          text = text-front c;
        }

    pub ready-behind : Ready m k src w (drop n es) (drop (total counted (take n es)) is) (p + total taken (take (total counted (take n es)) is))
    ready-behind =
        let c = total counted (take n es) in
        record {
          few = few-behind c;
          known = known-behind c;
          stored = subst (Stored k.num (look_in m k src) src.side w (drop n es)) (sym (items-behind src.preamble.now src.lines.now is c p)) (stored-behind k.num (look_in m k src) src.side w n es (items_from src is p) ready.stored);
          counts = omega (arith, length-drop c is, total-cut counted es n, ready.counts);
          text = text-behind c;
        }

-- one entry
module _ {X E : Type 0} {m : Meaning X E} {k : Sides E} {src : Source X E} {w : ℕ} {e : EntryRecord E} {es : List (EntryRecord E)} {is : List ItemRecord} {p : ℕ} (ready : Ready m k src w (e ∷ es) is p) where
  pub first-fits : e.count + total counted es ≤ length is
  unfolding total
  first-fits = ready.counts

  pub first-stored : k.num e.entry.width src.side ≡ wide_in (look_in m k src) (items_from src (take e.count is) p)
  first-stored = ready.stored.0 ∙ ap (wide_in (look_in m k src)) (sym (items-front src.preamble.now src.lines.now is e.count p))

  pub first-lies : (e.entry.first ≤ e.entry.last) × (e.entry.last < w)
  first-lies = (ready.stored.1, ready.stored.2)

  pub ready-next : Ready m k src w es (drop e.count is) (p + total taken (take e.count is))
  unfolding total
  ready-next =
      subst (λ (c : ℕ). Ready m k src w es (drop c is) (p + total taken (take c is))) (omega arith) (ready-behind ready 1)
