-- A table on which nothing is laid. Assumes nothing.
use Rattle.std.proofs.Common.{◌≡◌, ℕ, ◌<◌, Bool, true, false, length, get_or, ℤ, refl, arith}
use Rattle.extent.specs.Sizes.{Within}
use Rattle.ledger.specs.declared.records.Owed.{Owed}
use Rattle.ledger.specs.Chunks.{chunks, total}
use Rattle.ledger.specs.Ledger.{Item}
use Rattle.ledger.specs.Calls.{template_at}
use Rattle.ledger.specs.Naturals.{natural}
use Rattle.rows.specs.Columns.{columns_in, widths_in}
use Rattle.rows.specs.declared.state.Memory.{Memory}
use Rattle.rows.specs.declared.preamble.Preamble.{Preamble}
use Rattle.rows.specs.Held.{FitBy}
use Rattle.rows.specs.Good.{Good, templates_of, ledger_of, none, unused, new_ledger}
use Rattle.rows.specs.Sound.{Sound}

module _ {E : Type 0} (q : Preamble E) (m : Memory E) (z : E) where
  pub new-ledger : ledger_of q (unused z) m ≡ new_ledger
  unfolding chunks
  new-ledger = refl

  new-fit : FitBy 0 none none 0 m.lines.now m.entries.now m.items.now m.text.now
  unfolding total
  new-fit = record {
    lines = omega arith;
    items = omega arith;
    entries = omega arith;
    text = omega arith;
    since_items = omega arith;
    begin-items = omega arith;
    since_entries = omega arith;
    since_text = omega arith;
    laid-entries = refl;
    laid-items = refl;
    laid-text = refl;
    hand-items = refl;
    hand-text = refl;
  }

  pub new-good : Good (unused z) m q
  new-good = let some = q.some in record {
    fit = new-fit;
    column = omega arith;
    items = omega arith;
    entries = omega arith;
    lines = omega arith;
    text = omega arith;
  }

  closed : {X : Type 0} → ◌≡◌ {A = Bool} false true → X
  closed e = let y : ◌≡◌ {A = ℕ} 0 1 = cc in absurd (omega arith)

  pub new-sound : (count : ℕ) (num : E → ℕ → ℤ) (wide : Item → ℕ → ℤ)
      → ((c k : ℕ) (d : Owed E) → k < count → c < length (columns_in q.columns.now) → num (get_or (widths_in q.columns.now) c d).u k ≡ natural wide (template_at (templates_of q) c).u k)
      → ((c k : ℕ) (d : Owed E) → k < count → c < length (columns_in q.columns.now) → num (get_or (widths_in q.columns.now) c d).v k ≡ natural wide (template_at (templates_of q) c).v k)
      → ((c k : ℕ) → k < count → Within 68719476736 (natural wide (template_at (templates_of q) c).u k))
      → ((c k : ℕ) → k < count → Within 68719476736 (natural wide (template_at (templates_of q) c).v k)) → Sound count num wide q (unused z) m
  unfolding chunks
  new-sound count num wide us vs small_u small_v = record {
    row = λ e. closed e;
    near = λ e. closed e;
    us = us;
    vs = vs;
    small_u = small_u;
    small_v = small_v;
    laid = λ k kc. refl;
    done = λ e. closed e;
    sized = λ k t d kc lt. absurd (omega arith);
    sized-done = λ e. closed e;
    lies = λ t d lt. absurd (omega arith);
    lies-done = λ e. closed e;
    begins = λ e. closed e;
  }
