-- Tokens that write nothing. Assumes nothing.
use Rattle.std.proofs.Common.{◌≡◌, ℕ, ◌<◌, ◌≤◌, Bool, false, List, length, take, ℤ, Result, refl, arith, Ok, Continue, Err}
use Rattle.std.proofs.ByRecursion.{All-weaker}
use Rattle.reader.specs.declared.tokens.Control.{Control}
use Rattle.reader.specs.declared.tokens.Control.TheVariants as control
use Rattle.lengths.specs.declared.gap.Gap.{Gap}
use Rattle.ledger.specs.Ledger.{Item}
use Rattle.ledger.specs.Preambles.{Reading, Outcome, goes_on, refuses, by_control}
use Rattle.templates.specs.declared.memory.Templates.{Templates}
use Rattle.templates.specs.declared.memory.Hand.{Hand}
use Rattle.templates.specs.Kept.{Fine, Turns}
use Rattle.templates.specs.Readings.{written, reading_of, moved, unmeant}
use Rattle.faults.specs.declared.Fault.{Fault}
use Rattle.templates.proofs.Fills.{fine-further}

module _ {E : Type 0} (count : ℕ) (num : E → ℕ → ℤ) (wide : Item → ℕ → ℤ) (text : List ℕ) (h : Hand E) (t : Templates E) where
  -- a refusal keeps what it says
  pub refusal : (o : Outcome) (f : Fault) → refuses f ≡ o → Turns count num wide text h t o t (Err f)
  refusal o f e = record { is = e; keeps = λ start s. tt }

  -- the hand at a place further on, with the mark and the gap that the token gives
  pub moved-turns : (end : ℕ) (m : Bool) (g : Gap) → h.place < end → end ≤ length text → (m ≡ false → h.marked ≡ false)
      → Turns count num wide text h t (goes_on (reading_of text (moved h end m g) t)) t (Ok (Continue (moved h end m g)))
  moved-turns end m g on le mark = record {
    is = refl;
    keeps = λ start s. (
      on,
      record {
        fits = let f = s.fits in record { columns = f.columns; pieces = f.pieces; few = f.few; below = f.below; few-u = f.few-u; few-v = f.few-v; bare = λ n. f.bare (mark n); lies = f.lies };
        holds = let o = s.holds in record { first = o.first; us = o.us; vs = o.vs; inside = le };
        pieces = All-weaker (Fine text h.place) (Fine text end) (λ x. fine-further text h.place end x (omega arith)) (take (written h) t.pieces) s.pieces;
        wide-u = s.wide-u;
        wide-v = s.wide-v;
      },
    );
  }

-- a control word does not look at the meaning of words
pub control-same : {X : Type 0} (text : List ℕ) (meaning : List ℕ → Result X ℕ) (r : Reading) (end : ℕ) (c : Control) → by_control text unmeant r end c ≡ by_control text meaning r end c
control-same text meaning r end control.Kern = refl
control-same text meaning r end control.Hfil = refl
control-same text meaning r end control.Tabskip = refl
control-same text meaning r end control.Cr = refl
control-same text meaning r end control.Omit = refl
control-same text meaning r end control.Span = refl
control-same text meaning r end control.Noalign = refl
control-same text meaning r end control.Hrule = refl
control-same text meaning r end control.Vskip = refl
