use Rattle.std.proofs.Common.{◌≡◌, ℕ, ◌+◌, ◌-◌, List, length, take, map, ℤ, is_ok, Ok, sym, ap, ◌∙◌, subst, arith}
use Rattle.std.specs.List.{AllByRecursion}
use Rattle.extent.specs.Sizes.{Within}
use Rattle.ledger.specs.Calls.{laid_entries}
use Rattle.ledger.specs.Naturals.{natural_by}
use Rattle.rows.specs.Columns.{columns_in}
use Rattle.rows.specs.Good.{ledger_of}
use Rattle.widths.specs.declared.Entry.{Entry as Sized}
use Rattle.widths.specs.Entries.{on_side}
use Rattle.widths.specs.Settling.{Settled}
use Rattle.spans.specs.Refusals.{settle_fault}
use Rattle.spans.specs.Refusals.{unless as answered}
use Rattle.spans.specs.Tables.{starting, after, column}
use Rattle.rows.specs.declared.state.EntryRecord.{EntryRecord}
use Rattle.rows.specs.Sound.{Lies, span_of}
use Rattle.rows.proofs.Asking.{asks-fine, sides-stored, tame_entries, all_laid}
use Rattle.rows.proofs.rows.Rows.settle.Goals as goal

pub returns : goal.returns
returns g c = record {
  settled = λ wide sound gaps.
      let X = g.E.Extent in
      let le = c.args.self.now.draft.state.laid.entries in
      let es = c.args.self.now.draft.memory.entries.now in
      let q = c.args.self.now.preamble in
      let n = length (columns_in q.columns.now) in
      let whole : le - 0 ≡ le = omega arith in
      let ok : c.settle_laid.result ≡ Ok tt =
      c.settle_laid.ensures.answer
      ∙ ap (λ (i : ℕ). answered {X = Unit {0}} (settle_fault i (length c.args.cells.now) (length c.args.widths.now) (length c.args.gaps.now) (map span_of (take (le - 0) es))) tt) c.count.ensures
      ∙ ap (λ (i : ℕ). answered {X = Unit {0}} (settle_fault n (length c.args.cells.now) (length c.args.widths.now) (length c.args.gaps.now) (map span_of (take i es))) tt) whole
      ∙ asks-fine n (length c.args.cells.now) (length c.args.widths.now) (length c.args.gaps.now) (take le es) q.some c.requires.few c.requires.room.0 c.requires.room.1.0 c.requires.room.1.1 (all_laid (Lies n) le es sound.lies) in (
        ok,
        λ k kc.
            subst (λ (i : ℕ). Settled (map (natural_by wide k) (laid_entries (ledger_of q c.args.self.now.draft.state c.args.self.now.draft.memory))) (starting X.entered k c.args.gaps.now) (after X.entered k c.args.gaps.now) i (column X.num k c.settle_laid.new.widths)) c.count.ensures
            (subst (λ (xs : List (Sized ℤ)). Settled xs (starting X.entered k c.args.gaps.now) (after X.entered k c.args.gaps.now) c.count.result (column X.num k c.settle_laid.new.widths))
            (ap (λ (i : ℕ). on_side X.num k (map span_of (take i es))) whole ∙ sides-stored X.num k (take le es) ∙ sound.laid k kc)
            (c.settle_laid.ensures.settled (ap is_ok ok) k kc
            (record {
              entries = subst (λ (i : ℕ). AllByRecursion (λ e. Within 1073741823 e.width) (on_side X.num k (map span_of (take i es)))) (sym whole)
                  (tame_entries X.num k 1073741823 (take le es) (all_laid (λ (r : EntryRecord g.row.E.Denot). Within 1073741823 (X.num r.entry.width k)) le es (λ t d lt. sound.sized k t d kc lt)));
              starting = gaps 0;
              gaps = λ j. gaps (j + 1);
            }))),
      );
}
