use Rattle.std.proofs.Common.{◌≡◌, ℕ, ◌+◌, ◌<◌, true, get_or, pos, rules}
use Rattle.widths.specs.Merging.{seen}
use Rattle.spans.specs.Tables.{starting, after}
use Rattle.rows.proofs.Asking.{sound-settles}
use Rattle.table.specs.Promises.{has_column}
use Rattle.table.specs.Views.{columns_in, laid_in, lengths_in, wide_in}
use Rattle.table.proofs.Askings.{lengths-within, asked-some}
use Rattle.table.proofs.table.Table.ask.Goals as goal

pub returns-then-not-has-clause-settled : goal.returns-then-not-has-clause-settled
returns-then-not-has-clause-settled g c =
    let t = c.args.self.now in
    let q = t.rows.preamble in
    let X = g.M.Extent.Extent in
    let within : (k j : ℕ) → k < X.count → _ = λ k j kc. g.met.M.Extent.Extent.bounded k 16777215 (get_or (lengths_in t) j (pos 0)) kc (lengths-within q j) in
    λ k kc. sound-settles X.count X.num (wide_in t) q t.rows.draft.state t.rows.draft.memory t.meant t.few (starting X.entered k (lengths_in t)) (after X.entered k (lengths_in t)) (within k 0 kc) (λ j. within k (j + 1) kc) k kc

pub returns-clause-answer : goal.returns-clause-answer
returns-clause-answer g c =
    let t = c.args.self.now in
    let X = g.M.Extent.Extent in
    let here : has_column (columns_in t) c.args.column ≡ true = search rules in
    λ k kc. asked-some (laid_in t k) (after X.entered k (lengths_in t)) (columns_in t) c.args.column (seen X.num k c.width_in.result) here (c.width_in.ensures k kc)

pub returns-clause-settled : goal.returns-clause-settled
returns-clause-settled g c =
    let t = c.args.self.now in
    let q = t.rows.preamble in
    let X = g.M.Extent.Extent in
    let within : (k j : ℕ) → k < X.count → _ = λ k j kc. g.met.M.Extent.Extent.bounded k 16777215 (get_or (lengths_in t) j (pos 0)) kc (lengths-within q j) in
    λ k kc. sound-settles X.count X.num (wide_in t) q t.rows.draft.state t.rows.draft.memory t.meant t.few (starting X.entered k (lengths_in t)) (after X.entered k (lengths_in t)) (within k 0 kc) (λ j. within k (j + 1) kc) k kc
