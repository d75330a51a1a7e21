-- The template of a column. Assumes nothing.
use Rattle.std.proofs.Common.{◌≡◌, ℕ, ◌<◌, List, [], get_or, take, ℤ, ap, ◌∙◌, arith}
use Rattle.std.proofs.lemmas.List.{length-take-le, get_or-take, get_or-map}
use Rattle.lengths.specs.Gaps.{Parts}
use Rattle.ledger.specs.declared.records.ColumnRecord.{ColumnRecord}
use Rattle.ledger.specs.Ledger.{Item}
use Rattle.ledger.specs.Calls.{template_at}
use Rattle.ledger.specs.Items.{template_in}
use Rattle.templates.specs.declared.memory.Templates.{Templates}
use Rattle.templates.specs.declared.memory.Read.{Read}
use Rattle.templates.specs.Kept.{Done}
use Rattle.templates.specs.Readings.{template_by, templates_in}

module _ {E : Type 0} (count : ℕ) (num : E → ℕ → ℤ) (wide : Item → ℕ → ℤ) (text : List ℕ) (start : Parts) (d : Read) (t : Templates E) (done : Done count num wide text start d t) where
  template_at_lem : (c : ℕ) (e : ColumnRecord E) → c < d.columns → template_at (templates_in text d.pieces d.columns t) c ≡ template_in text (take d.pieces t.pieces) (get_or t.columns c e).template
  template_at_lem c e lt =
      let len = length-take-le d.columns t.columns done.columns in
      let F = template_by text (take d.pieces t.pieces) in
      get_or-map F (take d.columns t.columns) c e (record { u = []; v = [] }) (omega arith)
      ∙ ap F (get_or-take d.columns t.columns c e lt)
