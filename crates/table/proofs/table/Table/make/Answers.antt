use Rattle.std.proofs.Common.{◌≡◌, ℕ, ◌-◌, min, length, take, sym, refl, ap, subst, ◌∙◌, arith, rules}
use Rattle.std.proofs.lemmas.List.{length-map, length-take-le}
use Rattle.ledger.specs.declared.records.ColumnRecord.{ColumnRecord}
use Rattle.ledger.specs.Naturals.{wide_of}
use Rattle.rows.specs.declared.state.State.{State}
use Rattle.rows.specs.declared.preamble.Preamble.{Preamble}
use Rattle.ledger.specs.Lawful.{FineTemplates, Lawful}
use Rattle.ledger.proofs.Lawfuls.{lawful-new}
use Rattle.rows.specs.Good.{room_in, templates_of, ledger_of}
use Rattle.rows.proofs.News.{new-ledger}
use Rattle.table.specs.Making.{start_of, read_from, lines_kept}
use Rattle.table.proofs.Keeps.{made-fine}
use Rattle.table.proofs.Shapes.{templates-are, starts-sound, room-made}
use Rattle.table.proofs.table.Table.make.Goals as goal

pub invariant_of-result : goal.invariant_of-result
invariant_of-result g c =
    let pe = c.prepare-made.ensures in
    let v = c.view-preamble.ensures in
    let n = c.new.ensures in
    let r = c.new.result in
    let X = g.M.Extent.Extent in
    let wide = wide_of g.M.Measurer g.M.Extent.Extent c.args.measurer.now in
    let P = λ (x : Preamble g.row.M-Extent.Denot). x in
    let few = pe.shaped.lying.few in
    let columns = ap (λ (x : Preamble g.row.M-Extent.Denot). length x.columns.now) n.preamble ∙ v.sizes.0 in
    let meaning = g.M.Measurer.meaning c.args.measurer.now in
    let new = ap (λ (s : State g.row.M-Extent.Denot). ledger_of r.preamble s r.draft.memory) n.state ∙ new-ledger r.preamble r.draft.memory c.zero.result in
    let are =
    templates-are c.args.text.now c.prepare-made.new.templates c.prepare-made.result.read _ _ pe.shaped r.preamble
    (ap (λ (x : Preamble g.row.M-Extent.Denot). x.start) n.preamble ∙ v.start) (ap (λ (x : Preamble g.row.M-Extent.Denot). x.columns.now) n.preamble ∙ v.columns)
    (ap (λ (x : Preamble g.row.M-Extent.Denot). x.pieces.now) n.preamble ∙ v.pieces) (ap (λ (x : Preamble g.row.M-Extent.Denot). x.text.now) n.preamble ∙ v.text)
    (ap (λ (x : Preamble g.row.M-Extent.Denot). length x.columns.now) n.preamble ∙ v.sizes.0)
    ∙ pe.shaped.templates in
    let fit : FineTemplates meaning (templates_of r.preamble) = subst (FineTemplates meaning) (sym are) (made-fine c.args.text.now meaning (start_of c.args.start)) in
    let long = length-map r.preamble.columns.now (λ (x : ColumnRecord g.row.M-Extent.Denot). x.template) in
    record {
      few = omega arith;
      meant = starts-sound c.args.text.now c.prepare-made.new.templates c.prepare-made.result.read _ _ pe.shaped r.preamble
          (ap (λ (x : Preamble g.row.M-Extent.Denot). x.start) n.preamble ∙ v.start) (ap (λ (x : Preamble g.row.M-Extent.Denot). x.columns.now) n.preamble ∙ v.columns)
          (ap (λ (x : Preamble g.row.M-Extent.Denot). x.pieces.now) n.preamble ∙ v.pieces) (ap (λ (x : Preamble g.row.M-Extent.Denot). x.text.now) n.preamble ∙ v.text)
          (ap (λ (x : Preamble g.row.M-Extent.Denot). length x.columns.now) n.preamble ∙ v.sizes.0)
          r.draft.memory c.zero.result r.draft.state n.state X.count X.num wide pe.widths;
      fitting = fit;
      lawful = subst (Lawful meaning X.count wide (templates_of r.preamble)) (sym new) (lawful-new meaning X.count wide (templates_of r.preamble));
    }

pub returns : goal.returns
returns g c =
    let pe = c.prepare-made.ensures in
    let v = c.view-preamble.ensures in
    let n = c.new.ensures in
    let r = c.new.result in
    let p = c.prepare-made.result in
    let a = c.args.memory in
    let R = read_from c.args.text.now (g.M.Measurer.meaning c.args.measurer.now) (start_of c.args.start) in
    let k = c.lines_kept-kept.result in
    let len : length (take (k - 0) a.lines.now) ≡ lines_kept p.made (length a.lines.now) = let z : k - 0 ≡ k = omega arith in ap (λ (i : ℕ). length (take i a.lines.now)) z ∙ length-take-le k a.lines.now c.lines_kept-kept.ensures.within ∙ c.lines_kept-kept.ensures.is in
    let starts = ap (λ (x : Preamble g.row.M-Extent.Denot). x.start) n.preamble ∙ v.start in
    let columns = ap (λ (x : Preamble g.row.M-Extent.Denot). x.columns.now) n.preamble ∙ v.columns in
    record {
      answer = pe.made;
      templates =
          templates-are c.args.text.now c.prepare-made.new.templates c.prepare-made.result.read _ _ pe.shaped r.preamble starts columns
          (ap (λ (x : Preamble g.row.M-Extent.Denot). x.pieces.now) n.preamble ∙ v.pieces) (ap (λ (x : Preamble g.row.M-Extent.Denot). x.text.now) n.preamble ∙ v.text)
          (ap (λ (x : Preamble g.row.M-Extent.Denot). length x.columns.now) n.preamble ∙ v.sizes.0)
          ∙ pe.shaped.templates;
      gaps = search rules;
      text = search rules;
      ledger = ap (λ (s : State g.row.M-Extent.Denot). ledger_of r.preamble s r.draft.memory) n.state ∙ new-ledger r.preamble r.draft.memory c.zero.result;
      room =
          ap room_in n.memory
          ∙ ap (λ (n : ℕ). record { items = min 16384 (length a.items.now); entries = min 8192 (length a.entries.now); lines = min 1024 n; text = min 65535 (length a.text.now) }) len
          ∙ room-made R p.made (min 16384 (length a.items.now)) (min 8192 (length a.entries.now)) (length a.lines.now) (min 65535 (length a.text.now)) pe.made;
      measurer = refl;
    }
