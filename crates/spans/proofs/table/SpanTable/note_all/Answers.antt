use Rattle.std.proofs.Common.{[], ◌∷◌, ◌++◌, map, take, sym, ap, ◌∙◌, subst, arith}
use Rattle.std.proofs.lemmas.List.{take_more}
use Rattle.spans.specs.Tables.{Tabled}
use Rattle.spans.proofs.Refused.{proper-at, spanned-at}
use Rattle.spans.proofs.Tabling.{tabled_none, tabled_push}
use Rattle.spans.proofs.table.SpanTable.note_all.Goals as goal

pub loop-entry-init : goal.loop-entry-init
loop-entry-init g c = (
  c.empty.ensures.size.columns,
  c.empty.ensures.size.room,
  tabled_none g.E.Extent.count g.E.Extent.num c.args.self.now.columns c.empty.new.self.cells.now c.requires.0 c.empty.ensures.emptied,
)

pub widen-requires : goal.widen-requires
widen-requires g c =
    let f = g.R.Spanned.entry in
    let rs = c.args.entries.now in
    let at = spanned-at f rs c.loop-entry.entry-index c.entry-item.result c.span-span.result c.loop-entry-test.true c.entry-item.is c.span-span.ensures in
    let l = proper-at c.args.self.now.columns (map f rs) c.loop-entry.entry-index c.span-span.result at.0 at.1 c.requires.1.1 in omega arith

pub loop-entry-preserved : goal.loop-entry-preserved
loop-entry-preserved g c =
    let m = g.E.Extent in
    let f = g.R.Spanned.entry in
    let rs = c.args.entries.now in
    let n = c.args.self.now.columns in
    let i = c.loop-entry.entry-index in
    let e = c.span-span.result in
    let at = spanned-at f rs i c.entry-item.result e c.loop-entry-test.true c.entry-item.is c.span-span.ensures in
    let l = proper-at n (map f rs) i e at.0 at.1 c.requires.1.1 in
    let now = c.widen.new.self.cells.now in
    let pushed : Tabled m.count m.num n now (take i (map f rs) ++ e ∷ []) =
    tabled_push m.count m.num n c.loop-entry.self.cells.now now e c.requires.0 l.0 l.1 c.widen.ensures.here c.widen.ensures.others (take i (map f rs)) c.loop-entry.invariant.2 in (
      c.widen.ensures.size.columns ∙ c.loop-entry.invariant.0,
      c.widen.ensures.size.room ∙ c.loop-entry.invariant.1,
      subst (Tabled m.count m.num n now) (ap (λ x. take i (map f rs) ++ x ∷ []) at.1 ∙ sym (take_more (map f rs) i e at.0)) pushed,
    )
