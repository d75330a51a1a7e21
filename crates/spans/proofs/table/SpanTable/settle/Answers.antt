use Rattle.std.proofs.Common.{map, length, sym}
use Rattle.spans.proofs.Refused.{merge-fits, all_lie-proper}
use Rattle.spans.proofs.table.SpanTable.settle.Goals as goal

pub note_all-requires : goal.note_all-requires
note_all-requires g c =
    let t = c.args.self.now in
    let fits = merge-fits t.columns (length t.cells.now) (length c.args.widths.now) (length c.args.gaps.now) c.in_ok-check_merge.ensures in
    (fits.few, (fits.room_for, all_lie-proper t.columns (map g.R.Spanned.entry c.args.entries.now) (sym c.if-not-all_lie.ensures)))
