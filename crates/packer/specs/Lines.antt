-- Lines one below the other, without space between them. Assumes nothing.
use Rattle.std.specs.Prelude.{ℕ, ◌+◌, List, [], ◌∷◌, ◌++◌, ℤ, pos, ◌+ℤ◌}
use Rattle.std.specs.List.{flat_map}
use Rattle.boxlist.specs.declared.Kind.TheVariants as kinds
use Rattle.boxlist.specs.declared.Store.TheVariants as stores
use Rattle.boxlist.specs.declared.BoxRecord.{BoxRecord}
use Rattle.ledger.specs.Chunks.{total}
use Rattle.ledger.specs.Ledger.{Entry, Line, row, rule, gap}
use Rattle.ledger.specs.Calls.{items_in, entries_in}
use Rattle.packer.specs.Looks.{Look, most}
use Rattle.packer.specs.Boxes.{Columns, entry_bytes, row_boxes}

-- a \hrule is 0.4pt high
abbrev pub rule_height : Look → ℤ
rule_height l = l.entered (pos 26214)

-- a row is as high and as deep as the highest and the deepest of its words
abbrev pub row_height : Look → List Entry → ℤ
row_height l es = most l.high (flat_map items_in es)

abbrev pub row_depth : Look → List Entry → ℤ
row_depth l es = most l.deep (flat_map items_in es)

-- how far a line moves what follows it, and how many bytes of the line text it has
abbrev pub line_size : Look → Line → ℤ
line_size l (row es) = row_height l es +ℤ row_depth l es
line_size l rule = rule_height l
line_size l (gap z) = l.entered z

abbrev pub line_bytes : Line → ℕ
line_bytes s = total entry_bytes (entries_in s)

-- a \hrule is as wide as the table; y is its lower edge
abbrev pub rule_box : Look → ℤ → ℤ → BoxRecord
rule_box l t top = record { kind = kinds.Rule; x = pos 0; y = top +ℤ rule_height l; width = t; height = rule_height l; depth = pos 0; store = stores.Preamble; place = pos 0; len = pos 0 }

-- the boxes of a line of a table t wide, from a top and a place in the line text on
abbrev pub line_boxes : Look → Columns → ℤ → ℤ → ℕ → Line → List BoxRecord
line_boxes l c t top p (row es) = row_boxes l c (top +ℤ row_height l es) p es
line_boxes l c t top p rule = rule_box l t top ∷ []
line_boxes l c t top p (gap z) = []

unfoldable pub table_boxes : Look → Columns → ℤ → ℤ → ℕ → List Line → List BoxRecord
table_boxes l c t top p [] = []
table_boxes l c t top p (s ∷ ss) = line_boxes l c t top p s ++ table_boxes l c t (top +ℤ line_size l s) (p + line_bytes s) ss

unfoldable pub total_height : Look → List Line → ℤ
total_height l [] = pos 0
total_height l (s ∷ ss) = line_size l s +ℤ total_height l ss
