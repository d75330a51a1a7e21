-- Which records have a box. Assumes nothing.
use Rattle.std.specs.Prelude.{ℕ}
use Rattle.ledger.specs.declared.records.ItemRecord.{ItemRecord}
use Rattle.ledger.specs.declared.records.ItemRecord.TheVariants.{Space, CellWord, TemplateWord, Kern, Hfil}
use Rattle.rows.specs.declared.state.LineRecord.{LineRecord}
use Rattle.rows.specs.declared.state.LineRecord.TheVariants.{Row, Rule, Gap}

-- a word
abbrev pub boxed : ItemRecord → ℕ
boxed Space = 0
boxed (CellWord n) = 1
boxed (TemplateWord a n) = 1
boxed (Kern z) = 0
boxed Hfil = 0

-- a rule; a row has those of its items
abbrev pub ruled : LineRecord → ℕ
ruled (Row n) = 0
ruled Rule = 1
ruled (Gap z) = 0
