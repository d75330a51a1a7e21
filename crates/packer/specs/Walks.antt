-- Records as what they mean to items that are drawn. Assumes nothing.
use Rattle.std.specs.Prelude.{ℕ}
use Rattle.ledger.specs.declared.records.ItemRecord.{ItemRecord}
use Rattle.ledger.specs.declared.records.ItemRecord.TheVariants.{Space, CellWord, TemplateWord, Kern, Hfil}
use Rattle.packer.specs.declared.entry.Stand.{Stand}
use Rattle.packer.specs.declared.entry.Shared.{Shared}
use Rattle.packer.specs.Boxes.{Spot, Fills}

-- how many fills
abbrev pub filled : ItemRecord → ℕ
filled Space = 0
filled (CellWord n) = 0
filled (TemplateWord a n) = 0
filled (Kern z) = 0
filled Hfil = 1

abbrev pub spot_at : Stand → Spot
spot_at s = record { x = s.x; y = s.y; place = s.place }

abbrev pub fills_by : Shared → Fills
fills_by s = record { surplus = s.surplus; count = s.fills }
