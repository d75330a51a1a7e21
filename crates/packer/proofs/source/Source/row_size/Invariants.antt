use Rattle.std.proofs.Common.{◌≡◌, ℕ, ◌+◌, ◌≤◌, true, List, length, drop, ℤ}
use Rattle.measure.specs.declared.measurer.Measurer.{Ghosts as Meaning}
use Rattle.extent.specs.declared.Extent.{Ghosts as Sides}
use Rattle.ledger.specs.declared.records.ItemRecord.{ItemRecord}
use Rattle.ledger.specs.Chunks.{total}
use Rattle.ledger.specs.Items.{taken}
use Rattle.ledger.specs.Lawful.{all_fine}
use Rattle.packer.specs.declared.source.Source.{Source}
use Rattle.packer.specs.Views.{look_in, items_from}
use Rattle.packer.proofs.source.Source.row_size.Given as goal
use Rattle.packer.proofs.Heights.{Sizing}

pub record Keeps {X E : Type 0} (m : Meaning X E) (k : Sides E) (src : Source X E) (h d : ℤ) (all rest : List ItemRecord) (start place : ℕ) : Type 0 where
  pub sizing : Sizing (look_in m k src) h d (items_from src rest place) (items_from src all start)
  pub known : all_fine (m.meaning src.measurer.now) (items_from src rest place) ≡ true
  pub text : place + total taken rest ≤ length src.lines.now

abbrev pub invariant-loop-item : goal.invariant-loop-item
invariant-loop-item g l = Keeps g.M.Measurer g.M.Extent.Extent l.self l.size.height l.size.depth l.items (drop l.item-index l.items) l.place-2 l.place
