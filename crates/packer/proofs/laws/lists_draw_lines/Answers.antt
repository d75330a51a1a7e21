use Rattle.packer.proofs.Counts.{draws-all}
use Rattle.packer.proofs.Names.{names-words}
use Rattle.packer.proofs.Places.{places-words, places-rules}
use Rattle.packer.proofs.Writes.{may-be_written}
use Rattle.packer.proofs.laws.lists_draw_lines.Goals as goal

pub returns : goal.returns
returns c = record {
  all = draws-all;
  names = names-words;
  words = places-words;
  rules = places-rules;
  writes = may-be_written;
}
