use Rattle.boxlist.proofs.Decided.{writable-decided}
use Rattle.boxlist.proofs.Telling.{bytes-tell_list, list-shows_end, unwritten_idle}
use Rattle.boxlist.proofs.Sizes.{six_each}
use Rattle.boxlist.proofs.bytes_tell_the_list.Goals as goal

pub returns : goal.returns
returns c =
    record {
      may = writable-decided;
      tell = bytes-tell_list;
      ends = list-shows_end;
      idle = unwritten_idle;
      six = six_each;
    }
