use Rattle.boxlist.proofs.Spelling.{groups_shortest, others_longer, shortest_ends_well, spelling-shows_end, groups_apart, six_groups}
use Rattle.boxlist.proofs.numbers_have_one_spelling.Goals as goal

pub returns : goal.returns
returns c =
    record {
      shortest = groups_shortest;
      others = others_longer;
      last = shortest_ends_well;
      ends = spelling-shows_end;
      apart = groups_apart;
      six = six_groups;
    }
