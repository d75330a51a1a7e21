use Rattle.boxlist.proofs.numbers.Output.+put.Given as goal

abbrev pub decreases-put : goal.decreases-put
decreases-put l = l.n
