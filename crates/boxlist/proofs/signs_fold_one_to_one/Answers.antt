use Rattle.boxlist.proofs.Folds.{folds_up, folds_below, folds_apart, folds_onto}
use Rattle.boxlist.proofs.signs_fold_one_to_one.Goals as goal

pub returns : goal.returns
returns c = record { up = folds_up; below = folds_below; apart = folds_apart; onto = folds_onto }
