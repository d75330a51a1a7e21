use Rattle.sharing.proofs.Rules.{portion-none, portion-all, portion_mono, portion-among_none, portion-samples}
use Rattle.sharing.proofs.rule.portions_are_fair.Goals as goal

pub returns-clause-none : goal.returns-clause-none
returns-clause-none c = portion-none

pub returns-clause-all : goal.returns-clause-all
returns-clause-all c = portion-all

pub returns-clause-never_falls : goal.returns-clause-never_falls
returns-clause-never_falls c = portion_mono

pub returns-clause-among_none : goal.returns-clause-among_none
returns-clause-among_none c = portion-among_none

pub returns-clause-samples : goal.returns-clause-samples
returns-clause-samples c = portion-samples
