use Rattle.sharing.proofs.Meeting.{settings-met}
use Rattle.sharing.proofs.laws.settings_meet.Goals as goal

pub returns : goal.returns
returns c = settings-met
