use Rattle.members.proofs.Walks.{look_ups_tell_lem}
use Rattle.members.proofs.laws.look_ups_tell.Goals as goal

pub returns : goal.returns
returns c = look_ups_tell_lem
