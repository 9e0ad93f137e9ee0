use Rattle.stores.proofs.Same.{look_ups_tell_pairs_lem}
use Rattle.stores.proofs.laws.look_ups_tell_pairs.Goals as goal

pub returns : goal.returns
returns c = look_ups_tell_pairs_lem
