use Rattle.stores.proofs.Changes.{other_keys_stay_lem}
use Rattle.stores.proofs.laws.other_keys_stay.Goals as goal

pub returns : goal.returns
returns c = other_keys_stay_lem
