use Rattle.keys.proofs.PathKeys.{path_keys_are_keys_lem}
use Rattle.keys.proofs.laws.path_keys_are_keys.Goals as goal

pub returns : goal.returns
returns c = path_keys_are_keys_lem
