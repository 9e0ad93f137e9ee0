use Rattle.keys.proofs.Prefixes.{keys_under_prefix_lem}
use Rattle.keys.proofs.laws.keys_under_prefix.Goals as goal

pub returns : goal.returns
returns c = keys_under_prefix_lem
