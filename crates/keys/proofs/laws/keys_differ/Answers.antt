use Rattle.keys.proofs.Prefixes.{keys_differ_lem}
use Rattle.keys.proofs.laws.keys_differ.Goals as goal

pub returns : goal.returns
returns c = keys_differ_lem
