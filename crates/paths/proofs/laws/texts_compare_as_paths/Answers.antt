use Rattle.paths.proofs.PathOrder.{texts_compare_as_paths_lem}
use Rattle.paths.proofs.laws.texts_compare_as_paths.Goals as goal

pub returns : goal.returns
returns c = texts_compare_as_paths_lem
