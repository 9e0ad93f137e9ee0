use Rattle.paths.proofs.Memory.{same_names_same_memory_lem}
use Rattle.paths.proofs.laws.same_names_same_memory.Goals as goal

pub returns : goal.returns
returns c = same_names_same_memory_lem
