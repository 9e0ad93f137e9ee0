use Rattle.grammar.proofs.Fronts.{objects_end}
use Rattle.grammar.proofs.laws.objects_end_by_themselves.Goals as goal

pub returns : goal.returns
returns c = objects_end
