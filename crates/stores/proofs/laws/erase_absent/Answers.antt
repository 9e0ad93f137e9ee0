use Rattle.std.proofs.Common.{ap}
use Rattle.stores.specs.Answers.{answer}
use Rattle.stores.proofs.Absent.{erase_absent_lem}
use Rattle.stores.proofs.laws.erase_absent.Goals as goal

pub returns : goal.returns
returns c k m size h = erase_absent_lem m k size (ap answer h)
