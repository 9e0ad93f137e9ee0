use Rattle.std.proofs.Common.{unwrap_or, sym, ◌∙◌}
use Rattle.images.proofs.Spelling.{length-listed}
use Rattle.images.proofs.store.ImagePairRun.count.Goals as goal

pub returns : goal.returns
returns c = c.unwrap_or.ensures ∙ sym (length-listed c.args.self.now.bytes.now 0 (unwrap_or c.args.self.now.count 0))
