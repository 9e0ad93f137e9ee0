use Rattle.std.proofs.Common.{◌+◌, rules}
use Rattle.paths.proofs.Scans.{plain_from}
use Rattle.paths.proofs.slashes.last_slash.Goals as goal

pub returns-clause-plain : goal.returns-clause-plain
returns-clause-plain c = plain_from c.args.text.now (c.unwrap_or.result + 1) (λ k h l e. search rules)
