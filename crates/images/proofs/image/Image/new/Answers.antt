use Rattle.images.proofs.Spelling.{upheld_counted, none_counted, meant_counted}
use Rattle.images.proofs.image.Image.new.Goals as goal

pub invariant_of-result : goal.invariant_of-result
invariant_of-result c = record { stands = upheld_counted c.args.bytes.now c.tally-count.result c.tally-count.ensures; refused = none_counted c.args.bytes.now c.tally-count.result c.tally-count.ensures }

pub returns-clause-means : goal.returns-clause-means
returns-clause-means c = meant_counted c.args.bytes.now c.tally-count.result c.tally-count.ensures
