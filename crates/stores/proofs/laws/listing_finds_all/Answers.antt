use Rattle.stores.proofs.Runs.{keys_run, children-run}
use Rattle.stores.proofs.laws.listing_finds_all.Goals as goal

pub returns : goal.returns
returns c = record { keys = keys_run; children = children-run }
