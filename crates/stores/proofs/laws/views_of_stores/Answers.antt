use Rattle.std.proofs.Common.{ap}
use Rattle.stores.proofs.Mounts.{mounted_lawful, got-mounted}
use Rattle.stores.specs.Pairs.{least}
use Rattle.stores.proofs.Listings.{next_key_below, children-mounted, prefix_mounted}
use Rattle.stores.proofs.Views.{set_view, erase_view}
use Rattle.stores.proofs.laws.views_of_stores.Goals as goal

pub returns : goal.returns
returns c = record {
  lawful = λ p m h x l. mounted_lawful m.longest p m.pairs h x l;
  gets = λ p k m size h x. got-mounted m.longest p k m.pairs size h x;
  sets = set_view;
  erases = erase_view;
  keys = λ p q after m. next_key_below p q after m.pairs;
  children = λ p q after m. ap (least after) (children-mounted p q m.pairs);
  prefixes = λ p q m h x l. prefix_mounted m.longest p q h x l;
}
