use Rattle.images.specs.Layout.{value_in, value_place, value_long}
use Rattle.images.proofs.Reading.{part_is}
use Rattle.images.proofs.records.Record.value.Goals as goal

pub returns : goal.returns
unfolding value_in
returns c =
    let r = c.args.self.now in
    part_is r.image.now c.long-place.result c.long-n.result (value_place r.image.now r.at) (value_long r.image.now r.at) c.long-place.ensures.is c.long-n.ensures.is
