use Rattle.images.specs.Layout.{key_in, key_place, key_long}
use Rattle.images.proofs.Reading.{part_is}
use Rattle.images.proofs.records.Record.key.Goals as goal

pub returns : goal.returns
unfolding key_in
returns c =
    let r = c.args.self.now in
    part_is r.image.now c.long-place.result c.short-n.result (key_place r.image.now r.at) (key_long r.image.now r.at) c.long-place.ensures.is c.short-n.ensures.is
