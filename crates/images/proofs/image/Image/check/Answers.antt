use Rattle.std.proofs.Common.{sym, subst}
use Rattle.images.specs.Spells.{Checked}
use Rattle.images.proofs.Spelling.{checked}
use Rattle.images.proofs.image.Image.check.Goals as goal

pub returns : goal.returns
returns c =
    let s = c.args.self.now in
    subst (λ r. Checked s.bytes.now r) (sym c.ok_or.ensures.value) (checked s.bytes.now s.count s.stands s.refused)
