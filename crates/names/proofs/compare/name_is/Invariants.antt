use Rattle.std.proofs.Common.{◌≡◌, drop}
use Rattle.text.specs.Bytes.{same}
use Rattle.names.specs.Undone.{undone}
use Rattle.names.specs.declared.undone.Undoing.TheVariants.{Plain}
use Rattle.names.proofs.compare.name_is.Given as goal

-- what is left of the name is what is left of the text, just if the name is the text
abbrev pub invariant-loop-b : goal.invariant-loop-b
invariant-loop-b l = same (undone l.state (drop l.b-index l.written)) l.rest ≡ same (undone Plain l.written) l.want
