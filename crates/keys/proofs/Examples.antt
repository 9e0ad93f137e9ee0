-- The table of cases, by computing.
-- Assumes nothing.
use Rattle.std.proofs.Common.{refl}
use Rattle.keys.specs.Examples.{Examples}

pub examples_hold_lem : Examples
examples_hold_lem = record {
  root = refl;
  empty = refl;
  trailing = refl;
  double = refl;
  reserved = refl;
  periods = refl;
  period = refl;
  nothing = refl;
  twice = refl;
  below = refl;
  beside = refl;
  key = refl;
}
