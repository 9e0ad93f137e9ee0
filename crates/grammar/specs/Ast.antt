-- A JSON value with its tokens as they are written: a number's bytes, a string's bytes between the quotes, the same of a name. Items and members are kept with the last one outermost, as they are read.
-- Assumes nothing.
use Rattle.std.specs.Prelude.{ℕ, List}

mutual
  pub data Json : Type 0 where
    null : Json
    tru : Json
    fals : Json
    num : List ℕ → Json
    str : List ℕ → Json
    arr : Items → Json
    obj : Members → Json

  pub data Items : Type 0 where
    none : Items
    also : Items → Json → Items

  pub data Members : Type 0 where
    mnone : Members
    malso : Members → List ℕ → Json → Members
