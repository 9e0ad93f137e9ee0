-- What the words of a command line ask for. Assumes nothing.
use Rattle.std.specs.Prelude.{ℕ, cond, List, [], ◌∷◌, ◌++◌, Ok, Err, codes, Result}
use Rattle.std.specs.Str.{bytes_eq}
use Rattle.console.specs.declared.command.Command.{Command}
use Rattle.console.specs.declared.command.Command.TheVariants.{Help, Classes}
use Rattle.console.specs.declared.command.UsageFault.{UsageFault}
use Rattle.console.specs.declared.command.UsageFault.TheVariants.{NoCommand, UnknownCommand, NoArchive, TooMany}

pub data Ask : Type 0 where
  usage : Ask
  list : List ℕ → Ask
  nothing : Ask
  unknown : List ℕ → Ask
  no_archive : Ask
  too_many : List ℕ → Ask

-- `help` takes no word
abbrev pub help_asked : List (List ℕ) → Ask
help_asked [] = usage
help_asked (w ∷ ws) = too_many w

-- `classes` takes the archive, and no more
abbrev pub classes_asked : List (List ℕ) → Ask
classes_asked [] = no_archive
classes_asked (a ∷ []) = list a
classes_asked (a ∷ w ∷ ws) = too_many w

-- the first word is the command
abbrev pub asked : List (List ℕ) → Ask
asked [] = nothing
asked (w ∷ ws) = cond (bytes_eq w (codes "help")) (help_asked ws) (cond (bytes_eq w (codes "classes")) (classes_asked ws) (unknown w))

-- what an answer says, its references read
abbrev pub heard : Result Command UsageFault → Ask
heard (Ok Help) = usage
heard (Ok (Classes a)) = list a.now
heard (Err NoCommand) = nothing
heard (Err (UnknownCommand w)) = unknown w.now
heard (Err NoArchive) = no_archive
heard (Err (TooMany w)) = too_many w.now

-- what is said of a command line that is refused
abbrev pub complaint : UsageFault → List ℕ
complaint NoCommand = codes "no command was given"
complaint (UnknownCommand w) = codes "unknown command '" ++ (w.now ++ codes "'")
complaint NoArchive = codes "classes needs an ARCHIVE"
complaint (TooMany w) = codes "too many words: '" ++ (w.now ++ codes "' is not expected")
