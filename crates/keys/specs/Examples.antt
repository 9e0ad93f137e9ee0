-- A table of cases, shown of the definitions themselves.
-- Assumes nothing.
use Rattle.std.specs.Prelude.{◌≡◌, ℕ, [], None, Ok, Err, codes, Result}
use Rattle.std.specs.declared.cmp.Ordering.TheVariants.{Less}
use Rattle.text.specs.Bytes.{Bytes}
use Rattle.paths.specs.declared.fault.PathFault.{PathFault}
use Rattle.keys.specs.declared.file.MetadataFile.TheVariants.{ZarrJson}
use Rattle.paths.specs.Faults.{told_of_path}
use Rattle.keys.specs.MetadataKeys.{metadata_key}
use Rattle.paths.specs.Paths.{Path, rendered, path_of, joined, parent_of, path_order}

-- the text of what was granted, or the number of what was refused
pub data Answer : Type 0 where
  granted : Bytes → Answer
  refused : ℕ → Answer

abbrev answered : Result Path PathFault → Answer
answered (Ok p) = granted (rendered p)
answered (Err e) = refused (told_of_path e).number

abbrev or_root : Result Path PathFault → Path
or_root (Ok p) = p
or_root (Err e) = []

-- the path of a text that spells one
abbrev path : Bytes → Path
path t = or_root (path_of t)

pub record Examples : Type 0 where
  -- `/` has no parent
  pub root : parent_of (path (codes "/")) ≡ None
  -- the empty text, a `/` at the end, `//`, a reserved name and a name of periods are no paths; a name may begin with a period
  pub empty : answered (path_of []) ≡ refused 11
  pub trailing : answered (path_of (codes "/a/")) ≡ refused 11
  pub double : answered (path_of (codes "/a//b")) ≡ refused 11
  pub reserved : answered (path_of (codes "/__a")) ≡ refused 11
  pub periods : answered (path_of (codes "/...")) ≡ refused 11
  pub period : answered (path_of (codes "/.a")) ≡ granted (codes "/.a")
  -- `join` drops one `/`, and no more
  pub nothing : answered (joined (path (codes "/a")) (codes "/")) ≡ granted (codes "/a")
  pub twice : answered (joined (path (codes "/a")) (codes "//b")) ≡ refused 11
  -- `/a`, `/a/b` and `/a-b` ascend so, though `-` is a smaller byte than `/`
  pub below : path_order (path (codes "/a")) (path (codes "/a/b")) ≡ Less
  pub beside : path_order (path (codes "/a/b")) (path (codes "/a-b")) ≡ Less
  -- the key of a node's version 3 metadata
  pub key : metadata_key (path (codes "/a/b")) ZarrJson ≡ codes "a/b/zarr.json"
