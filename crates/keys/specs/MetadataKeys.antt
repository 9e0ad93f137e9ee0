-- The keys under which a node's metadata and its chunks lie in a store, and the prefix under which all of a group lies.
-- Assumes nothing.
use Rattle.std.specs.Prelude.{ℕ, [], ◌∷◌, ◌++◌, Ok, codes, Result}
use Rattle.text.specs.Bytes.{Bytes}
use Rattle.paths.specs.declared.fault.PathFault.{PathFault}
use Rattle.keys.specs.declared.fault.StoreFault.{StoreFault}
use Rattle.keys.specs.declared.file.MetadataFile.{MetadataFile}
use Rattle.keys.specs.declared.file.MetadataFile.TheVariants.{ZarrJson, Zarray, Zgroup, Zattrs}
use Rattle.keys.specs.Keys.{key_or_fault}
use Rattle.paths.specs.Paths.{Path, split, checked}

abbrev pub file_name : MetadataFile → Bytes
file_name ZarrJson = codes "zarr.json"
file_name Zarray = codes ".zarray"
file_name Zgroup = codes ".zgroup"
file_name Zattrs = codes ".zattrs"

-- a path without its first `/` and with a `/` behind it; for `/` nothing
abbrev pub prefix_of : Path → Bytes
prefix_of [] = []
prefix_of (n ∷ p) = n ++ (47 ∷ prefix_of p)

abbrev pub metadata_key : Path → MetadataFile → Bytes
metadata_key p f = prefix_of p ++ file_name f

-- a chunk's key behind the prefix of its array; refused where that is no key
abbrev pub data_key : Path → Bytes → Result Bytes StoreFault
data_key p chunk = key_or_fault (prefix_of p ++ chunk)

-- the path of a prefix: `/` of the empty one, else that of its names
abbrev pub without_last : ℕ → Bytes → Bytes
without_last b [] = []
without_last b (c ∷ t) = b ∷ without_last c t

abbrev pub path_of_prefix : Bytes → Result Path PathFault
path_of_prefix [] = Ok []
path_of_prefix (b ∷ t) = checked (split (without_last b t)) (split (without_last b t))
