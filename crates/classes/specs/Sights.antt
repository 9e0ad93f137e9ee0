-- What marks a node, and the path of a folder's entry. Assumes nothing.
use Rattle.std.specs.Prelude.{ℕ, cond, List, ◌∷◌, ◌++◌, Some, None, codes, Option}
use Rattle.std.specs.Str.{bytes_eq}
use Rattle.classes.specs.declared.found.Marks.{Marks}
use Rattle.classes.specs.declared.found.Kind.{Kind}
use Rattle.classes.specs.declared.found.Kind.TheVariants.{Version3, Array2, Group2}

-- the first that is there of zarr.json, .zarray and .zgroup
abbrev pub kind_of : Marks → Option Kind
kind_of m = cond m.zarr_json (Some Version3) (cond m.zarray (Some Array2) (cond m.zgroup (Some Group2) None))

-- as reports write it
abbrev pub kind_name : Kind → List ℕ
kind_name Version3 = codes "v3 node"
kind_name Array2 = codes "v2 array"
kind_name Group2 = codes "v2 group"

-- a name behind the path of its folder: one `/` stands between them, and `/` itself ends with it
abbrev pub under : List ℕ → List ℕ → List ℕ
under folder name = cond (bytes_eq folder (codes "/")) (47 ∷ name) (folder ++ (47 ∷ name))
