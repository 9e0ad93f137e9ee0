-- The calls of a script: which words ask for what. A line with other words, with bytes or a size that is none, or with too few or too many words asks for nothing.
-- Assumes nothing.
use Rattle.std.specs.Prelude.{ℕ, cond, List, [], ◌∷◌, Some, None, codes, Option}
use Rattle.std.specs.Str.{bytes_eq}
use Rattle.text.specs.Bytes.{Bytes}
use Rattle.keys.specs.declared.file.MetadataFile.{MetadataFile}
use Rattle.keys.specs.declared.file.MetadataFile.TheVariants.{ZarrJson, Zarray, Zgroup, Zattrs}
use Rattle.lines.specs.declared.call.Side.{Side}
use Rattle.lines.specs.declared.call.Side.TheVariants.{Outer, Inner}
use Rattle.lines.specs.Words.{spelled, number_of, size_of}

pub data Asked : Type 0 where
  shelf : ℕ → ℕ → Asked
  image : Bytes → Asked
  mount : Bytes → Asked
  raise : Side → ℕ → Bytes → Asked
  lower : Side → ℕ → Asked
  get : Bytes → ℕ → Asked
  next_key : Bytes → Bytes → ℕ → Asked
  next_child : Bytes → Bytes → ℕ → Asked
  set : Bytes → Bytes → Asked
  erase : Bytes → Asked
  dump : Asked
  name : Bytes → Asked
  path : Bytes → Asked
  parent : Bytes → Asked
  join : Bytes → Bytes → Asked
  compare : Bytes → Bytes → Asked
  key : MetadataFile → Bytes → Asked
  data_key : Bytes → Bytes → Asked

-- a call of what its words stand for, if each stands for something
abbrev pub of1 : {A : Type 0} → (A → Asked) → Option A → Option Asked
of1 f (Some a) = Some (f a)
of1 f None = None

abbrev pub of2 : {A B : Type 0} → (A → B → Asked) → Option A → Option B → Option Asked
of2 f (Some a) b = of1 (f a) b
of2 f None b = None

abbrev pub of3 : {A B C : Type 0} → (A → B → C → Asked) → Option A → Option B → Option C → Option Asked
of3 f (Some a) b c = of2 (f a) b c
of3 f None b c = None

abbrev pub side_of : Bytes → Option Side
side_of w = cond (bytes_eq w (codes "outer")) (Some Outer) (cond (bytes_eq w (codes "inner")) (Some Inner) None)

abbrev pub file_of : Bytes → Option MetadataFile
file_of w =
    cond (bytes_eq w (codes "v3")) (Some ZarrJson)
    (cond (bytes_eq w (codes "array")) (Some Zarray)
    (cond (bytes_eq w (codes "group")) (Some Zgroup)
    (cond (bytes_eq w (codes "attributes")) (Some Zattrs) None)))

-- the calls by how many words stand behind their name
abbrev pub alone : Bytes → Option Asked
alone n = cond (bytes_eq n (codes "dump")) (Some dump) None

abbrev pub with_one : Bytes → Bytes → Option Asked
with_one n a =
    cond (bytes_eq n (codes "image")) (of1 image (spelled a))
    (cond (bytes_eq n (codes "mount")) (of1 mount (spelled a))
    (cond (bytes_eq n (codes "erase")) (of1 erase (spelled a))
    (cond (bytes_eq n (codes "name")) (of1 name (spelled a))
    (cond (bytes_eq n (codes "path")) (of1 path (spelled a))
    (cond (bytes_eq n (codes "parent")) (of1 parent (spelled a)) None)))))

abbrev pub with_two : Bytes → Bytes → Bytes → Option Asked
with_two n a b =
    cond (bytes_eq n (codes "shelf")) (of2 shelf (size_of 4096 a) (size_of 4194304 b))
    (cond (bytes_eq n (codes "lower")) (of2 lower (side_of a) (number_of b))
    (cond (bytes_eq n (codes "get")) (of2 get (spelled a) (size_of 1048576 b))
    (cond (bytes_eq n (codes "set")) (of2 set (spelled a) (spelled b))
    (cond (bytes_eq n (codes "join")) (of2 join (spelled a) (spelled b))
    (cond (bytes_eq n (codes "compare")) (of2 compare (spelled a) (spelled b))
    (cond (bytes_eq n (codes "key")) (of2 key (file_of a) (spelled b))
    (cond (bytes_eq n (codes "data-key")) (of2 data_key (spelled a) (spelled b)) None)))))))

abbrev pub with_three : Bytes → Bytes → Bytes → Bytes → Option Asked
with_three n a b c =
    cond (bytes_eq n (codes "raise")) (of3 raise (side_of a) (number_of b) (spelled c))
    (cond (bytes_eq n (codes "next-key")) (of3 next_key (spelled a) (spelled b) (size_of 1048576 c))
    (cond (bytes_eq n (codes "next-child")) (of3 next_child (spelled a) (spelled b) (size_of 1048576 c)) None))

abbrev pub asked : List Bytes → Option Asked
asked [] = None
asked (n ∷ []) = alone n
asked (n ∷ a ∷ []) = with_one n a
asked (n ∷ a ∷ b ∷ []) = with_two n a b
asked (n ∷ a ∷ b ∷ c ∷ []) = with_three n a b c
asked (n ∷ a ∷ b ∷ c ∷ d ∷ more) = None
