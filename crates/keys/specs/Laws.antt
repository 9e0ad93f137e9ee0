-- What the definitions of keys and prefixes amount to, in plain words, so that a contract can name it.
-- Assumes nothing.
use Rattle.std.specs.Prelude.{◌≡◌, ◌≤◌, Bool, true, false, ◌⊎◌, ◌↔◌, List, [], ◌∷◌, ◌++◌, length, Some, Ok}
use Rattle.text.specs.Bytes.{Bytes, stripped}
use Rattle.paths.specs.Paths.{Path, are_names, is_path, split, AtOrBelow}
use Rattle.keys.specs.declared.file.MetadataFile.{MetadataFile}
use Rattle.keys.specs.Keys.{key_form, is_key, is_prefix}
use Rattle.keys.specs.MetadataKeys.{prefix_of, metadata_key, path_of_prefix}

abbrev pub none_empty : List Bytes → Bool
none_empty [] = true
none_empty ([] ∷ ps) = false
none_empty ((b ∷ n) ∷ ps) = none_empty ps

-- A text has the form of a key exactly if none of the parts between its `/`s is empty; and a prefix is empty, or a key and `/`.
pub record KeyAndPrefixForms : Type 0 where
  pub key : (k : Bytes) → key_form true k ≡ none_empty (split k)
  pub prefix : (p : Bytes) → (is_prefix p ≡ true) ↔ ((p ≡ []) ⊎ ((k : Bytes) × (is_key k ≡ true) × (p ≡ k ++ (47 ∷ []))))

-- Every metadata key of a valid path is a key, of at most 264 bytes; its prefix is a prefix; the path is read back from it, and from no other prefix.
pub record PathKeysAreKeys : Type 0 where
  pub key : (p : Path) (f : MetadataFile) → is_path p ≡ true → (is_key (metadata_key p f) ≡ true) × (length (metadata_key p f) ≤ 264)
  pub prefix : (p : Path) → is_path p ≡ true → is_prefix (prefix_of p) ≡ true
  pub back : (p : Path) → is_path p ≡ true → path_of_prefix (prefix_of p) ≡ Ok p
  pub only : (t : Bytes) (p : Path) → is_prefix t ≡ true → path_of_prefix t ≡ Ok p → prefix_of p ≡ t

-- A metadata key of p begins with the prefix of g exactly if p is g or lies below g.
abbrev pub KeysUnderPrefix : Type 0
KeysUnderPrefix = (g p : Path) (f : MetadataFile) → are_names g ≡ true → are_names p ≡ true → ((k : Bytes) × (stripped (prefix_of g) (metadata_key p f) ≡ Some k)) ↔ AtOrBelow g p

-- Metadata keys of different paths or of different files differ.
abbrev pub KeysDiffer : Type 0
KeysDiffer = (p q : Path) (f g : MetadataFile) → are_names p ≡ true → are_names q ≡ true → metadata_key p f ≡ metadata_key q g → (p ≡ q) × (f ≡ g)
