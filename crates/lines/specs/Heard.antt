-- What the code's calls mean: each word read as the bytes that it writes.
-- Assumes nothing.
use Rattle.std.specs.Prelude.{Some, None, Option}
use Rattle.lines.specs.Calls.{Asked, shelf, image, mount, raise, lower, get, next_key, next_child, set, erase, dump, name, path, parent, join, compare, key, data_key}
use Rattle.lines.specs.Spoken.{bytes_of}
use Rattle.lines.specs.declared.call.Call.{Call}
use Rattle.lines.specs.declared.call.Call.TheVariants.{Shelf, Image, Mount, Raise, Lower, Get, NextKey, NextChild, Set, Erase, Dump, Name, Path, Parent, Join, Compare, Key, DataKey}

abbrev pub meant : Call → Asked
meant (Shelf n m) = shelf n m
meant (Image w) = image (bytes_of w)
meant (Mount w) = mount (bytes_of w)
meant (Raise s n w) = raise s n (bytes_of w)
meant (Lower s n) = lower s n
meant (Get w n) = get (bytes_of w) n
meant (NextKey w v n) = next_key (bytes_of w) (bytes_of v) n
meant (NextChild w v n) = next_child (bytes_of w) (bytes_of v) n
meant (Set w v) = set (bytes_of w) (bytes_of v)
meant (Erase w) = erase (bytes_of w)
meant Dump = dump
meant (Name w) = name (bytes_of w)
meant (Path w) = path (bytes_of w)
meant (Parent w) = parent (bytes_of w)
meant (Join w v) = join (bytes_of w) (bytes_of v)
meant (Compare w v) = compare (bytes_of w) (bytes_of v)
meant (Key f w) = key f (bytes_of w)
meant (DataKey w v) = data_key (bytes_of w) (bytes_of v)

abbrev pub heard : Option Call → Option Asked
heard (Some c) = Some (meant c)
heard None = None
