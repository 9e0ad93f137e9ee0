-- What was found in an archive's folders, which of it is a node, and the class list of that. Assumes nothing.
use Rattle.std.specs.Prelude.{◌≡◌, ◌+◌, Bool, true, false, cond, not, ◌&&◌, ◌||◌, ◌⊎◌, List, [], ◌∷◌, ◌++◌, length, Some, None, Ok, Err, vec_items, Option, Result, ◌==◌}
use Rattle.text.specs.Bytes.{Bytes, before}
use Rattle.text.specs.Utf8.{In}
use Rattle.paths.specs.declared.PathFault.{PathFault}
use Rattle.paths.specs.Names.{reserved}
use Rattle.paths.specs.Paths.{Path, rendered, path_of, is_path_text, same_path, path_before}
use Rattle.paths.specs.Values.{names_of}
use Rattle.classes.specs.declared.found.Found.{Found}
use Rattle.classes.specs.declared.found.Kind.{Kind}
use Rattle.classes.specs.declared.found.Sight.{Sight}
use Rattle.classes.specs.declared.found.Sight.TheVariants.{Folder, Link, Unnamed}
use Rattle.classes.specs.declared.listing.Node.{Node}
use Rattle.classes.specs.declared.listing.Passed.{Passed}
use Rattle.classes.specs.declared.listing.Reason.{Reason}
use Rattle.classes.specs.declared.listing.Reason.TheVariants.{Reserved, Refused, Unmarked, Repeated}
use Rattle.classes.specs.declared.listing.Reason.TheVariants as why
use Rattle.classes.specs.Sights.{kind_of}

-- ---- what the values of the code mean

-- what was seen at a path
pub record Look : Type 0 where
  pub path : Bytes
  pub sight : Sight

-- a node of the list
pub record Entry : Type 0 where
  pub path : Path
  pub kind : Kind

-- what was passed over, and why
pub record Told : Type 0 where
  pub path : Bytes
  pub reason : Reason

abbrev pub look : Found → Look
look f = record { path = vec_items f.path; sight = f.sight }

abbrev pub entry : Node → Entry
entry n = record { path = names_of n.path; kind = n.kind }

abbrev pub told : Passed → Told
told p = record { path = vec_items p.path; reason = p.reason }

abbrev pub answer : Result Node Reason → Result Entry Reason
answer (Ok n) = Ok (entry n)
answer (Err r) = Err r

-- ---- which of it is a node

-- a name in the text begins with `__`
abbrev pub has_reserved : Bytes → Bool
has_reserved [] = false
has_reserved (b ∷ t) = (b == 47 && reserved t) || has_reserved t

abbrev pub marked : Path → Option Kind → Result Entry Reason
marked p (Some k) = Ok (record { path = p; kind = k })
marked p None = Err Unmarked

abbrev pub seen : Path → Sight → Result Entry Reason
seen p (Folder m) = marked p (kind_of m)
seen p Link = Err why.Link
seen p Unnamed = Err why.Unnamed

abbrev pub granted : Result Path PathFault → Sight → Result Entry Reason
granted (Ok p) s = seen p s
granted (Err f) s = Err (Refused f)

-- a reserved name is judged first, then the path, then what was seen there
abbrev pub judged : Bytes → Sight → Result Entry Reason
judged t s = cond (has_reserved t) (Err Reserved) (granted (path_of t) s)

-- a folder at the path can be a node
abbrev pub allowed : Bytes → Bool
allowed t = not (has_reserved t) && is_path_text t

abbrev pub verdict : Look → Result Entry Reason
verdict l = judged l.path l.sight

-- ---- the list

-- the path of the last entry
abbrev pub last_path : List Entry → Option Path
last_path [] = None
last_path (e ∷ []) = Some e.path
last_path (e ∷ f ∷ es) = last_path (f ∷ es)

abbrev pub is_last : Option Path → Path → Bool
is_last None p = false
is_last (Some q) p = same_path q p

abbrev pub ok_part : Result Entry Reason → List Entry
ok_part (Ok e) = e ∷ []
ok_part (Err r) = []

abbrev pub err_part : Bytes → Result Entry Reason → List Told
err_part t (Ok e) = []
err_part t (Err r) = record { path = t; reason = r } ∷ []

abbrev pub granted_of : List Look → List Entry
granted_of [] = []
granted_of (l ∷ ls) = ok_part (verdict l) ++ granted_of ls

abbrev pub passed_of : List Look → List Told
passed_of [] = []
passed_of (l ∷ ls) = err_part l.path (verdict l) ++ passed_of ls

-- the entries behind one of a path that don't have the path of the one before, and those that do
abbrev pub kept_after : Option Path → List Entry → List Entry
kept_after o [] = []
kept_after o (e ∷ es) = cond (is_last o e.path) (kept_after o es) (e ∷ kept_after (Some e.path) es)

abbrev pub repeats_after : Option Path → List Entry → List Entry
repeats_after o [] = []
repeats_after o (e ∷ es) = cond (is_last o e.path) (e ∷ repeats_after o es) (repeats_after (Some e.path) es)

abbrev pub kept : List Entry → List Entry
kept es = kept_after None es

abbrev pub repeats : List Entry → List Entry
repeats es = repeats_after None es

abbrev pub repeated : Entry → Told
repeated e = record { path = rendered e.path; reason = Repeated }

-- ---- what a class list is

abbrev pub After : Option Path → Path → Type 0
After None q = Unit {0}
After (Some p) q = path_before p q ≡ true

-- each comes before the next in path order
abbrev pub StrictAfter : Option Path → List Entry → Type 0
StrictAfter o [] = Unit {0}
StrictAfter o (e ∷ es) = After o e.path × StrictAfter (Some e.path) es

abbrev pub Ascending : List Entry → Type 0
Ascending es = StrictAfter None es

-- an entry of the path is there
abbrev pub Stands : Path → List Entry → Type 0
Stands p es = (e : Entry) × In e es × (e.path ≡ p)

-- where what was found has gone, by its verdict: to the nodes, or to what was passed over, with the reason
abbrev pub Placed : Look → Result Entry Reason → List Entry → List Told → Type 0
Placed l (Ok e) nodes passed = In e nodes ⊎ (Stands e.path nodes × In (repeated e) passed)
Placed l (Err r) nodes passed = In (record { path = l.path; reason = r }) passed

-- none has a path whose bytes come before those of the one in front of it
abbrev pub ByBytes : List Told → Type 0
ByBytes [] = Unit {0}
ByBytes (t ∷ []) = Unit {0}
ByBytes (t ∷ u ∷ ts) = (before u.path t.path ≡ false) × ByBytes (u ∷ ts)

-- The nodes are in path order, each path once; each thing that was found is one of them or was passed over, and no other node is there.
-- What was passed over is in the order of its bytes, so that equal archives give equal lists.
pub record Listed (looks : List Look) (nodes : List Entry) (passed : List Told) : Type 0 where
  pub ascending : Ascending nodes
  pub placed : (l : Look) → In l looks → Placed l (verdict l) nodes passed
  pub only : (e : Entry) → In e nodes → (l : Look) × In l looks × (verdict l ≡ Ok e)
  pub each : length nodes + length passed ≡ length looks
  pub over : ByBytes passed
