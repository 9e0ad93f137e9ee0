-- The text of a report. Assumes nothing.
use Rattle.std.specs.Prelude.{ℕ, ◌+◌, ◌-◌, max, List, [], ◌∷◌, ◌++◌, length, replicate, codes, decimal}
use Rattle.text.specs.Bytes.{Bytes}
use Rattle.text.specs.Faults.{layer_name}
use Rattle.text.specs.declared.FaultReport.{FaultReport}
use Rattle.paths.specs.declared.PathFault.{PathFault}
use Rattle.paths.specs.declared.PathFault.TheVariants.{Invalid, OverLimits}
use Rattle.paths.specs.Faults.{told_of_path}
use Rattle.paths.specs.Paths.{rendered}
use Rattle.classes.specs.declared.listing.Reason.{Reason}
use Rattle.classes.specs.declared.listing.Reason.TheVariants.{Reserved, Refused, Unmarked, Link, Unnamed, Repeated}
use Rattle.classes.specs.Classes.{Entry, Told}
use Rattle.printing.specs.Shown.{shown}
use Rattle.classes.specs.Sights.{kind_name}

-- ---- why something was passed over

-- a fault's sentence begins with its number and its layer
abbrev pub refusal : FaultReport → Bytes → Bytes
refusal f advice = codes "fault " ++ (decimal f.number ++ (codes " of the " ++ (layer_name f.layer ++ (codes " layer, " ++ advice))))

abbrev pub advice : PathFault → Bytes
advice Invalid = codes "the name is not valid; rename it to text that is not made of periods only"
advice OverLimits = codes "the path has more than 255 bytes or 32 names; shorten its names or move it up"

abbrev pub sentence : Reason → Bytes
sentence Reserved = codes "a name that begins with __ is reserved, so it was not read; rename it to list it"
sentence (Refused f) = refusal (told_of_path f) (advice f)
sentence Unmarked = codes "it holds no zarr.json, .zarray or .zgroup, so it is no node and nothing below it was read"
sentence Link = codes "it is a symbolic link, which is not followed; put the folder itself in its place"
sentence Unnamed = refusal (told_of_path Invalid) (codes "it holds an entry whose name is not UTF-8; rename that entry")
sentence Repeated = codes "another node has the same path; it is listed once"

-- ---- columns

abbrev pub spaces : ℕ → Bytes
spaces n = replicate n 32

-- a text at the right of a column, and at its left
abbrev pub at_right : ℕ → Bytes → Bytes
at_right w t = spaces (w - length t) ++ t

abbrev pub at_left : ℕ → Bytes → Bytes
at_left w t = t ++ spaces (w - length t)

-- ---- lines

-- a node with its class number
abbrev pub node_line : ℕ → ℕ → Entry → Bytes
node_line w n e = at_right w (decimal n) ++ (codes "  " ++ (at_left 10 (kind_name e.kind) ++ (shown (rendered e.path) ++ (10 ∷ []))))

-- the nodes, numbered from n on
abbrev pub node_lines : ℕ → ℕ → List Entry → Bytes
node_lines w n [] = []
node_lines w n (e ∷ es) = node_line w n e ++ node_lines w (n + 1) es

abbrev pub passed_line : Told → Bytes
passed_line t = codes "  " ++ (shown t.path ++ (codes ": " ++ (sentence t.reason ++ (10 ∷ []))))

abbrev pub passed_lines : List Told → Bytes
passed_lines [] = []
passed_lines (t ∷ ts) = passed_line t ++ passed_lines ts

-- the column of numbers is as wide as their count, and at least as its head
abbrev pub width : List Entry → ℕ
width es = max (length (decimal (length es))) 3

abbrev pub nodes_text : List Entry → Bytes
nodes_text es = at_right (width es) (codes "No.") ++ (codes "  Kind      Path" ++ (10 ∷ node_lines (width es) 0 es))

abbrev pub passed_text : List Told → Bytes
passed_text [] = codes "  nothing" ++ (10 ∷ [])
passed_text (t ∷ ts) = passed_lines (t ∷ ts)

abbrev pub totals : ℕ → ℕ → Bytes
totals nodes passed = 10 ∷ (codes "Nodes: " ++ (decimal nodes ++ (10 ∷ (codes "Passed over: " ++ (decimal passed ++ (10 ∷ []))))))

-- the head, the nodes with their numbers, what was passed over, and how many there are of each
abbrev pub report_text : Bytes → List Entry → List Told → Bytes
report_text archive nodes passed =
    codes "Classes of " ++ (shown archive ++ (10 ∷ 10 ∷ [] ++ (nodes_text nodes ++ (10 ∷ codes "Passed over:" ++ (10 ∷ [] ++ (passed_text passed ++ totals (length nodes) (length passed)))))))
