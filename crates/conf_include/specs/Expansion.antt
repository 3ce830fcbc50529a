-- A configuration with each include replaced by its files.
use Rattle.std.specs.Prelude.{ℕ, zero, suc, ◌+◌, nat_le, not, ◌&&◌, List, [], ◌∷◌, ◌++◌, length, map, filter, slice_index_or, codes, Option, None, Some, Result, Ok, Err, if◌then◌else◌}
use Rattle.std.specs.Str.{bytes_eq}
use Rattle.file_tree.specs.Tree.{Item, AFile, AFolder, ALocked, Nothing, Tree}
use Rattle.conf_text.specs.declared.fault.FaultKind.{FaultKind}
use Rattle.conf_text.specs.declared.fault.FaultKind.TheVariants.{NotThere, TooDeep, TooMany, TooLarge}
use Rattle.conf_text.specs.declared.fault.ConfFault.{ConfFault}
use Rattle.conf_text.specs.declared.directive.Directive.{Directive}
use Rattle.conf_text.specs.Reading.{reading}
use Rattle.conf_include.specs.Paths.{front_of, last_of, path_of, is_mask, folder_of}
use Rattle.conf_include.specs.Masks.{matches}
use Rattle.conf_include.specs.Listings.{Names}

-- what was read so far: the path of each file, by its number, and how many bytes they have
pub record Tally : Type 0 where
  pub paths : List (List ℕ)
  pub size : ℕ

abbrev pub tally : List (List ℕ) → ℕ → Tally
tally paths size = record { paths = paths; size = size }

-- the first fault, with the paths of the files that were read
abbrev pub Faulty : Type 0 → Type 0
Faulty A = Result A (ConfFault × List (List ℕ))

-- directives, and what was read
abbrev pub Expansion : Type 0
Expansion = Faulty (List Directive × Tally)

-- the first fault, or the value of what follows
infixl 10 ◌>>=◌
abbrev pub ◌>>=◌ : {A B E : Type 0} → Result A E → (A → Result B E) → Result B E
(Ok x) >>= f = f x
(Err e) >>= f = Err e

-- where an include is: the number of its file, and its line
pub record Spot : Type 0 where
  pub file : ℕ
  pub line : ℕ

abbrev pub spot : ℕ → ℕ → Spot
spot file line = record { file = file; line = line }

abbrev pub fault_about : FaultKind → Spot → List ℕ → ConfFault
fault_about kind at path = record { kind = kind; file = at.file; line = at.line; word = Some path }

-- the limits: bytes of text in all, files, and includes that enclose each other
unfoldable pub most_bytes : ℕ
most_bytes = 1048576

unfoldable pub most_files : ℕ
most_files = 256

unfoldable pub most_deep : ℕ
most_deep = 8

-- the text of a file, which is there and fits
abbrev pub text_in : Item → Spot → List ℕ → Tally → Faulty (List ℕ)
text_in (AFile bytes date) at path t =
    if nat_le (t.size + length bytes) most_bytes then Ok bytes else Err (fault_about TooLarge at path, t.paths)
text_in AFolder at path t = Err (fault_about NotThere at path, t.paths)
text_in ALocked at path t = Err (fault_about NotThere at path, t.paths)
text_in Nothing at path t = Err (fault_about NotThere at path, t.paths)

-- a fault of a text, with the paths of the files that were read
abbrev pub with_paths : List (List ℕ) → Result (List Directive) ConfFault → Faulty (List Directive)
with_paths paths (Ok lines) = Ok lines
with_paths paths (Err fault) = Err (fault, paths)

-- the directives of a file of this number
abbrev pub directives_in : ℕ → List ℕ → List (List ℕ) → Faulty (List Directive)
directives_in number bytes paths = with_paths paths (reading number bytes)

-- the one parameter, if there is one alone
abbrev pub one_word : List (List ℕ) → Option (List ℕ)
one_word [] = None
one_word (word ∷ []) = Some word
one_word (word ∷ w ∷ words) = None

-- the word of an include: a directive of this name with one parameter and no block
unfoldable pub include_word : Directive → Option (List ℕ)
include_word d = if bytes_eq d.name (codes "include") && not d.block then one_word d.args else None

-- the paths that an include names: its own, or those of the names that its mask matches, in byte order
abbrev pub paths_named : Names → List ℕ → List (List ℕ)
paths_named names path =
    if is_mask path then map (λ name. front_of path ++ name) (filter (matches (last_of path)) (names (folder_of path)))
    else path ∷ []

-- directives within `depth` more blocks
abbrev pub deepened : ℕ → Directive → Directive
deepened depth d = record d { depth = depth + d.depth }

abbrev pub deeper : ℕ → List Directive → List Directive
deeper depth lines = map (deepened depth) lines

-- what each of several items puts, one after another
unfoldable pub put_all : {A : Type 0} → (A → Tally → Expansion) → List A → Tally → Expansion
put_all put [] t = Ok ([], t)
put_all put (x ∷ xs) t = do
  first ← put x t
  rest ← put_all put xs first.1
  Ok (first.0 ++ rest.0, rest.1)

-- a directive, or the files of an include in its place
abbrev pub put_word : (Spot → List ℕ → Tally → Expansion) → (List ℕ → List (List ℕ)) → Directive → Option (List ℕ) → Tally → Expansion
put_word file named d None t = Ok (d ∷ [], t)
put_word file named d (Some word) t = do
  files ← put_all (file (spot d.file d.line)) (named word) t
  Ok (deeper d.depth files.0, files.1)

unfoldable pub put_line : (Spot → List ℕ → Tally → Expansion) → (List ℕ → List (List ℕ)) → Directive → Tally → Expansion
put_line file named d t = put_word file named d (include_word d) t

-- the paths that a word of an include names
abbrev pub named_by : Names → (main : List ℕ) → List ℕ → List (List ℕ)
named_by names main word = paths_named names (path_of main word)

-- the number of the file that is read next
unfoldable pub next_number : Spot → List ℕ → List (List ℕ) → Faulty ℕ
next_number at path paths =
    if nat_le most_files (length paths) then Err (fault_about TooMany at path, paths) else Ok (length paths)

-- a file, by its directives
unfoldable pub open_file : Tree → Spot → List ℕ → Tally → Expansion
open_file tree at path t = do
  number ← next_number at path t.paths
  bytes ← text_in (tree path) at path t
  lines ← directives_in number bytes (t.paths ++ path ∷ [])
  Ok (lines, tally (t.paths ++ path ∷ []) (t.size + length bytes))

-- A file at the place of an include, where this many includes may still enclose each other: its directives, with each
-- include replaced by its files. It is read whole before its includes are.
unfoldable pub put_file : Tree → Names → (main : List ℕ) → ℕ → Spot → List ℕ → Tally → Expansion
put_file tree names main zero at path t = Err (fault_about TooDeep at path, t.paths)
put_file tree names main (suc left) at path t = do
  opened ← open_file tree at path t
  put_all (put_line (put_file tree names main left) (named_by names main)) opened.0 opened.1

-- directives with each include replaced by its files, where `left` includes may still enclose each other
abbrev pub put_lines : Tree → Names → (main : List ℕ) → ℕ → List Directive → Tally → Expansion
put_lines tree names main left = put_all (put_line (put_file tree names main left) (named_by names main))

-- the main file, by its directives: its number is 0, and a fault of the file itself is at its own first line
unfoldable pub open_main : Tree → (main : List ℕ) → Expansion
open_main tree main = do
  bytes ← text_in (tree main) (spot 0 1) main (tally (main ∷ []) 0)
  lines ← directives_in 0 bytes (main ∷ [])
  Ok (lines, tally (main ∷ []) (length bytes))

unfoldable pub put_main : Tree → Names → (main : List ℕ) → Expansion
put_main tree names main = do
  opened ← open_main tree main
  put_lines tree names main most_deep opened.0 opened.1

-- a fault with the path of its file
abbrev pub located : Expansion → Result (List Directive × List (List ℕ)) (ConfFault × List ℕ)
located (Ok x) = Ok (x.0, x.1.paths)
located (Err e) = Err (e.0, slice_index_or e.1 e.0.file [])

-- A configuration: its directives, and the path of each of its files, by its number; or its first fault, and the path of
-- the file whose number it has.
unfoldable pub expansion : Tree → Names → (main : List ℕ) → Result (List Directive × List (List ℕ)) (ConfFault × List ℕ)
expansion tree names main = located (put_main tree names main)
