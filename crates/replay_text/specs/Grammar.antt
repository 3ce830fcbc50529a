-- The grammar of a script, line by line.
use Rattle.std.specs.Prelude.{ℕ, ◌+◌, List, [], ◌∷◌, ◌++◌, ◌==◌, Bool, true, false, ◌||◌, Option, Some, None, Result, Ok, Err, if◌then◌else◌}
use Rattle.std.specs.List.{list_any}
use Rattle.replay_words.specs.declared.faults.FaultKind.{FaultKind}
use Rattle.replay_words.specs.declared.faults.FaultKind.TheVariants.{Section, Word}
use Rattle.replay_text.specs.declared.faults.ScriptFault.{ScriptFault}
use Rattle.replay_text.specs.declared.parts.Conf.{Conf}
use Rattle.replay_text.specs.declared.parts.TreeLine.{TreeLine}
use Rattle.replay_text.specs.declared.parts.EventLine.{EventLine}
use Rattle.replay_text.specs.declared.parts.Script.{Script}
use Rattle.replay_words.specs.Faults.{◌>>=◌}
use Rattle.replay_text.specs.Faults.{at_line, ends_at}
use Rattle.replay_words.specs.Lines.{lines_of, pieces_of, front_of}
use Rattle.replay_words.specs.Words.{words_of, same, keyword_of, first_word, is_conf, is_tree, is_events, is_dot}
use Rattle.replay_text.specs.Entries.{path_line, tree_line, event_line}

-- an empty line or a comment, which is passed over outside the configuration texts
abbrev pub is_passed : List ℕ → Bool
is_passed [] = true
is_passed (b ∷ bs) = b == 35

-- where reading goes on: the number of the next line, and the lines from there
pub record ReadTo : Type 0 where
  pub number : ℕ
  pub lines : List (List ℕ)

abbrev pub place : ℕ → List (List ℕ) → ReadTo
place n lines = record { number = n; lines = lines }

-- a text is the path of a configuration
abbrev pub is_path_among : List Conf → List ℕ → Bool
is_path_among confs path = list_any (λ conf. same conf.path path) confs

-- `conf PATH`, of a path that is in no `conf` line before
unfoldable pub conf_line : List Conf → List ℕ → Result (List ℕ) FaultKind
conf_line before line = do
  words ← words_of line
  rest ← first_word words
  path ← path_line rest.1
  if is_path_among before path then Err Section else Ok path

-- the line `tree`, after a `conf` section at least
unfoldable pub tree_head : List Conf → List ℕ → Result (Option (List ℕ)) FaultKind
tree_head [] line = Err Section
tree_head (conf ∷ confs) line = if is_tree line then Ok None else Err Word

-- the path of a `conf` line
abbrev pub some_path : Result (List ℕ) FaultKind → Result (Option (List ℕ)) FaultKind
some_path (Ok path) = Ok (Some path)
some_path (Err kind) = Err kind

-- what begins where a `conf` line or the `tree` line is due: the configuration of a path, or the tree
unfoldable pub head_of : List Conf → List ℕ → Result (Option (List ℕ)) FaultKind
head_of before line =
    let front = front_of (pieces_of line) in
    if is_conf front then some_path (conf_line before line)
    else (if is_tree front then tree_head before line else Err Section)

-- the raw text up to the line `.`
unfoldable pub raw_text : List (List ℕ) → List ℕ
raw_text [] = []
raw_text (line ∷ lines) = if is_dot line then [] else line ++ 10 ∷ raw_text lines

-- The `conf` sections and the line `tree` after them: the configurations, with those before, and the place where the
-- lines of the tree begin.
unfoldable mutual
  pub confs_of : List Conf → ℕ → List (List ℕ) → Result (List Conf × ReadTo) ScriptFault
  confs_of before n [] = ends_at n
  confs_of before n (line ∷ lines) =
      if is_passed line then confs_of before (n + 1) lines
      else (at_line n (head_of before line) >>= elim [
        | None ↦ Ok (before, place (n + 1) lines)
        | Some path ↦ behind_dot (before ++ record { path = path; bytes = raw_text lines } ∷ []) (n + 1) lines
      ])

  -- the same after the next line `.`
  pub behind_dot : List Conf → ℕ → List (List ℕ) → Result (List Conf × ReadTo) ScriptFault
  behind_dot before n [] = ends_at n
  behind_dot before n (line ∷ lines) = if is_dot line then confs_of before (n + 1) lines else behind_dot before (n + 1) lines

-- the lines of sections that can't be in the tree: `conf` with more words, or `tree` or `events` alone
abbrev pub is_section_in_tree : List (List ℕ) → Bool
is_section_in_tree [] = false
is_section_in_tree (name ∷ []) = is_tree name || is_events name
is_section_in_tree (name ∷ piece ∷ pieces) = is_conf name

-- the same among the events, where `tree` begins an event
abbrev pub is_section_in_events : List (List ℕ) → Bool
is_section_in_events [] = false
is_section_in_events (name ∷ []) = is_events name
is_section_in_events (name ∷ piece ∷ pieces) = is_conf name

-- a line of the tree's section
unfoldable pub line_in_tree : ℕ → List ℕ → Result (TreeLine × ℕ) FaultKind
line_in_tree used line =
    if is_section_in_tree (pieces_of line) then Err Section
    else (do
      words ← words_of line
      name ← first_word words
      tree_line used (keyword_of name.0) name.1)

-- a line of the events' section
unfoldable pub line_in_events : ℕ → List ℕ → Result (EventLine × ℕ) FaultKind
line_in_events used line =
    if is_section_in_events (pieces_of line) then Err Section
    else (do
      words ← words_of line
      name ← first_word words
      event_line used (keyword_of name.0) name.1)

-- the lines of the tree, how many bytes their sums have, and the place after the line `.` that ends them
unfoldable pub tree_of : ℕ → ℕ → List (List ℕ) → Result (List TreeLine × ℕ × ReadTo) ScriptFault
tree_of used n [] = ends_at n
tree_of used n (line ∷ lines) =
    if is_passed line then tree_of used (n + 1) lines
    else (if is_dot line then Ok ([], used, place (n + 1) lines)
    else (do
      one ← at_line n (line_in_tree used line)
      others ← tree_of one.1 (n + 1) lines
      Ok (one.0 ∷ others.0, others.1, others.2)))

-- the line `events`
unfoldable pub events_head : List ℕ → Result (Unit {0}) FaultKind
events_head line =
    if is_events (front_of (pieces_of line)) then (if is_events line then Ok tt else Err Word) else Err Section

-- the place after the line `events`
unfoldable pub behind_events : ℕ → List (List ℕ) → Result ReadTo ScriptFault
behind_events n [] = ends_at n
behind_events n (line ∷ lines) =
    if is_passed line then behind_events (n + 1) lines
    else (at_line n (events_head line) >>= λ _. Ok (place (n + 1) lines))

-- the events up to the end of the text
unfoldable pub events_of : ℕ → ℕ → List (List ℕ) → Result (List EventLine) ScriptFault
events_of used n [] = Ok []
events_of used n (line ∷ lines) =
    if is_passed line then events_of used (n + 1) lines
    else (do
      one ← at_line n (line_in_events used line)
      others ← events_of one.1 (n + 1) lines
      Ok (one.0 ∷ others))

-- A script: `conf` sections, the tree, the events. Its value, or its first fault.
unfoldable pub script_of : List ℕ → Result Script ScriptFault
script_of text = do
  confs ← confs_of [] 1 (lines_of text)
  tree ← tree_of 0 confs.1.number confs.1.lines
  start ← behind_events tree.2.number tree.2.lines
  events ← events_of tree.1 start.number start.lines
  Ok (record { confs = confs.0; tree = tree.0; events = events })
