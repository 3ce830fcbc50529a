-- The lines of the tree and of the events.
use Rattle.std.specs.Prelude.{ℕ, ◌+◌, List, [], ◌∷◌, length, Bool, true, false, Result, Ok, Err, if◌then◌else◌}
use Rattle.replay_words.specs.declared.faults.FaultKind.{FaultKind}
use Rattle.replay_words.specs.declared.faults.FaultKind.TheVariants.{Word}
use Rattle.replay_words.specs.declared.words.Keyword.{Keyword}
use Rattle.replay_words.specs.declared.words.Keyword.TheVariants as keywords
use Rattle.replay_text.specs.declared.parts.TreeLine.{TreeLine}
use Rattle.replay_text.specs.declared.parts.TreeLine.TheVariants as trees
use Rattle.replay_text.specs.declared.parts.EventLine.{EventLine}
use Rattle.replay_text.specs.declared.parts.EventLine.TheVariants as events
use Rattle.replay_words.specs.Faults.{◌>>=◌}
use Rattle.replay_words.specs.Words.{keyword_of, is_fail, no_word, one_word, first_word}
use Rattle.replay_words.specs.Numbers.{number, most_id, most_room, last_second}
use Rattle.replay_words.specs.Escapes.{unescaped, path_word}
use Rattle.replay_words.specs.Sums.{Term, sum_of, counts_of, bytes_within}
use Rattle.replay_words.specs.Addrs.{addr_of}

-- Each line is read in the order of its faults: its words, then its numbers, then its escapes. A line gives its value,
-- and how many bytes the sums of the script have up to its end.

-- `file PATH DATE BYTES`
unfoldable pub file_line : ℕ → List (List ℕ) → Result (TreeLine × ℕ) FaultKind
file_line used words = do
  first ← first_word words
  path ← path_word first.0
  date ← first_word first.1
  terms ← sum_of date.1
  seconds ← number last_second date.0
  counted ← counts_of terms
  place ← unescaped path
  bytes ← bytes_within used counted
  Ok (trees.File place seconds bytes, used + length bytes)

-- a path alone
unfoldable pub path_line : List (List ℕ) → Result (List ℕ) FaultKind
path_line words = do
  word ← one_word words
  path ← path_word word
  unescaped path

-- `file PATH DATE BYTES`, `folder PATH` or `locked PATH`
unfoldable pub tree_line : ℕ → Keyword → List (List ℕ) → Result (TreeLine × ℕ) FaultKind
tree_line used keywords.File words = file_line used words
tree_line used keywords.Folder words = do
  path ← path_line words
  Ok (trees.Folder path, used)
tree_line used keywords.Locked words = do
  path ← path_line words
  Ok (trees.Locked path, used)
tree_line used _ words = Err Word

-- `open CONN LOCAL PEER`
unfoldable pub open_line : List (List ℕ) → Result EventLine FaultKind
open_line words = do
  conn ← first_word words
  local ← first_word conn.1
  peer ← one_word local.1
  here ← addr_of local.0
  there ← addr_of peer
  id ← number most_id conn.0
  Ok (events.Open id here there)

-- a sum has a term
abbrev pub some_term : List Term → Result (List Term) FaultKind
some_term [] = Err Word
some_term (term ∷ terms) = Ok (term ∷ terms)

-- a text has a byte
abbrev pub some_byte : List ℕ → Result (List ℕ) FaultKind
some_byte [] = Err Word
some_byte (b ∷ bs) = Ok (b ∷ bs)

-- `bytes CONN BYTES`
unfoldable pub bytes_line : ℕ → List (List ℕ) → Result (EventLine × ℕ) FaultKind
bytes_line used words = do
  conn ← first_word words
  sum ← sum_of conn.1
  terms ← some_term sum
  id ← number most_id conn.0
  counted ← counts_of terms
  bytes ← bytes_within used counted
  some ← some_byte bytes
  Ok (events.Bytes id some, used + length bytes)

-- `end CONN`
unfoldable pub end_line : List (List ℕ) → Result EventLine FaultKind
end_line words = do
  conn ← one_word words
  id ← number most_id conn
  Ok (events.End id)

-- `room CONN COUNT`
unfoldable pub room_line : List (List ℕ) → Result EventLine FaultKind
room_line words = do
  conn ← first_word words
  count ← one_word conn.1
  id ← number most_id conn.0
  bytes ← number most_room count
  Ok (events.Room id bytes)

-- a connection and a node
unfoldable pub node_line : List ℕ → List ℕ → Result (ℕ × ℕ) FaultKind
node_line conn node = do
  id ← number most_id conn
  at ← number most_id node
  Ok (id, at)

-- nothing, or the word `fail`
unfoldable pub fails_of : List (List ℕ) → Result Bool FaultKind
fails_of [] = Ok false
fails_of (word ∷ []) = if is_fail word then Ok true else Err Word
fails_of (word ∷ w ∷ words) = Err Word

-- `file CONN NODE` or `file CONN NODE fail`
unfoldable pub answer_line : List (List ℕ) → Result EventLine FaultKind
answer_line words = do
  conn ← first_word words
  node ← first_word conn.1
  fails ← fails_of node.1
  ids ← node_line conn.0 node.0
  Ok (if fails then events.FileFails ids.0 ids.1 else events.File ids.0 ids.1)

-- `run CONN NODE`
unfoldable pub run_line : List (List ℕ) → Result EventLine FaultKind
run_line words = do
  conn ← first_word words
  node ← one_word conn.1
  ids ← node_line conn.0 node
  Ok (events.Run ids.0 ids.1)

-- `tick SECONDS`
unfoldable pub tick_line : List (List ℕ) → Result EventLine FaultKind
tick_line words = do
  word ← one_word words
  seconds ← number last_second word
  Ok (events.Tick seconds)

-- `drain`
unfoldable pub drain_line : List (List ℕ) → Result EventLine FaultKind
drain_line words = do
  nothing ← no_word words
  Ok events.Drain

-- a line about the tree, or `gone PATH`, as an event
unfoldable pub change_line : ℕ → Keyword → List (List ℕ) → Result (EventLine × ℕ) FaultKind
change_line used keywords.Gone words = do
  path ← path_line words
  Ok (events.TreeGone path, used)
change_line used name words = do
  line ← tree_line used name words
  Ok (events.Tree line.0, line.1)

-- `tree` and a change of the tree
unfoldable pub tree_event : ℕ → List (List ℕ) → Result (EventLine × ℕ) FaultKind
tree_event used words = do
  name ← first_word words
  change_line used (keyword_of name.0) name.1

-- an event whose line has no sum
abbrev pub alone : ℕ → Result EventLine FaultKind → Result (EventLine × ℕ) FaultKind
alone used (Ok event) = Ok (event, used)
alone used (Err kind) = Err kind

-- the line of an event
unfoldable pub event_line : ℕ → Keyword → List (List ℕ) → Result (EventLine × ℕ) FaultKind
event_line used keywords.Open words = alone used (open_line words)
event_line used keywords.Bytes words = bytes_line used words
event_line used keywords.End words = alone used (end_line words)
event_line used keywords.Room words = alone used (room_line words)
event_line used keywords.File words = alone used (answer_line words)
event_line used keywords.Run words = alone used (run_line words)
event_line used keywords.Tick words = alone used (tick_line words)
event_line used keywords.Tree words = tree_event used words
event_line used keywords.Drain words = alone used (drain_line words)
event_line used _ words = Err Word
