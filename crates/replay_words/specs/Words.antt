-- The words of a line.
use Rattle.std.specs.Prelude.{ℕ, List, [], ◌∷◌, Bool, false, ◌&&◌, nat_le, Result, Ok, Err, codes, nat_eq, if◌then◌else◌}
use Rattle.std.specs.List.{list_all}
use Rattle.std.specs.Cmp.Lexicographic.{pointwise}
use Rattle.replay_words.specs.declared.faults.FaultKind.{FaultKind}
use Rattle.replay_words.specs.declared.faults.FaultKind.TheVariants.{Word}
use Rattle.replay_words.specs.declared.words.Keyword.{Keyword}
use Rattle.replay_words.specs.declared.words.Keyword.TheVariants as keywords
use Rattle.replay_words.specs.Lines.{pieces_of}

-- a byte from `!` to `~`
abbrev pub is_graphic : ℕ → Bool
is_graphic b = nat_le 33 b && nat_le b 126

-- at least one byte, and each of them graphic
abbrev pub is_word : List ℕ → Bool
is_word [] = false
is_word (b ∷ bs) = list_all is_graphic (b ∷ bs)

-- the words of a line, which have one space between them
unfoldable pub words_of : List ℕ → Result (List (List ℕ)) FaultKind
words_of line = if list_all is_word (pieces_of line) then Ok (pieces_of line) else Err Word

-- the two texts are one
abbrev pub same : List ℕ → List ℕ → Bool
same s t = pointwise nat_eq s t

-- the word that begins a configuration's section, and those that are the whole lines between the sections
unfoldable pub is_conf : List ℕ → Bool
is_conf word = same word (codes "conf")

unfoldable pub is_tree : List ℕ → Bool
is_tree word = same word (codes "tree")

unfoldable pub is_events : List ℕ → Bool
is_events word = same word (codes "events")

unfoldable pub is_dot : List ℕ → Bool
is_dot word = same word (codes ".")

-- the words of a sum: `+`, `times`, and `-` for no bytes
unfoldable pub is_plus : List ℕ → Bool
is_plus word = same word (codes "+")

unfoldable pub is_times : List ℕ → Bool
is_times word = same word (codes "times")

unfoldable pub is_dash : List ℕ → Bool
is_dash word = same word (codes "-")

-- `-` is the only word
abbrev pub is_dash_alone : List (List ℕ) → Bool
is_dash_alone [] = false
is_dash_alone (word ∷ []) = is_dash word
is_dash_alone (word ∷ w ∷ words) = false

-- the word for a job that fails
unfoldable pub is_fail : List ℕ → Bool
is_fail word = same word (codes "fail")

-- which line of the tree or the events a word begins
unfoldable pub keyword_of : List ℕ → Keyword
keyword_of word =
    if same word (codes "file") then keywords.File
    else (if same word (codes "folder") then keywords.Folder
    else (if same word (codes "locked") then keywords.Locked
    else (if same word (codes "gone") then keywords.Gone
    else (if same word (codes "open") then keywords.Open
    else (if same word (codes "bytes") then keywords.Bytes
    else (if same word (codes "end") then keywords.End
    else (if same word (codes "room") then keywords.Room
    else (if same word (codes "run") then keywords.Run
    else (if same word (codes "tick") then keywords.Tick
    else (if same word (codes "tree") then keywords.Tree
    else (if same word (codes "drain") then keywords.Drain
    else keywords.Other)))))))))))

-- no word
abbrev pub no_word : List (List ℕ) → Result (Unit {0}) FaultKind
no_word [] = Ok tt
no_word (a ∷ rest) = Err Word

-- one word alone
abbrev pub one_word : List (List ℕ) → Result (List ℕ) FaultKind
one_word [] = Err Word
one_word (a ∷ []) = Ok a
one_word (a ∷ b ∷ rest) = Err Word

-- a word, and the words after it
abbrev pub first_word : List (List ℕ) → Result (List ℕ × List (List ℕ)) FaultKind
first_word [] = Err Word
first_word (a ∷ rest) = Ok (a, rest)
