-- A printed line of the tree or of the events is read again.
use Rattle.std.proofs.Common.{◌≡◌, ℕ, ◌+◌, ◌<◌, ◌≤◌, true, false, cond, leb, List, [], ◌∷◌, ◌++◌, length, decimal, None, Result, Ok, Err, refl, sym, ap, ◌∙◌, subst, arith, le-leb, append-nil, codes}
use Rattle.http_types.specs.declared.words.Addr.{Addr}
use Rattle.replay_words.specs.declared.faults.FaultKind.{FaultKind}
use Rattle.replay_words.specs.declared.faults.FaultKind.TheVariants.{Word, Number}
use Rattle.replay_text.specs.declared.parts.TreeLine.{TreeLine}
use Rattle.replay_text.specs.declared.parts.TreeLine.TheVariants as trees
use Rattle.replay_text.specs.declared.parts.EventLine.{EventLine}
use Rattle.replay_text.specs.declared.parts.EventLine.TheVariants as events
use Rattle.replay_words.specs.Faults.{◌>>=◌}
use Rattle.replay_words.specs.Words.{is_word, is_conf, is_events, is_dash, is_fail, keyword_of}
use Rattle.replay_words.specs.Numbers.{number, most_id, most_room, last_second}
use Rattle.replay_words.specs.Escapes.{unescaped, begins_with_slash, path_word, AreBytes}
use Rattle.replay_words.specs.Sums.{Term, Counted, terms_of, sum_of, counts_of, sum_bytes, bytes_within, most_bytes}
use Rattle.replay_text.specs.Entries.{file_line, path_line, tree_line, open_line, some_term, some_byte, bytes_line, end_line, room_line, node_line, fails_of, answer_line, run_line, tick_line, drain_line, change_line, tree_event, alone, event_line}
use Rattle.replay_text.specs.Grammar.{line_in_tree, line_in_events}
use Rattle.replay_print.specs.Printed.{printed, printed_sum, addr_text, tree_words, event_words, spaced, IsPath, IsTreeLine, IsEnd, IsEvent, tree_size, event_size}
use Rattle.replay_print.proofs.PrintLaws.{and_true, AreWords, pieces_spaced, words_spaced, unescaped-printed, printed_graphic, number-decimal, decimal_word, graphic_word, printed_some, printed_no_dash}
use Rattle.replay_print.proofs.PrintedAddrs.{addr_read, addr_word}

abbrev ok : EventLine × ℕ → Result (EventLine × ℕ) FaultKind
ok x = Ok x

-- paths

slash_any : (bs : List ℕ) → begins_with_slash (47 ∷ bs) ≡ true
slash_any [] = refl
slash_any (a ∷ []) = refl
slash_any (a ∷ b ∷ bs) = refl

-- what a path is to its word
record PathReads (path : List ℕ) : Type 0 where
  is_path : path_word (printed path) ≡ Ok (printed path)
  read : unescaped (printed path) ≡ Ok path
  word : is_word (printed path) ≡ true

path_reads : (path : List ℕ) → IsPath path → PathReads path
path_reads path h =
    let bytes : AreBytes (47 ∷ h.0) = and_true refl h.2 in
    let reads : PathReads (47 ∷ h.0) = record {
      is_path = ap (λ t. cond t (Ok (47 ∷ printed h.0)) (Err Word)) (slash_any (printed h.0));
      read = unescaped-printed (47 ∷ h.0) bytes;
      word = printed_graphic (47 ∷ h.0) bytes;
    } in
    subst PathReads (sym h.1) reads

-- sums

one_term : (w : List ℕ) → terms_of (w ∷ []) ≡ Ok (record { word = w; times = None } ∷ [])
unfolding terms_of
one_term w = refl

sum_term : (w : List ℕ) → is_dash w ≡ false → sum_of (w ∷ []) ≡ Ok (record { word = w; times = None } ∷ [])
unfolding sum_of
sum_term w h = ap (λ t. cond t (Ok []) (terms_of (w ∷ []))) h ∙ one_term w

sum_none : sum_of (codes "-" ∷ []) ≡ Ok []
unfolding sum_of is_dash
sum_none = refl

counts_none : counts_of [] ≡ Ok []
unfolding counts_of
counts_none = refl

counts_one : (w : List ℕ) → counts_of (record { word = w; times = None } ∷ []) ≡ Ok (record { word = w; count = 1 } ∷ [])
unfolding counts_of
counts_one w = refl

within_none : (used : ℕ) → used ≤ most_bytes → bytes_within used [] ≡ Ok []
unfolding bytes_within sum_bytes
within_none used h = ap (λ t. cond t (Ok []) (Err Number)) (le-leb (used + 0) most_bytes (omega arith))

within_one : (used : ℕ) (w bytes : List ℕ) → unescaped w ≡ Ok bytes → used + length bytes ≤ most_bytes → bytes_within used (record { word = w; count = 1 } ∷ []) ≡ Ok bytes
unfolding bytes_within sum_bytes
within_one used w bytes h fits =
    let same : (bytes ++ []) ++ [] ≡ bytes = append-nil (bytes ++ []) ∙ append-nil bytes in
    ap (λ r. (r >>= λ text. Ok ((text ++ []) ++ [])) >>= λ bs. cond (leb (used + length bs) most_bytes) (Ok bs) (Err Number)) h
    ∙ ap (λ bs. cond (leb (used + length bs) most_bytes) (Ok bs) (Err Number)) same
    ∙ ap (λ t. cond t (Ok bytes) (Err Number)) (le-leb (used + length bytes) most_bytes fits)

-- what bytes are to the word of their sum
record SumReads (used : ℕ) (bytes : List ℕ) : Type 0 where
  terms : List Term
  counted : List Counted
  is_sum : sum_of (printed_sum bytes ∷ []) ≡ Ok terms
  counts : counts_of terms ≡ Ok counted
  read : bytes_within used counted ≡ Ok bytes
  some : 0 < length bytes → some_term terms ≡ Ok terms
  word : is_word (printed_sum bytes) ≡ true

sum_reads : (used : ℕ) (bytes : List ℕ) → AreBytes bytes → used + length bytes ≤ most_bytes → SumReads used bytes
sum_reads used [] h fits = record {
  terms = [];
  counted = [];
  is_sum = sum_none;
  counts = counts_none;
  read = within_none used (omega arith);
  some = λ k. absurd (omega arith);
  word = refl;
}
sum_reads used (b ∷ bs) h fits =
    let w = printed (b ∷ bs) in
    record {
      terms = record { word = w; times = None } ∷ [];
      counted = record { word = w; count = 1 } ∷ [];
      is_sum = sum_term w (printed_no_dash b bs);
      counts = counts_one w;
      read = within_one used w (b ∷ bs) (unescaped-printed (b ∷ bs) h) fits;
      some = λ k. refl;
      word = graphic_word w (printed_some b bs) (printed_graphic (b ∷ bs) h);
    }

-- numbers

id_read : (n : ℕ) → n ≤ most_id → number most_id (decimal n) ≡ Ok n
unfolding most_id
id_read n h = number-decimal most_id n h (omega arith)

room_read : (n : ℕ) → n ≤ most_room → number most_room (decimal n) ≡ Ok n
unfolding most_room
room_read n h = number-decimal most_room n h (omega arith)

second_read : (n : ℕ) → n ≤ last_second → number last_second (decimal n) ≡ Ok n
unfolding last_second
second_read n h = number-decimal last_second n h (omega arith)

id_word : (n : ℕ) → n ≤ most_id → is_word (decimal n) ≡ true
unfolding most_id
id_word n h = decimal_word n (omega arith)

room_word : (n : ℕ) → n ≤ most_room → is_word (decimal n) ≡ true
unfolding most_room
room_word n h = decimal_word n (omega arith)

second_word : (n : ℕ) → n ≤ last_second → is_word (decimal n) ≡ true
unfolding last_second
second_word n h = decimal_word n (omega arith)

-- lines of the tree

file_read : (used date : ℕ) (path bytes : List ℕ) → PathReads path → date ≤ last_second → SumReads used bytes → file_line used (printed path ∷ decimal date ∷ printed_sum bytes ∷ []) ≡ Ok (trees.File path date bytes, used + length bytes)
unfolding file_line
file_read used date path bytes p h s = rw (p.is_path, s.is_sum, second_read date h, s.counts, p.read, s.read) refl

path_read : (path : List ℕ) → PathReads path → path_line (printed path ∷ []) ≡ Ok path
unfolding path_line
path_read path p = rw (p.is_path, p.read) refl

-- the first word of a line of the tree, and the others
tree_name : TreeLine → List ℕ
tree_name (trees.File path date bytes) = codes "file"
tree_name (trees.Folder path) = codes "folder"
tree_name (trees.Locked path) = codes "locked"

tree_rest : TreeLine → List (List ℕ)
tree_rest (trees.File path date bytes) = printed path ∷ decimal date ∷ printed_sum bytes ∷ []
tree_rest (trees.Folder path) = printed path ∷ []
tree_rest (trees.Locked path) = printed path ∷ []

tree_read : (used : ℕ) (line : TreeLine) → IsTreeLine line → used + tree_size line ≤ most_bytes → tree_line used (keyword_of (tree_name line)) (tree_rest line) ≡ Ok (line, used + tree_size line)
unfolding tree_line keyword_of tree_name tree_rest
tree_read used (trees.File path date bytes) h fits = file_read used date path bytes (path_reads path h.0) h.1 (sum_reads used bytes h.2 fits)
tree_read used (trees.Folder path) h fits = ap (λ r. r >>= λ path. Ok (trees.Folder path, used)) (path_read path (path_reads path h)) ∙ ap (λ n. Ok (trees.Folder path, n)) (let e : used ≡ used + 0 = omega arith in e)
tree_read used (trees.Locked path) h fits = ap (λ r. r >>= λ path. Ok (trees.Locked path, used)) (path_read path (path_reads path h)) ∙ ap (λ n. Ok (trees.Locked path, n)) (let e : used ≡ used + 0 = omega arith in e)

pub tree_are_words : (used : ℕ) (line : TreeLine) → IsTreeLine line → used + tree_size line ≤ most_bytes → AreWords (tree_words line)
tree_are_words used (trees.File path date bytes) h fits = and_true refl (and_true (path_reads path h.0).word (and_true (second_word date h.1) (and_true (sum_reads used bytes h.2 fits).word refl)))
tree_are_words used (trees.Folder path) h fits = and_true refl (and_true (path_reads path h).word refl)
tree_are_words used (trees.Locked path) h fits = and_true refl (and_true (path_reads path h).word refl)

-- a line of two words or more, in the tree and among the events

in_tree : (used : ℕ) (name w : List ℕ) (ws : List (List ℕ)) → AreWords (name ∷ w ∷ ws) → is_conf name ≡ false → line_in_tree used (spaced (name ∷ w ∷ ws)) ≡ tree_line used (keyword_of name) (w ∷ ws)
unfolding line_in_tree
in_tree used name w ws h other = rw (pieces_spaced name (w ∷ ws) h, other, words_spaced name (w ∷ ws) h) refl

in_events : (used : ℕ) (name w : List ℕ) (ws : List (List ℕ)) → AreWords (name ∷ w ∷ ws) → is_conf name ≡ false → line_in_events used (spaced (name ∷ w ∷ ws)) ≡ event_line used (keyword_of name) (w ∷ ws)
unfolding line_in_events
in_events used name w ws h other = rw (pieces_spaced name (w ∷ ws) h, other, words_spaced name (w ∷ ws) h) refl

pub tree_line_read : (used : ℕ) (line : TreeLine) → IsTreeLine line → used + tree_size line ≤ most_bytes → line_in_tree used (spaced (tree_words line)) ≡ Ok (line, used + tree_size line)
unfolding is_conf tree_name tree_rest
tree_line_read used (trees.File path date bytes) h fits =
    in_tree used (codes "file") (printed path) (decimal date ∷ printed_sum bytes ∷ []) (tree_are_words used (trees.File path date bytes) h fits) refl ∙ tree_read used (trees.File path date bytes) h fits
tree_line_read used (trees.Folder path) h fits =
    in_tree used (codes "folder") (printed path) [] (tree_are_words used (trees.Folder path) h fits) refl ∙ tree_read used (trees.Folder path) h fits
tree_line_read used (trees.Locked path) h fits =
    in_tree used (codes "locked") (printed path) [] (tree_are_words used (trees.Locked path) h fits) refl ∙ tree_read used (trees.Locked path) h fits

-- the line of a configuration's path

pub conf_words : (path : List ℕ) → IsPath path → AreWords (codes "conf" ∷ printed path ∷ [])
conf_words path h = and_true refl (and_true (path_reads path h).word refl)

pub conf_path_read : (path : List ℕ) → IsPath path → path_line (printed path ∷ []) ≡ Ok path
conf_path_read path h = path_read path (path_reads path h)

-- events

open_read : (conn : ℕ) (here there : Addr) → conn ≤ most_id → IsEnd here → IsEnd there → open_line (decimal conn ∷ addr_text here ∷ addr_text there ∷ []) ≡ Ok (events.Open conn here there)
unfolding open_line
open_read conn here there h k l = rw (addr_read here k, addr_read there l, id_read conn h) refl

some_read : (bytes : List ℕ) → 0 < length bytes → some_byte bytes ≡ Ok bytes
some_read [] h = absurd (omega arith)
some_read (b ∷ bs) h = refl

bytes_read : (used conn : ℕ) (bytes : List ℕ) → conn ≤ most_id → 0 < length bytes → SumReads used bytes → bytes_line used (decimal conn ∷ printed_sum bytes ∷ []) ≡ Ok (events.Bytes conn bytes, used + length bytes)
unfolding bytes_line
bytes_read used conn bytes h k s = rw (s.is_sum, s.some k, id_read conn h, s.counts, s.read, some_read bytes k) refl

end_read : (conn : ℕ) → conn ≤ most_id → end_line (decimal conn ∷ []) ≡ Ok (events.End conn)
unfolding end_line
end_read conn h = rw (id_read conn h) refl

rooms_read : (conn count : ℕ) → conn ≤ most_id → count ≤ most_room → room_line (decimal conn ∷ decimal count ∷ []) ≡ Ok (events.Room conn count)
unfolding room_line
rooms_read conn count h k = rw (id_read conn h, room_read count k) refl

nodes_read : (conn node : ℕ) → conn ≤ most_id → node ≤ most_id → node_line (decimal conn) (decimal node) ≡ Ok (conn, node)
unfolding node_line
nodes_read conn node h k = rw (id_read conn h, id_read node k) refl

answer_read : (conn node : ℕ) → conn ≤ most_id → node ≤ most_id → answer_line (decimal conn ∷ decimal node ∷ []) ≡ Ok (events.File conn node)
unfolding answer_line fails_of
answer_read conn node h k = rw (nodes_read conn node h k) refl

failure_read : (conn node : ℕ) → conn ≤ most_id → node ≤ most_id → answer_line (decimal conn ∷ decimal node ∷ codes "fail" ∷ []) ≡ Ok (events.FileFails conn node)
unfolding answer_line fails_of is_fail
failure_read conn node h k = rw (nodes_read conn node h k) refl

run_read : (conn node : ℕ) → conn ≤ most_id → node ≤ most_id → run_line (decimal conn ∷ decimal node ∷ []) ≡ Ok (events.Run conn node)
unfolding run_line
run_read conn node h k = rw (nodes_read conn node h k) refl

tick_read : (now : ℕ) → now ≤ last_second → tick_line (decimal now ∷ []) ≡ Ok (events.Tick now)
unfolding tick_line
tick_read now h = rw (second_read now h) refl

change_read : (used : ℕ) (line : TreeLine) → IsTreeLine line → used + tree_size line ≤ most_bytes → tree_event used (tree_words line) ≡ Ok (events.Tree line, used + tree_size line)
unfolding tree_event change_line keyword_of tree_name tree_rest
change_read used (trees.File path date bytes) h fits = ap (λ r. r >>= λ line. Ok (events.Tree line.0, line.1)) (tree_read used (trees.File path date bytes) h fits)
change_read used (trees.Folder path) h fits = ap (λ r. r >>= λ line. Ok (events.Tree line.0, line.1)) (tree_read used (trees.Folder path) h fits)
change_read used (trees.Locked path) h fits = ap (λ r. r >>= λ line. Ok (events.Tree line.0, line.1)) (tree_read used (trees.Locked path) h fits)

gone_read : (used : ℕ) (path : List ℕ) → IsPath path → tree_event used (codes "gone" ∷ printed path ∷ []) ≡ Ok (events.TreeGone path, used)
unfolding tree_event change_line keyword_of
gone_read used path h = ap (λ r. r >>= λ path. Ok (events.TreeGone path, used)) (path_read path (path_reads path h))

drain_in_events : (used : ℕ) → line_in_events used (spaced (codes "drain" ∷ [])) ≡ Ok (events.Drain, used)
unfolding line_in_events event_line drain_line is_events keyword_of
drain_in_events used = rw (pieces_spaced (codes "drain") [] refl, words_spaced (codes "drain") [] refl) refl

pub event_are_words : (used : ℕ) (event : EventLine) → IsEvent event → used + event_size event ≤ most_bytes → AreWords (event_words event)
event_are_words used (events.Open conn here there) h fits = and_true refl (and_true (id_word conn h.0) (and_true (addr_word here h.1) (and_true (addr_word there h.2) refl)))
event_are_words used (events.Bytes conn bytes) h fits = and_true refl (and_true (id_word conn h.0) (and_true (sum_reads used bytes h.2 fits).word refl))
event_are_words used (events.End conn) h fits = and_true refl (and_true (id_word conn h) refl)
event_are_words used (events.Room conn count) h fits = and_true refl (and_true (id_word conn h.0) (and_true (room_word count h.1) refl))
event_are_words used (events.File conn node) h fits = and_true refl (and_true (id_word conn h.0) (and_true (id_word node h.1) refl))
event_are_words used (events.FileFails conn node) h fits = and_true refl (and_true (id_word conn h.0) (and_true (id_word node h.1) (and_true refl refl)))
event_are_words used (events.Run conn node) h fits = and_true refl (and_true (id_word conn h.0) (and_true (id_word node h.1) refl))
event_are_words used (events.Tick now) h fits = and_true refl (and_true (second_word now h) refl)
event_are_words used (events.Tree line) h fits = and_true refl (tree_are_words used line h fits)
event_are_words used (events.TreeGone path) h fits = and_true refl (and_true refl (and_true (path_reads path h).word refl))
event_are_words used events.Drain h fits = refl

-- an event whose line has no sum
no_sum : (used : ℕ) (event : EventLine) → ok (event, used) ≡ ok (event, used + 0)
no_sum used event = ap (λ n. Ok (event, n)) (let e : used ≡ used + 0 = omega arith in e)

pub event_line_read : (used : ℕ) (event : EventLine) → IsEvent event → used + event_size event ≤ most_bytes → line_in_events used (spaced (event_words event)) ≡ Ok (event, used + event_size event)
unfolding event_line is_conf keyword_of
event_line_read used (events.Open conn here there) h fits =
    in_events used (codes "open") (decimal conn) (addr_text here ∷ addr_text there ∷ []) (event_are_words used (events.Open conn here there) h fits) refl ∙ ap (alone used) (open_read conn here there h.0 h.1 h.2) ∙ no_sum used _
event_line_read used (events.Bytes conn bytes) h fits =
    in_events used (codes "bytes") (decimal conn) (printed_sum bytes ∷ []) (event_are_words used (events.Bytes conn bytes) h fits) refl ∙ bytes_read used conn bytes h.0 h.1 (sum_reads used bytes h.2 fits)
event_line_read used (events.End conn) h fits =
    in_events used (codes "end") (decimal conn) [] (event_are_words used (events.End conn) h fits) refl ∙ ap (alone used) (end_read conn h) ∙ no_sum used _
event_line_read used (events.Room conn count) h fits =
    in_events used (codes "room") (decimal conn) (decimal count ∷ []) (event_are_words used (events.Room conn count) h fits) refl ∙ ap (alone used) (rooms_read conn count h.0 h.1) ∙ no_sum used _
event_line_read used (events.File conn node) h fits =
    in_events used (codes "file") (decimal conn) (decimal node ∷ []) (event_are_words used (events.File conn node) h fits) refl ∙ ap (alone used) (answer_read conn node h.0 h.1) ∙ no_sum used _
event_line_read used (events.FileFails conn node) h fits =
    in_events used (codes "file") (decimal conn) (decimal node ∷ codes "fail" ∷ []) (event_are_words used (events.FileFails conn node) h fits) refl ∙ ap (alone used) (failure_read conn node h.0 h.1) ∙ no_sum used _
event_line_read used (events.Run conn node) h fits =
    in_events used (codes "run") (decimal conn) (decimal node ∷ []) (event_are_words used (events.Run conn node) h fits) refl ∙ ap (alone used) (run_read conn node h.0 h.1) ∙ no_sum used _
event_line_read used (events.Tick now) h fits =
    in_events used (codes "tick") (decimal now) [] (event_are_words used (events.Tick now) h fits) refl ∙ ap (alone used) (tick_read now h) ∙ no_sum used _
event_line_read used (events.Tree (trees.File path date bytes)) h fits =
    in_events used (codes "tree") (codes "file") (printed path ∷ decimal date ∷ printed_sum bytes ∷ []) (event_are_words used (events.Tree (trees.File path date bytes)) h fits) refl ∙ change_read used (trees.File path date bytes) h fits
event_line_read used (events.Tree (trees.Folder path)) h fits =
    in_events used (codes "tree") (codes "folder") (printed path ∷ []) (event_are_words used (events.Tree (trees.Folder path)) h fits) refl ∙ change_read used (trees.Folder path) h fits
event_line_read used (events.Tree (trees.Locked path)) h fits =
    in_events used (codes "tree") (codes "locked") (printed path ∷ []) (event_are_words used (events.Tree (trees.Locked path)) h fits) refl ∙ change_read used (trees.Locked path) h fits
event_line_read used (events.TreeGone path) h fits =
    in_events used (codes "tree") (codes "gone") (printed path ∷ []) (event_are_words used (events.TreeGone path) h fits) refl ∙ gone_read used path h ∙ no_sum used _
event_line_read used events.Drain h fits = drain_in_events used ∙ no_sum used _
