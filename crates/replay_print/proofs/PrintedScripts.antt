-- A printed script is read again.
use Rattle.std.proofs.Common.{◌≡◌, ℕ, ◌+◌, ◌<◌, ◌≤◌, Bool, true, false, cond, eqb, not, ◌||◌, List, [], ◌∷◌, ◌++◌, length, flat_map, Some, None, Ok, refl, sym, ap, ◌∙◌, subst, append_assoc, append-nil, arith, codes}
use Rattle.std.specs.List.{list_any, AllByRecursion}
use Rattle.replay_text.specs.declared.parts.Conf.{Conf}
use Rattle.replay_text.specs.declared.parts.TreeLine.{TreeLine}
use Rattle.replay_text.specs.declared.parts.TreeLine.TheVariants as trees
use Rattle.replay_text.specs.declared.parts.EventLine.{EventLine}
use Rattle.replay_text.specs.declared.parts.EventLine.TheVariants as events
use Rattle.replay_text.specs.declared.parts.Script.{Script}
use Rattle.replay_words.specs.Faults.{◌>>=◌}
use Rattle.replay_text.specs.Faults.{at_line}
use Rattle.replay_words.specs.Lines.{begun, lines_of, pieces_of}
use Rattle.replay_words.specs.Words.{is_conf, is_tree, is_events, is_dot}
use Rattle.replay_words.specs.Sums.{most_bytes}
use Rattle.replay_text.specs.Grammar.{place, is_passed, is_path_among, conf_line, some_path, tree_head, head_of, raw_text, confs_of, behind_dot, tree_of, events_head, behind_events, events_of, script_of}
use Rattle.replay_print.specs.Printed.{printed, tree_words, event_words, spaced, conf_lines, tree_lines, event_lines, script_lines, ended, script_text, IsPath, AreConfs, IsTreeLine, IsEvent, tree_size, event_size, total_by, IsScript}
use Rattle.replay_text.proofs.SectionLaws.{heads, confs_line, tree_line_step, events_step}
use Rattle.replay_print.proofs.PrintLaws.{true_false, no_byte, and_true, AreLines, lines_step, lines_none, lines_ended, pieces_spaced, words_spaced, spaced_line}
use Rattle.replay_print.proofs.PrintedEntries.{conf_words, conf_path_read, tree_are_words, tree_line_read, event_are_words, event_line_read}

-- no printed line is passed over, and none is `.`

tree_not_passed : (line : TreeLine) → is_passed (spaced (tree_words line)) ≡ false
tree_not_passed (trees.File path date bytes) = refl
tree_not_passed (trees.Folder path) = refl
tree_not_passed (trees.Locked path) = refl

tree_not_dot : (line : TreeLine) → is_dot (spaced (tree_words line)) ≡ false
unfolding is_dot
tree_not_dot (trees.File path date bytes) = refl
tree_not_dot (trees.Folder path) = refl
tree_not_dot (trees.Locked path) = refl

event_not_passed : (event : EventLine) → is_passed (spaced (event_words event)) ≡ false
event_not_passed (events.Open conn here there) = refl
event_not_passed (events.Bytes conn bytes) = refl
event_not_passed (events.End conn) = refl
event_not_passed (events.Room conn count) = refl
event_not_passed (events.File conn node) = refl
event_not_passed (events.FileFails conn node) = refl
event_not_passed (events.Run conn node) = refl
event_not_passed (events.Tick now) = refl
event_not_passed (events.Tree (trees.File path date bytes)) = refl
event_not_passed (events.Tree (trees.Folder path)) = refl
event_not_passed (events.Tree (trees.Locked path)) = refl
event_not_passed (events.TreeGone path) = refl
event_not_passed events.Drain = refl

-- the events

pub events_read : (used n : ℕ) (es : List EventLine) → AllByRecursion IsEvent es → used + total_by event_size es ≤ most_bytes → events_of used n (event_lines es) ≡ Ok es
unfolding events_of
events_read used n [] h fits = refl
events_read used n (e ∷ es) h fits =
    events_step used n (spaced (event_words e)) (event_lines es) (event_not_passed e)
    ∙ ap (λ r. at_line n r >>= λ one. events_of one.1 (n + 1) (event_lines es) >>= λ others. Ok (one.0 ∷ others)) (event_line_read used e h.0 (omega arith))
    ∙ ap (λ r. r >>= λ others. Ok (e ∷ others)) (events_read (used + event_size e) (n + 1) es h.1 (omega arith))

-- the tree

pub tree_read : (used n : ℕ) (ts : List TreeLine) (rest : List (List ℕ)) → AllByRecursion IsTreeLine ts → used + total_by tree_size ts ≤ most_bytes → (m : ℕ) × (tree_of used n (tree_lines ts ++ codes "." ∷ rest) ≡ Ok (ts, used + total_by tree_size ts, place m rest))
unfolding tree_of is_dot
tree_read used n [] rest h fits = (n + 1, ap (λ k. Ok ([], k, place (n + 1) rest)) (let e : used ≡ used + 0 = omega arith in e))
tree_read used n (t ∷ ts) rest h fits =
    let others = tree_read (used + tree_size t) (n + 1) ts rest h.1 (omega arith) in (
      others.0,
      tree_line_step used n (spaced (tree_words t)) (tree_lines ts ++ codes "." ∷ rest) (tree_not_passed t) (tree_not_dot t)
          ∙ ap (λ r. at_line n r >>= λ one. tree_of one.1 (n + 1) (tree_lines ts ++ codes "." ∷ rest) >>= λ others. Ok (one.0 ∷ others.0, others.1, others.2)) (tree_line_read used t h.0 (omega arith))
          ∙ ap (λ r. r >>= λ others. Ok (t ∷ others.0, others.1, others.2)) others.1
          ∙ ap (λ k. Ok (t ∷ ts, k, place others.0 rest)) (let e : (used + tree_size t) + total_by tree_size ts ≡ used + (tree_size t + total_by tree_size ts) = omega arith in e),
    )

-- the line `events`
events_found : (n : ℕ) (rest : List (List ℕ)) → behind_events n (codes "events" ∷ rest) ≡ Ok (place (n + 1) rest)
unfolding behind_events events_head pieces_of is_events
events_found n rest = refl

-- raw lines

either_false : {a b : Bool} → (a || b) ≡ false → (a ≡ false) × (b ≡ false)
either_false {a = true} h = absurd (true_false h)
either_false {a = false} h = (refl, h)

raw_read : (raw rest : List (List ℕ)) → list_any is_dot raw ≡ false → raw_text (raw ++ codes "." ∷ rest) ≡ flat_map ended raw
unfolding raw_text is_dot
raw_read [] rest h = refl
raw_read (line ∷ raw) rest h =
    let k = either_false {a = is_dot line} {b = list_any is_dot raw} h in
    ap (λ t. cond t [] (line ++ 10 ∷ raw_text (raw ++ codes "." ∷ rest))) k.0 ∙ ap (λ bs. line ++ 10 ∷ bs) (raw_read raw rest k.1) ∙ sym (append_assoc line (10 ∷ []) (flat_map ended raw))

raw_behind : (before : List Conf) (n : ℕ) (raw rest : List (List ℕ)) → list_any is_dot raw ≡ false → (m : ℕ) × (behind_dot before n (raw ++ codes "." ∷ rest) ≡ confs_of before m rest)
unfolding behind_dot is_dot
raw_behind before n [] rest h = (n + 1, refl)
raw_behind before n (line ∷ raw) rest h =
    let k = either_false {a = is_dot line} {b = list_any is_dot raw} h in
    let others = raw_behind before (n + 1) raw rest k.1 in (
      others.0,
      ap (λ t. cond t (confs_of before (n + 1) (raw ++ codes "." ∷ rest)) (behind_dot before (n + 1) (raw ++ codes "." ∷ rest))) k.0 ∙ others.1,
    )

-- configurations

conf_line_read : (before : List Conf) (path : List ℕ) → IsPath path → is_path_among before path ≡ false → conf_line before (spaced (codes "conf" ∷ printed path ∷ [])) ≡ Ok path
unfolding conf_line
conf_line_read before path h new = rw (words_spaced (codes "conf") (printed path ∷ []) (conf_words path h), conf_path_read path h, new) refl

conf_head : (before : List Conf) (path : List ℕ) → IsPath path → is_path_among before path ≡ false → head_of before (spaced (codes "conf" ∷ printed path ∷ [])) ≡ Ok (Some path)
unfolding head_of is_conf
conf_head before path h new = rw (pieces_spaced (codes "conf") (printed path ∷ []) (conf_words path h)) (ap some_path (conf_line_read before path h new))

tree_head_read : (before : List Conf) → 0 < length before → head_of before (codes "tree") ≡ Ok None
unfolding head_of pieces_of is_conf is_tree tree_head
tree_head_read [] h = absurd (omega arith)
tree_head_read (conf ∷ confs) h = refl

heads_conf : (n : ℕ) (before : List Conf) (rest : List (List ℕ)) (path : List ℕ) → heads n before rest (Ok (Some path)) ≡ behind_dot (before ++ record { path = path; bytes = raw_text rest } ∷ []) (n + 1) rest
unfolding heads
heads_conf n before rest path = refl

heads_tree : (n : ℕ) (before : List Conf) (rest : List (List ℕ)) → heads n before rest (Ok None) ≡ Ok (before, place (n + 1) rest)
unfolding heads
heads_tree n before rest = refl

regrouped : (raw more rest : List (List ℕ)) (dot : List ℕ) → ((raw ++ dot ∷ []) ++ more) ++ rest ≡ raw ++ dot ∷ (more ++ rest)
regrouped raw more rest dot = simp append_assoc

pub confs_read : (before : List Conf) (n : ℕ) (cs : List Conf) (rest : List (List ℕ)) → AreConfs before cs → 0 < length (before ++ cs) → (m : ℕ) × (confs_of before n (flat_map conf_lines cs ++ codes "tree" ∷ rest) ≡ Ok (before ++ cs, place m rest))
confs_read before n [] rest h some = (
  n + 1,
  confs_line n before (codes "tree") rest refl
      ∙ ap (λ r. heads n before rest (at_line n r)) (tree_head_read before (subst (λ (cs : List Conf). 0 < length cs) (append-nil before) some))
      ∙ heads_tree n before rest ∙ ap (λ (cs : List Conf). Ok (cs, place (n + 1) rest)) (sym (append-nil before)),
)
confs_read before n (c ∷ cs) rest h some =
    let raw = lines_of c.bytes in
    let behind = flat_map conf_lines cs ++ codes "tree" ∷ rest in
    let line = spaced (codes "conf" ∷ printed c.path ∷ []) in
    let shape : ((raw ++ codes "." ∷ []) ++ flat_map conf_lines cs) ++ codes "tree" ∷ rest ≡ raw ++ codes "." ∷ behind = regrouped raw (flat_map conf_lines cs) (codes "tree" ∷ rest) (codes ".") in
    let text : raw_text (raw ++ codes "." ∷ behind) ≡ c.bytes = raw_read raw behind h.2.no_dot ∙ h.2.whole in
    let passed = raw_behind (before ++ c ∷ []) (n + 1) raw behind h.2.no_dot in
    let shifted : (before ++ c ∷ []) ++ cs ≡ before ++ c ∷ cs = append_assoc before (c ∷ []) cs in
    let others = confs_read (before ++ c ∷ []) passed.0 cs rest h.3 (subst (λ (ds : List Conf). 0 < length ds) (sym shifted) some) in (
      others.0,
      ap (λ ls. confs_of before n (line ∷ ls)) shape
          ∙ confs_line n before line (raw ++ codes "." ∷ behind) refl
          ∙ ap (λ r. heads n before (raw ++ codes "." ∷ behind) (at_line n r)) (conf_head before c.path h.0 h.1)
          ∙ heads_conf n before (raw ++ codes "." ∷ behind) c.path
          ∙ ap (λ bs. behind_dot (before ++ record { path = c.path; bytes = bs } ∷ []) (n + 1) (raw ++ codes "." ∷ behind)) text
          ∙ passed.1 ∙ others.1 ∙ ap (λ (ds : List Conf). Ok (ds, place others.0 rest)) shifted,
    )

-- the lines hold no line feed

lines_append : (xs ys : List (List ℕ)) → AreLines xs → AreLines ys → AreLines (xs ++ ys)
lines_append [] ys h k = k
lines_append (x ∷ xs) ys h k = (h.0, lines_append xs ys h.1 k)

begun_lines : (b : ℕ) (ls : List (List ℕ)) → no_byte 10 b ≡ true → AreLines ls → AreLines (begun b ls)
begun_lines b [] h k = (and_true h refl, tt)
begun_lines b (l ∷ ls) h k = (and_true h k.0, k.1)

lines_by : (b : ℕ) (ls : List (List ℕ)) (t : Bool) → eqb b 10 ≡ t → AreLines ls → AreLines (cond t ([] ∷ ls) (begun b ls))
lines_by b ls true e h = (refl, h)
lines_by b ls false e h = begun_lines b ls (ap not e) h

raw_lines : (bs : List ℕ) → AreLines (lines_of bs)
raw_lines [] = subst AreLines (sym lines_none) tt
raw_lines (b ∷ bs) = subst AreLines (sym (lines_step b bs)) (lines_by b (lines_of bs) (eqb b 10) refl (raw_lines bs))

confs_lines : (before cs : List Conf) → AreConfs before cs → AreLines (flat_map conf_lines cs)
confs_lines before [] h = tt
confs_lines before (c ∷ cs) h = (
  spaced_line (codes "conf" ∷ printed c.path ∷ []) (conf_words c.path h.0),
  lines_append (lines_of c.bytes ++ codes "." ∷ []) (flat_map conf_lines cs) (lines_append (lines_of c.bytes) (codes "." ∷ []) (raw_lines c.bytes) (refl, tt)) (confs_lines (before ++ c ∷ []) cs h.3),
)

trees_lines : (used : ℕ) (ts : List TreeLine) → AllByRecursion IsTreeLine ts → used + total_by tree_size ts ≤ most_bytes → AreLines (tree_lines ts)
trees_lines used [] h fits = tt
trees_lines used (t ∷ ts) h fits = (spaced_line (tree_words t) (tree_are_words used t h.0 (omega arith)), trees_lines (used + tree_size t) ts h.1 (omega arith))

events_lines : (used : ℕ) (es : List EventLine) → AllByRecursion IsEvent es → used + total_by event_size es ≤ most_bytes → AreLines (event_lines es)
events_lines used [] h fits = tt
events_lines used (e ∷ es) h fits = (spaced_line (event_words e) (event_are_words used e h.0 (omega arith)), events_lines (used + event_size e) es h.1 (omega arith))

script_are_lines : (s : Script) → IsScript s → AreLines (script_lines s)
script_are_lines s h =
    lines_append (flat_map conf_lines s.confs) (codes "tree" ∷ (tree_lines s.tree ++ codes "." ∷ codes "events" ∷ event_lines s.events)) (confs_lines [] s.confs h.confs) (
      refl,
      lines_append (tree_lines s.tree) (codes "." ∷ codes "events" ∷ event_lines s.events) (trees_lines 0 s.tree h.tree (omega (arith, h.size)))
          (refl, (refl, events_lines (total_by tree_size s.tree) s.events h.events h.size)),
    )

-- the script

pub script_read : (s : Script) → IsScript s → script_of (script_text s) ≡ Ok s
unfolding script_of script_text
script_read s h =
    let rest = codes "events" ∷ event_lines s.events in
    let size = total_by tree_size s.tree in
    let confs = confs_read [] 1 s.confs (tree_lines s.tree ++ codes "." ∷ rest) h.confs h.some in
    let tree = tree_read 0 confs.0 s.tree rest h.tree (omega (arith, h.size)) in
    let none : 0 + size ≡ size = omega arith in
    ap (λ ls. confs_of [] 1 ls >>= λ confs. tree_of 0 confs.1.number confs.1.lines >>= λ tree. behind_events tree.2.number tree.2.lines >>= λ start. events_of tree.1 start.number start.lines >>= λ events. Ok (record { confs = confs.0; tree = tree.0; events = events })) (lines_ended (script_lines s) (script_are_lines s h))
    ∙ ap (λ r. r >>= λ confs. tree_of 0 confs.1.number confs.1.lines >>= λ tree. behind_events tree.2.number tree.2.lines >>= λ start. events_of tree.1 start.number start.lines >>= λ events. Ok (record { confs = confs.0; tree = tree.0; events = events })) confs.1
    ∙ ap (λ r. r >>= λ tree. behind_events tree.2.number tree.2.lines >>= λ start. events_of tree.1 start.number start.lines >>= λ events. Ok (record { confs = s.confs; tree = tree.0; events = events })) tree.1
    ∙ ap (λ r. r >>= λ start. events_of (0 + size) start.number start.lines >>= λ events. Ok (record { confs = s.confs; tree = s.tree; events = events })) (events_found tree.0 (event_lines s.events))
    ∙ ap (λ k. events_of k (tree.0 + 1) (event_lines s.events) >>= λ events. Ok (record { confs = s.confs; tree = s.tree; events = events })) none
    ∙ ap (λ r. r >>= λ events. Ok (record { confs = s.confs; tree = s.tree; events = events })) (events_read size (tree.0 + 1) s.events h.events h.size)
