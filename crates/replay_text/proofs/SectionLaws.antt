-- The sections of a script, a line at a time, as loops read them.
use Rattle.std.proofs.Common.{◌≡◌, ℕ, suc, ◌+◌, ◌<◌, ◌≤◌, Bool, true, false, cond, List, [], ◌∷◌, ◌++◌, length, Option, Some, None, Result, Ok, Err, refl, sym, ap, ◌∙◌, append_assoc, append-nil, arith, subst}
use Rattle.replay_words.specs.declared.faults.FaultKind.TheVariants.{Section}
use Rattle.replay_words.specs.declared.faults.LineError.TheVariants as lines
use Rattle.replay_text.specs.declared.faults.ScriptFault.{ScriptFault}
use Rattle.replay_text.specs.declared.faults.ScriptError.{ScriptError}
use Rattle.replay_text.specs.declared.faults.ScriptError.TheVariants as script
use Rattle.replay_text.specs.declared.parts.Conf.{Conf}
use Rattle.replay_text.specs.declared.parts.TreeLine.{TreeLine}
use Rattle.replay_text.specs.declared.parts.EventLine.{EventLine}
use Rattle.replay_words.specs.Faults.{◌>>=◌}
use Rattle.replay_text.specs.Faults.{Fails, fault, at_line, script_error}
use Rattle.replay_words.specs.Words.{is_dot}
use Rattle.replay_text.specs.Grammar.{ReadTo, place, is_passed, head_of, raw_text, confs_of, behind_dot, line_in_tree, tree_of, events_head, behind_events, line_in_events, events_of}
use Rattle.replay_text.specs.Steps.{raw_at, with_raw, with_tree, with_events}

-- what every loop knows of its lines

pub fails_at : {Y : Type 0} (e : ScriptError) (k n : ℕ) (total : Result Y ScriptFault) → e ≡ script_error k (lines.Fault Section) → k ≡ n → total ≡ Err (fault n Section) → Fails e total
fails_at e k n total is at h = subst (λ x. Fails x total) (sym (is ∙ ap (λ k. script_error k (lines.Fault Section)) at)) h

pub fewer_lines : (all rest : List (List ℕ)) (line : List ℕ) → all ≡ line ∷ rest → length rest < length all
fewer_lines all rest line h = subst (λ ls. length rest < length ls) (sym h) (omega arith)

same_place : (n : ℕ) (p : ReadTo) → p.number ≡ n → place n p.lines ≡ p
same_place n p h = λ i. record { number = sym h i; lines = p.lines }

-- raw lines

pub raw_begin : (text : List ℕ) (r : Result (List ℕ × ReadTo) ScriptFault) → text ≡ [] → with_raw text r ≡ r
raw_begin text (Ok x) h = ap (λ front. Ok (front ++ x.0, x.1)) h
raw_begin text (Err f) h = refl

pub raw_end : (n : ℕ) (front : List ℕ) (all : List (List ℕ)) (total : Result (List ℕ × ReadTo) ScriptFault) → all ≡ [] → with_raw front (raw_at n all) ≡ total → total ≡ Err (fault n Section)
unfolding raw_at
raw_end n front all total h so_far = sym so_far ∙ ap (λ ls. with_raw front (raw_at n ls)) h

pub raw_dot : (n : ℕ) (front line : List ℕ) (all : List (List ℕ)) (p : ReadTo) (total : Result (List ℕ × ReadTo) ScriptFault) → all ≡ line ∷ p.lines → p.number ≡ n + 1 → is_dot line ≡ true
    → with_raw front (raw_at n all) ≡ total → total ≡ Ok (front, p)
unfolding raw_at
raw_dot n front line all p total h at dot so_far =
    sym so_far ∙ ap (λ ls. with_raw front (raw_at n ls)) h
    ∙ ap (λ t. with_raw front (cond t (Ok ([], place (n + 1) p.lines)) (raw_at (n + 1) p.lines >>= λ x. Ok (line ++ 10 ∷ x.0, x.1)))) dot
    ∙ (λ i. Ok (append-nil front i, same_place (n + 1) p at i))

raw_regroup : (front line : List ℕ) (r : Result (List ℕ × ReadTo) ScriptFault) → with_raw front (r >>= λ x. Ok (line ++ 10 ∷ x.0, x.1)) ≡ with_raw ((front ++ line) ++ 10 ∷ []) r
raw_regroup front line (Ok x) = ap (λ bs. Ok (bs, x.1)) (simp append_assoc)
raw_regroup front line (Err f) = refl

pub raw_more : (n m : ℕ) (front line now : List ℕ) (all rest : List (List ℕ)) (total : Result (List ℕ × ReadTo) ScriptFault) → all ≡ line ∷ rest → m ≡ n + 1 → is_dot line ≡ false → now ≡ (front ++ line) ++ 10 ∷ []
    → with_raw front (raw_at n all) ≡ total → with_raw now (raw_at m rest) ≡ total
unfolding raw_at
raw_more n m front line now all rest total h at dot is so_far =
    (λ i. with_raw (is i) (raw_at (at i) rest)) ∙ sym (raw_regroup front line (raw_at (n + 1) rest))
    ∙ ap (λ t. with_raw front (cond t (Ok ([], place (n + 1) rest)) (raw_at (n + 1) rest >>= λ x. Ok (line ++ 10 ∷ x.0, x.1)))) (sym dot)
    ∙ ap (λ ls. with_raw front (raw_at n ls)) (sym h) ∙ so_far

-- what raw lines are to the configurations
RawGives : List Conf → Result (List Conf × ReadTo) ScriptFault → List ℕ → Result (List ℕ × ReadTo) ScriptFault → Type 0
RawGives before read text (Ok x) = (text ≡ x.0) × (read ≡ confs_of before x.1.number x.1.lines)
RawGives before read text (Err f) = read ≡ Err f

raw_gives_more : (before : List Conf) (read : Result (List Conf × ReadTo) ScriptFault) (line text : List ℕ) (r : Result (List ℕ × ReadTo) ScriptFault) → RawGives before read text r → RawGives before read (line ++ 10 ∷ text) (r >>= λ x. Ok (line ++ 10 ∷ x.0, x.1))
unfolding RawGives
raw_gives_more before read line text (Ok x) h = (ap (λ bs. line ++ 10 ∷ bs) h.0, h.1)
raw_gives_more before read line text (Err f) h = h

raw_gives_line : (before : List Conf) (n : ℕ) (line : List ℕ) (rest : List (List ℕ)) (t : Bool) → RawGives before (behind_dot before (n + 1) rest) (raw_text rest) (raw_at (n + 1) rest)
    → RawGives before (cond t (confs_of before (n + 1) rest) (behind_dot before (n + 1) rest)) (cond t [] (line ++ 10 ∷ raw_text rest)) (cond t (Ok ([], place (n + 1) rest)) (raw_at (n + 1) rest >>= λ x. Ok (line ++ 10 ∷ x.0, x.1)))
unfolding RawGives
raw_gives_line before n line rest true h = (refl, refl)
raw_gives_line before n line rest false h = raw_gives_more before (behind_dot before (n + 1) rest) line (raw_text rest) (raw_at (n + 1) rest) h

raw_gives : (before : List Conf) (n : ℕ) (all : List (List ℕ)) → RawGives before (behind_dot before n all) (raw_text all) (raw_at n all)
unfolding RawGives raw_at raw_text behind_dot
raw_gives before n [] = refl
raw_gives before n (line ∷ rest) = raw_gives_line before n line rest (is_dot line) (raw_gives before (n + 1) rest)

-- the configurations

pub confs_end : (n : ℕ) (before : List Conf) (all : List (List ℕ)) (total : Result (List Conf × ReadTo) ScriptFault) → all ≡ [] → confs_of before n all ≡ total → total ≡ Err (fault n Section)
unfolding confs_of
confs_end n before all total h so_far = sym so_far ∙ ap (confs_of before n) h

pub confs_passed : (n m : ℕ) (before : List Conf) (line : List ℕ) (all rest : List (List ℕ)) (total : Result (List Conf × ReadTo) ScriptFault) → all ≡ line ∷ rest → m ≡ n + 1 → is_passed line ≡ true
    → confs_of before n all ≡ total → confs_of before m rest ≡ total
unfolding confs_of
confs_passed n m before line all rest total h at passed so_far =
    let step : confs_of before n (line ∷ rest) ≡ confs_of before (n + 1) rest = rw passed refl in
    ap (λ k. confs_of before k rest) at ∙ sym step ∙ ap (confs_of before n) (sym h) ∙ so_far

-- what a line that isn't passed over gives
unfoldable pub heads : ℕ → List Conf → List (List ℕ) → Result (Option (List ℕ)) ScriptFault → Result (List Conf × ReadTo) ScriptFault
heads n before rest (Ok None) = Ok (before, place (n + 1) rest)
heads n before rest (Ok (Some path)) = behind_dot (before ++ record { path = path; bytes = raw_text rest } ∷ []) (n + 1) rest
heads n before rest (Err f) = Err f

pub heads_by : (n : ℕ) (before : List Conf) (rest : List (List ℕ)) (r : Result (Option (List ℕ)) ScriptFault) → (r >>= elim [
  | None ↦ Ok (before, place (n + 1) rest)
  | Some path ↦ behind_dot (before ++ record { path = path; bytes = raw_text rest } ∷ []) (n + 1) rest
]) ≡ heads n before rest r
unfolding heads
heads_by n before rest (Ok None) = refl
heads_by n before rest (Ok (Some path)) = refl
heads_by n before rest (Err f) = refl

pub confs_line : (n : ℕ) (before : List Conf) (line : List ℕ) (rest : List (List ℕ)) → is_passed line ≡ false → confs_of before n (line ∷ rest) ≡ heads n before rest (at_line n (head_of before line))
unfolding confs_of
confs_line n before line rest passed = rw passed (heads_by n before rest (at_line n (head_of before line)))

pub confs_fail : (e : ScriptError) (k n : ℕ) (before : List Conf) (line : List ℕ) (all rest : List (List ℕ)) (total : Result (List Conf × ReadTo) ScriptFault) → all ≡ line ∷ rest → is_passed line ≡ false → k ≡ n
    → Fails e (at_line k (head_of before line)) → confs_of before n all ≡ total → Fails e total
unfolding heads
confs_fail script.OutOfMemory k n before line all rest total h passed at wrong so_far = tt
confs_fail (script.Fault f) k n before line all rest total h passed at wrong so_far =
    sym so_far ∙ ap (confs_of before n) h ∙ confs_line n before line rest passed ∙ ap (λ j. heads n before rest (at_line j (head_of before line))) (sym at) ∙ ap (heads n before rest) wrong

pub confs_tree : (k n : ℕ) (before : List Conf) (line : List ℕ) (all : List (List ℕ)) (p : ReadTo) (total : Result (List Conf × ReadTo) ScriptFault) → all ≡ line ∷ p.lines → p.number ≡ n + 1 → is_passed line ≡ false → k ≡ n
    → at_line k (head_of before line) ≡ Ok None → confs_of before n all ≡ total → total ≡ Ok (before, p)
unfolding heads
confs_tree k n before line all p total h next passed at none so_far =
    sym so_far ∙ ap (confs_of before n) h ∙ confs_line n before line p.lines passed ∙ ap (λ j. heads n before p.lines (at_line j (head_of before line))) (sym at) ∙ ap (heads n before p.lines) none
    ∙ (λ i. Ok (before, same_place (n + 1) p next i))

confs_conf : (k n : ℕ) (before : List Conf) (line path : List ℕ) (all rest : List (List ℕ)) (total : Result (List Conf × ReadTo) ScriptFault) → all ≡ line ∷ rest → is_passed line ≡ false → k ≡ n
    → at_line k (head_of before line) ≡ Ok (Some path) → confs_of before n all ≡ total → behind_dot (before ++ record { path = path; bytes = raw_text rest } ∷ []) (n + 1) rest ≡ total
unfolding heads
confs_conf k n before line path all rest total h passed at some so_far =
    sym (confs_line n before line rest passed ∙ ap (λ j. heads n before rest (at_line j (head_of before line))) (sym at) ∙ ap (heads n before rest) some) ∙ ap (confs_of before n) (sym h) ∙ so_far

raw_ok : (before : List Conf) (read : Result (List Conf × ReadTo) ScriptFault) (text bytes : List ℕ) (p : ReadTo) (r : Result (List ℕ × ReadTo) ScriptFault) → r ≡ Ok (bytes, p) → RawGives before read text r → (text ≡ bytes) × (read ≡ confs_of before p.number p.lines)
unfolding RawGives
raw_ok before read text bytes p r e h = subst (RawGives before read text) e h

raw_err : (before : List Conf) (read : Result (List Conf × ReadTo) ScriptFault) (text : List ℕ) (f : ScriptFault) (r : Result (List ℕ × ReadTo) ScriptFault) → r ≡ Err f → RawGives before read text r → read ≡ Err f
unfolding RawGives
raw_err before read text f r e h = subst (RawGives before read text) e h

pub confs_raw_fail : (e : ScriptError) (k n m : ℕ) (before : List Conf) (line path : List ℕ) (all rest : List (List ℕ)) (total : Result (List Conf × ReadTo) ScriptFault) → all ≡ line ∷ rest → m ≡ n + 1 → is_passed line ≡ false → k ≡ n
    → at_line k (head_of before line) ≡ Ok (Some path) → Fails e (raw_at m rest) → confs_of before n all ≡ total → Fails e total
confs_raw_fail script.OutOfMemory k n m before line path all rest total h next passed at some wrong so_far = tt
confs_raw_fail (script.Fault f) k n m before line path all rest total h next passed at some wrong so_far =
    let with_conf = before ++ record { path = path; bytes = raw_text rest } ∷ [] in
    sym (confs_conf k n before line path all rest total h passed at some so_far)
    ∙ raw_err with_conf (behind_dot with_conf (n + 1) rest) (raw_text rest) f (raw_at (n + 1) rest) (ap (λ j. raw_at j rest) (sym next) ∙ wrong) (raw_gives with_conf (n + 1) rest)

pub confs_more : (k n m : ℕ) (before now : List Conf) (line path bytes : List ℕ) (all rest : List (List ℕ)) (p : ReadTo) (total : Result (List Conf × ReadTo) ScriptFault) → all ≡ line ∷ rest → m ≡ n + 1 → is_passed line ≡ false → k ≡ n
    → at_line k (head_of before line) ≡ Ok (Some path) → raw_at m rest ≡ Ok (bytes, p) → now ≡ before ++ record { path = path; bytes = bytes } ∷ []
    → confs_of before n all ≡ total → confs_of now p.number p.lines ≡ total
confs_more k n m before now line path bytes all rest p total h next passed at some raw is so_far =
    let with_conf = before ++ record { path = path; bytes = raw_text rest } ∷ [] in
    let given = raw_ok with_conf (behind_dot with_conf (n + 1) rest) (raw_text rest) bytes p (raw_at (n + 1) rest) (ap (λ j. raw_at j rest) (sym next) ∙ raw) (raw_gives with_conf (n + 1) rest) in
    let same : now ≡ with_conf = is ∙ ap (λ bs. before ++ record { path = path; bytes = bs } ∷ []) (sym given.0) in
    ap (λ cs. confs_of cs p.number p.lines) same ∙ sym given.1 ∙ confs_conf k n before line path all rest total h passed at some so_far

-- the tree

pub tree_begin : (front : List TreeLine) (r : Result (List TreeLine × ℕ × ReadTo) ScriptFault) → front ≡ [] → with_tree front r ≡ r
tree_begin front (Ok x) h = ap (λ fs. Ok (fs ++ x.0, x.1, x.2)) h
tree_begin front (Err f) h = refl

pub tree_end : (used n : ℕ) (front : List TreeLine) (all : List (List ℕ)) (total : Result (List TreeLine × ℕ × ReadTo) ScriptFault) → all ≡ [] → with_tree front (tree_of used n all) ≡ total → total ≡ Err (fault n Section)
unfolding tree_of
tree_end used n front all total h so_far = sym so_far ∙ ap (λ ls. with_tree front (tree_of used n ls)) h

pub tree_passed : (used n m : ℕ) (front : List TreeLine) (line : List ℕ) (all rest : List (List ℕ)) (total : Result (List TreeLine × ℕ × ReadTo) ScriptFault) → all ≡ line ∷ rest → m ≡ n + 1 → is_passed line ≡ true
    → with_tree front (tree_of used n all) ≡ total → with_tree front (tree_of used m rest) ≡ total
unfolding tree_of
tree_passed used n m front line all rest total h at passed so_far =
    let step : tree_of used n (line ∷ rest) ≡ tree_of used (n + 1) rest = rw passed refl in
    ap (λ k. with_tree front (tree_of used k rest)) at ∙ ap (with_tree front) (sym step) ∙ ap (λ ls. with_tree front (tree_of used n ls)) (sym h) ∙ so_far

pub tree_dot : (used n : ℕ) (front : List TreeLine) (line : List ℕ) (all : List (List ℕ)) (p : ReadTo) (total : Result (List TreeLine × ℕ × ReadTo) ScriptFault) → all ≡ line ∷ p.lines → p.number ≡ n + 1 → is_passed line ≡ false → is_dot line ≡ true
    → with_tree front (tree_of used n all) ≡ total → total ≡ Ok (front, used, p)
unfolding tree_of
tree_dot used n front line all p total h next passed dot so_far =
    let step : tree_of used n (line ∷ p.lines) ≡ Ok ([], used, place (n + 1) p.lines) = rw (passed, dot) refl in
    sym so_far ∙ ap (λ ls. with_tree front (tree_of used n ls)) h ∙ ap (with_tree front) step ∙ (λ i. Ok (append-nil front i, used, same_place (n + 1) p next i))

pub tree_line_step : (used n : ℕ) (line : List ℕ) (rest : List (List ℕ)) → is_passed line ≡ false → is_dot line ≡ false
    → tree_of used n (line ∷ rest) ≡ (at_line n (line_in_tree used line) >>= λ one. tree_of one.1 (n + 1) rest >>= λ others. Ok (one.0 ∷ others.0, others.1, others.2))
unfolding tree_of
tree_line_step used n line rest passed dot = rw (passed, dot) refl

pub tree_fail : (e : ScriptError) (k used n : ℕ) (front : List TreeLine) (line : List ℕ) (all rest : List (List ℕ)) (total : Result (List TreeLine × ℕ × ReadTo) ScriptFault) → all ≡ line ∷ rest → is_passed line ≡ false → is_dot line ≡ false → k ≡ n
    → Fails e (at_line k (line_in_tree used line)) → with_tree front (tree_of used n all) ≡ total → Fails e total
tree_fail script.OutOfMemory k used n front line all rest total h passed dot at wrong so_far = tt
tree_fail (script.Fault f) k used n front line all rest total h passed dot at wrong so_far =
    let read : at_line n (line_in_tree used line) ≡ Err f = ap (λ j. at_line j (line_in_tree used line)) (sym at) ∙ wrong in
    sym so_far ∙ ap (λ ls. with_tree front (tree_of used n ls)) h
    ∙ ap (with_tree front) (tree_line_step used n line rest passed dot ∙ ap (λ r. r >>= λ one. tree_of one.1 (n + 1) rest >>= λ others. Ok (one.0 ∷ others.0, others.1, others.2)) read)

tree_regroup : (front : List TreeLine) (one : TreeLine) (r : Result (List TreeLine × ℕ × ReadTo) ScriptFault) → with_tree front (r >>= λ others. Ok (one ∷ others.0, others.1, others.2)) ≡ with_tree (front ++ one ∷ []) r
tree_regroup front one (Ok x) = ap (λ ls. Ok (ls, x.1, x.2)) (sym (append_assoc front (one ∷ []) x.0))
tree_regroup front one (Err f) = refl

pub tree_more : (k used after n m : ℕ) (front now : List TreeLine) (one : TreeLine) (line : List ℕ) (all rest : List (List ℕ)) (total : Result (List TreeLine × ℕ × ReadTo) ScriptFault) → all ≡ line ∷ rest → m ≡ n + 1 → is_passed line ≡ false → is_dot line ≡ false → k ≡ n
    → at_line k (line_in_tree used line) ≡ Ok (one, after) → now ≡ front ++ one ∷ [] → with_tree front (tree_of used n all) ≡ total → with_tree now (tree_of after m rest) ≡ total
tree_more k used after n m front now one line all rest total h next passed dot at right is so_far =
    let read : at_line n (line_in_tree used line) ≡ Ok (one, after) = ap (λ j. at_line j (line_in_tree used line)) (sym at) ∙ right in
    (λ i. with_tree (is i) (tree_of after (next i) rest)) ∙ sym (tree_regroup front one (tree_of after (n + 1) rest))
    ∙ ap (with_tree front) (sym (tree_line_step used n line rest passed dot ∙ ap (λ r. r >>= λ one. tree_of one.1 (n + 1) rest >>= λ others. Ok (one.0 ∷ others.0, others.1, others.2)) read))
    ∙ ap (λ ls. with_tree front (tree_of used n ls)) (sym h) ∙ so_far

-- the line `events`

pub head_end : (n : ℕ) (all : List (List ℕ)) (total : Result ReadTo ScriptFault) → all ≡ [] → behind_events n all ≡ total → total ≡ Err (fault n Section)
unfolding behind_events
head_end n all total h so_far = sym so_far ∙ ap (behind_events n) h

pub head_passed : (n m : ℕ) (line : List ℕ) (all rest : List (List ℕ)) (total : Result ReadTo ScriptFault) → all ≡ line ∷ rest → m ≡ n + 1 → is_passed line ≡ true → behind_events n all ≡ total → behind_events m rest ≡ total
unfolding behind_events
head_passed n m line all rest total h at passed so_far =
    let step : behind_events n (line ∷ rest) ≡ behind_events (n + 1) rest = rw passed refl in
    ap (λ k. behind_events k rest) at ∙ sym step ∙ ap (behind_events n) (sym h) ∙ so_far

pub head_step : (n : ℕ) (line : List ℕ) (rest : List (List ℕ)) → is_passed line ≡ false → behind_events n (line ∷ rest) ≡ (at_line n (events_head line) >>= λ _. Ok (place (n + 1) rest))
unfolding behind_events
head_step n line rest passed = rw passed refl

pub head_fail : (e : ScriptError) (k n : ℕ) (line : List ℕ) (all rest : List (List ℕ)) (total : Result ReadTo ScriptFault) → all ≡ line ∷ rest → is_passed line ≡ false → k ≡ n → Fails e (at_line k (events_head line)) → behind_events n all ≡ total → Fails e total
head_fail script.OutOfMemory k n line all rest total h passed at wrong so_far = tt
head_fail (script.Fault f) k n line all rest total h passed at wrong so_far =
    let read : at_line n (events_head line) ≡ Err f = ap (λ j. at_line j (events_head line)) (sym at) ∙ wrong in
    sym so_far ∙ ap (behind_events n) h ∙ head_step n line rest passed ∙ ap (λ r. r >>= λ _. Ok (place (n + 1) rest)) read

pub head_found : (k n : ℕ) (x : Unit {0}) (line : List ℕ) (all : List (List ℕ)) (p : ReadTo) (total : Result ReadTo ScriptFault) → all ≡ line ∷ p.lines → p.number ≡ n + 1 → is_passed line ≡ false → k ≡ n → at_line k (events_head line) ≡ Ok x → behind_events n all ≡ total → total ≡ Ok p
head_found k n x line all p total h next passed at right so_far =
    let read : at_line n (events_head line) ≡ Ok x = ap (λ j. at_line j (events_head line)) (sym at) ∙ right in
    sym so_far ∙ ap (behind_events n) h ∙ head_step n line p.lines passed ∙ ap (λ r. r >>= λ _. Ok (place (n + 1) p.lines)) read ∙ ap Ok (same_place (n + 1) p next)

-- the events

pub events_begin : (front : List EventLine) (r : Result (List EventLine) ScriptFault) → front ≡ [] → with_events front r ≡ r
events_begin front (Ok x) h = ap (λ fs. Ok (fs ++ x)) h
events_begin front (Err f) h = refl

pub events_end : (used n : ℕ) (front : List EventLine) (all : List (List ℕ)) (total : Result (List EventLine) ScriptFault) → all ≡ [] → with_events front (events_of used n all) ≡ total → total ≡ Ok front
unfolding events_of
events_end used n front all total h so_far = sym so_far ∙ ap (λ ls. with_events front (events_of used n ls)) h ∙ ap Ok (append-nil front)

pub events_passed : (used n m : ℕ) (front : List EventLine) (line : List ℕ) (all rest : List (List ℕ)) (total : Result (List EventLine) ScriptFault) → all ≡ line ∷ rest → m ≡ n + 1 → is_passed line ≡ true
    → with_events front (events_of used n all) ≡ total → with_events front (events_of used m rest) ≡ total
unfolding events_of
events_passed used n m front line all rest total h at passed so_far =
    let step : events_of used n (line ∷ rest) ≡ events_of used (n + 1) rest = rw passed refl in
    ap (λ k. with_events front (events_of used k rest)) at ∙ ap (with_events front) (sym step) ∙ ap (λ ls. with_events front (events_of used n ls)) (sym h) ∙ so_far

pub events_step : (used n : ℕ) (line : List ℕ) (rest : List (List ℕ)) → is_passed line ≡ false → events_of used n (line ∷ rest) ≡ (at_line n (line_in_events used line) >>= λ one. events_of one.1 (n + 1) rest >>= λ others. Ok (one.0 ∷ others))
unfolding events_of
events_step used n line rest passed = rw passed refl

pub events_fail : (e : ScriptError) (k used n : ℕ) (front : List EventLine) (line : List ℕ) (all rest : List (List ℕ)) (total : Result (List EventLine) ScriptFault) → all ≡ line ∷ rest → is_passed line ≡ false → k ≡ n
    → Fails e (at_line k (line_in_events used line)) → with_events front (events_of used n all) ≡ total → Fails e total
events_fail script.OutOfMemory k used n front line all rest total h passed at wrong so_far = tt
events_fail (script.Fault f) k used n front line all rest total h passed at wrong so_far =
    let read : at_line n (line_in_events used line) ≡ Err f = ap (λ j. at_line j (line_in_events used line)) (sym at) ∙ wrong in
    sym so_far ∙ ap (λ ls. with_events front (events_of used n ls)) h
    ∙ ap (with_events front) (events_step used n line rest passed ∙ ap (λ r. r >>= λ one. events_of one.1 (n + 1) rest >>= λ others. Ok (one.0 ∷ others)) read)

events_regroup : (front : List EventLine) (one : EventLine) (r : Result (List EventLine) ScriptFault) → with_events front (r >>= λ others. Ok (one ∷ others)) ≡ with_events (front ++ one ∷ []) r
events_regroup front one (Ok x) = ap Ok (sym (append_assoc front (one ∷ []) x))
events_regroup front one (Err f) = refl

pub events_more : (k used after n m : ℕ) (front now : List EventLine) (one : EventLine) (line : List ℕ) (all rest : List (List ℕ)) (total : Result (List EventLine) ScriptFault) → all ≡ line ∷ rest → m ≡ n + 1 → is_passed line ≡ false → k ≡ n
    → at_line k (line_in_events used line) ≡ Ok (one, after) → now ≡ front ++ one ∷ [] → with_events front (events_of used n all) ≡ total → with_events now (events_of after m rest) ≡ total
events_more k used after n m front now one line all rest total h next passed at right is so_far =
    let read : at_line n (line_in_events used line) ≡ Ok (one, after) = ap (λ j. at_line j (line_in_events used line)) (sym at) ∙ right in
    (λ i. with_events (is i) (events_of after (next i) rest)) ∙ sym (events_regroup front one (events_of after (n + 1) rest))
    ∙ ap (with_events front) (sym (events_step used n line rest passed ∙ ap (λ r. r >>= λ one. events_of one.1 (n + 1) rest >>= λ others. Ok (one.0 ∷ others)) read))
    ∙ ap (λ ls. with_events front (events_of used n ls)) (sym h) ∙ so_far

-- after raw lines there are no more lines than from them on
NoMore : ℕ → Result (List ℕ × ReadTo) ScriptFault → Type 0
NoMore n (Ok x) = length x.1.lines ≤ n
NoMore n (Err f) = Unit {0}

no_more_by : (n : ℕ) (line : List ℕ) (r : Result (List ℕ × ReadTo) ScriptFault) → NoMore n r → NoMore (suc n) (r >>= λ x. Ok (line ++ 10 ∷ x.0, x.1))
unfolding NoMore
no_more_by n line (Ok x) h = omega arith
no_more_by n line (Err f) h = tt

no_more_line : (n k : ℕ) (line : List ℕ) (rest : List (List ℕ)) (t : Bool) (r : Result (List ℕ × ReadTo) ScriptFault) → k ≡ length rest → NoMore k r → NoMore (suc k) (cond t (Ok ([], place (n + 1) rest)) (r >>= λ x. Ok (line ++ 10 ∷ x.0, x.1)))
unfolding NoMore
no_more_line n k line rest true r e h = omega arith
no_more_line n k line rest false r e h = no_more_by k line r h

no_more : (n : ℕ) (all : List (List ℕ)) → NoMore (length all) (raw_at n all)
unfolding NoMore raw_at
no_more n [] = tt
no_more n (line ∷ rest) = no_more_line n (length rest) line rest (is_dot line) (raw_at (n + 1) rest) refl (no_more (n + 1) rest)

pub fewer_behind_raw : (m : ℕ) (all rest : List (List ℕ)) (line bytes : List ℕ) (p : ReadTo) → all ≡ line ∷ rest → raw_at m rest ≡ Ok (bytes, p) → length p.lines < length all
unfolding NoMore
fewer_behind_raw m all rest line bytes p h raw =
    let within : length p.lines ≤ length rest = subst (NoMore (length rest)) raw (no_more m rest) in
    omega (arith, fewer_lines all rest line h)
