-- The text of a file that is told.
use Rattle.std.proofs.Common.{◌≡◌, ℕ, ◌+◌, ◌≤◌, ◌<◌, Bool, true, false, cond, List, [], ◌∷◌, ◌++◌, length, drop, Result, Ok, Err, refl, ap, sym, subst, ◌∙◌, arith, le-leb}
use Rattle.std.proofs.lemmas.Bool.{cond-true, cond-false, lt-leb}
use Rattle.std.proofs.lemmas.List.{take_all}
use Rattle.file_tree.specs.declared.job.Node.TheVariants.{File, Folder, Locked, Missing}
use Rattle.file_tree.specs.Tree.{Tree, Item, AFile, AFolder, ALocked, Nothing, node_of, HoldsBytes}
use Rattle.conf_text.specs.declared.fault.FaultKind.TheVariants.{TooLarge}
use Rattle.conf_text.specs.declared.directive.Directive.{Directive}
use Rattle.conf_text.specs.Reading.{IsNested, depth_behind}
use Rattle.conf_include.specs.declared.stop.Stop.{Stop}
use Rattle.conf_include.specs.declared.stop.Stop.TheVariants as stop
use Rattle.conf_include.specs.Expansion.{Spot, Tally, tally, Faulty, ◌>>=◌, fault_about, most_bytes, text_in, directives_in, next_number, open_file}
use Rattle.conf_include.specs.Steps.{StopsAs, Answers, IsLenOf, AreBytesOf, AreShallow}
use Rattle.conf_include.proofs.AnswerLaws.{stop_bind, stop_same}

-- what is where a stat tells a file
pub file_node : (item : Item) (len date : ℕ) → File len date ≡ node_of item → (bytes : List ℕ) × (day : ℕ) × (item ≡ AFile bytes day) × (len ≡ length bytes)
file_node (AFile bytes day) len date is = (bytes, day, refl, same is)
  where
    same : File len date ≡ File (length bytes) day → len ≡ length bytes
    same h = cc
file_node AFolder len date is = absurd (no is)
  where
    no : File len date ≡ Folder → ⊥
    no h = cc
file_node ALocked len date is = absurd (no is)
  where
    no : File len date ≡ Locked → ⊥
    no h = cc
file_node Nothing len date is = absurd (no is)
  where
    no : File len date ≡ Missing → ⊥
    no h = cc

fits : (bytes : List ℕ) (day : ℕ) (at : Spot) (path : List ℕ) (t : Tally) → t.size + length bytes ≤ 1048576 → text_in (AFile bytes day) at path t ≡ Ok bytes
unfolding most_bytes
fits bytes day at path t h = cond-true _ _ _ (le-leb (t.size + length bytes) 1048576 h)

exceeds : (bytes : List ℕ) (day : ℕ) (at : Spot) (path : List ℕ) (t : Tally) → 1048576 < t.size + length bytes → text_in (AFile bytes day) at path t ≡ Err (fault_about TooLarge at path, t.paths)
unfolding most_bytes
exceeds bytes day at path t h = cond-false _ _ _ (lt-leb (t.size + length bytes) 1048576 h)

pub len_fits : (item : Item) (len date : ℕ) (at : Spot) (path : List ℕ) (t : Tally) → File len date ≡ node_of item → t.size + len ≤ 1048576 → IsLenOf item at path t (Ok len)
len_fits item len date at path t is h =
    let r = file_node item len date is in
    let within : t.size + length r.0 ≤ 1048576 = omega (arith, h, r.3) in
    (r.0, r.1, r.2, r.3, ap (λ i. text_in i at path t) r.2 ∙ fits r.0 r.1 at path t within)

pub len_exceeds : (item : Item) (len date : ℕ) (at : Spot) (path : List ℕ) (t : Tally) → File len date ≡ node_of item → 1048576 < t.size + len → text_in item at path t ≡ Err (fault_about TooLarge at path, t.paths)
len_exceeds item len date at path t is h =
    let r = file_node item len date is in
    let beyond : 1048576 < t.size + length r.0 = omega (arith, h, r.3) in
    ap (λ i. text_in i at path t) r.2 ∙ exceeds r.0 r.1 at path t beyond

-- the whole of a file
pub whole_text : (item : Item) (at : Spot) (path : List ℕ) (t : Tally) (len : ℕ) (r : Result (List ℕ) Stop) → IsLenOf item at path t (Ok len) → AreBytesOf item len r → Answers (λ x. x) r (text_in item at path t) t.paths
whole_text item at path t len (Ok text) is holds =
    let bytes = is.0 in
    let there = subst (λ i. HoldsBytes i 0 len text) is.2 holds in
    let all : text ≡ bytes = there.1 ∙ take_all len (drop 0 bytes) (omega (arith, is.3)) in
    is.4 ∙ ap Ok (sym all)
whole_text item at path t len (Err (stop.Fault fault)) is holds = absurd holds
whole_text item at path t len (Err (stop.Failed fault)) is holds = tt
whole_text item at path t len (Err stop.OutOfMemory) is holds = tt

-- depths of blocks within one text
shallow_by : (n : ℕ) (t : Bool) → cond t (n + 1) n ≤ 32 → n ≤ 32
shallow_by n true h = omega arith
shallow_by n false h = h

pub nested_shallow : (depth : ℕ) (lines : List Directive) → IsNested depth lines → AreShallow lines
nested_shallow depth [] h = tt
nested_shallow depth (d ∷ more) h = (shallow_by d.depth d.block h.1, nested_shallow (depth_behind d) more h.2)

-- a file that is opened

pub open_stop_number : (tree : Tree) (at : Spot) (path : List ℕ) (t : Tally) (e : Stop) → StopsAs e (next_number at path t.paths) t.paths → StopsAs e (open_file tree at path t) t.paths
unfolding open_file
open_stop_number tree at path t e h = stop_bind e (next_number at path t.paths) _ t.paths h

after_number : (tree : Tree) (at : Spot) (path : List ℕ) (t : Tally) (number : ℕ) → next_number at path t.paths ≡ Ok number
    → open_file tree at path t
    ≡ (text_in (tree path) at path t >>= λ bytes. directives_in number bytes (t.paths ++ path ∷ []) >>= λ lines. Ok (lines, tally (t.paths ++ path ∷ []) (t.size + length bytes)))
unfolding open_file
after_number tree at path t number h =
    ap (λ r. r >>= λ number. text_in (tree path) at path t >>= λ bytes. directives_in number bytes (t.paths ++ path ∷ []) >>= λ lines. Ok (lines, tally (t.paths ++ path ∷ []) (t.size + length bytes))) h

pub open_stop_text : (tree : Tree) (at : Spot) (path : List ℕ) (t : Tally) (number : ℕ) (e : Stop) → next_number at path t.paths ≡ Ok number → StopsAs e (text_in (tree path) at path t) t.paths → StopsAs e (open_file tree at path t) t.paths
open_stop_text tree at path t number e h k =
    stop_same e _ (open_file tree at path t) t.paths (after_number tree at path t number h) (stop_bind e (text_in (tree path) at path t) _ t.paths k)

abbrev pub with_tally : Tally → List Directive → List Directive × Tally
with_tally t l = (l, t)

opened_as : (lines : Result (List Directive) Stop) (o : Faulty (List Directive)) (t : Tally) (ps : List (List ℕ)) → Answers (λ l. l) lines o ps → Answers (with_tally t) lines (o >>= λ l. Ok (with_tally t l)) ps
opened_as (Ok l) o t ps h = ap (λ r. r >>= λ l. Ok (with_tally t l)) h
opened_as (Err e) o t ps h = stop_bind e o (λ l. Ok (with_tally t l)) ps h

pub open_lines : (tree : Tree) (at : Spot) (path : List ℕ) (t u : Tally) (number : ℕ) (bytes : List ℕ) (r : Result (List Directive) Stop) → next_number at path t.paths ≡ Ok number → text_in (tree path) at path t ≡ Ok bytes → u.paths ≡ t.paths ++ path ∷ [] → u.size ≡ t.size + length bytes → Answers (λ l. l) r (directives_in number bytes u.paths) u.paths → Answers (with_tally u) r (open_file tree at path t) u.paths
open_lines tree at path t u number bytes r h k paths size answers =
    let all : open_file tree at path t ≡ (directives_in number bytes u.paths >>= λ l. Ok (with_tally u l)) =
    after_number tree at path t number h
    ∙ ap (λ r. r >>= λ bytes. directives_in number bytes (t.paths ++ path ∷ []) >>= λ lines. Ok (lines, tally (t.paths ++ path ∷ []) (t.size + length bytes))) k
    ∙ ap (λ ps. directives_in number bytes ps >>= λ lines. Ok (lines, tally ps (t.size + length bytes))) (sym paths)
    ∙ ap (λ n. directives_in number bytes u.paths >>= λ lines. Ok (lines, tally u.paths n)) (sym size) in
    subst (λ o. Answers (with_tally u) r o u.paths) (sym all) (opened_as r (directives_in number bytes u.paths) u u.paths answers)
