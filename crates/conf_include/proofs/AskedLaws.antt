-- Where the files are asked: the directives of files that were read, and what their includes name.
use Rattle.std.proofs.Common.{◌≡◌, ℕ, zero, suc, ◌<◌, ◌≤◌, Bool, true, false, cond, List, [], ◌∷◌, ◌++◌, length, get_or, Some, Result, Ok, Err, refl, ap, sym, subst, ◌∙◌, arith, length-append, append-nil, append_assoc, Contains}
use Rattle.std.specs.List.{AllByRecursion}
use Rattle.std.proofs.lemmas.List.Elements.{All-contains, All-from_recursion}
use Rattle.file_tree.specs.Tree.{Tree, Item, AFile, AFolder, ALocked, Nothing}
use Rattle.conf_text.specs.declared.directive.Directive.{Directive}
use Rattle.conf_text.specs.declared.fault.ConfFault.{ConfFault}
use Rattle.conf_text.specs.declared.fault.FaultKind.TheVariants.{ReadFault}
use Rattle.conf_text.specs.Reading.{reading}
use Rattle.conf_include.specs.Paths.{path_of, is_mask}
use Rattle.conf_include.specs.Listings.{Names}
use Rattle.conf_include.specs.Expansion.{Spot, spot, Tally, Expansion, fault_about, include_word, named_by, with_paths, directives_in, text_in, open_file}
use Rattle.conf_include.specs.Asked.{IsIn, IsPart, TheMain, Included, IsInclude, IsAskedAt, ForMain, ForFile, ForFolder}
use Rattle.ngx_outside.specs.Seen.{FilesSeen}
use Rattle.conf_include.specs.declared.stop.Stop.{Stop}
use Rattle.conf_include.specs.declared.stop.Stop.TheVariants as stop
use Rattle.conf_include.specs.Told.{Later}
use Rattle.conf_include.specs.Steps.{OnFailed, FailsAbout, WhereTold, IsRead, IsNamed, IsLonger}
use Rattle.conf_include.proofs.ToldLaws.{told_before}
use Rattle.conf_include.proofs.WholeLaws.{path_before, reading_own, Opened, OpenedIf, open_if}

-- each of some, by those among them
pub all_by : {A : Type 0} (P : A → Type 0) (xs : List A) → ((x : A) → Contains xs x → P x) → AllByRecursion P xs
all_by P [] h = tt
all_by P (x ∷ xs) h = (h x (zero, omega arith, refl), all_by P xs (λ y c. h y (suc c.0, omega (arith, c.1), c.2)))

-- each, by another fact of each
pub all_map : {A : Type 0} (P Q : A → Type 0) (xs : List A) → ((x : A) → P x → Q x) → AllByRecursion P xs → AllByRecursion Q xs
all_map P Q [] h all = tt
all_map P Q (x ∷ xs) h all = (h x all.0, all_map P Q xs h all.1)

-- ---- more files

pub longer_same : (ps : List (List ℕ)) → IsLonger ps ps
longer_same ps = ([], sym (append-nil ps))

pub longer_then : (a b c : List (List ℕ)) → IsLonger a b → IsLonger b c → IsLonger a c
longer_then a b c h k = (h.0 ++ k.0, k.1 ∙ ap (λ l. l ++ k.0) h.1 ∙ append_assoc a h.0 k.0)

path_kept : (a b : List (List ℕ)) (n : ℕ) → IsLonger a b → n < length a → get_or a n [] ≡ get_or b n []
path_kept a b n h within = sym (ap (λ l. get_or l n []) h.1 ∙ path_before a h.0 n within)

pub read_longer : (tree : Tree) (names : Names) (main : List ℕ) (a b : List (List ℕ)) (d : Directive) → IsLonger a b → IsRead tree names main a d → IsRead tree names main b d
read_longer tree names main a b d h is =
    let kept = path_kept a b d.file h is.within in
    record {
      within = omega (arith, is.within, ap length h.1, length-append a h.0);
      part = subst (IsPart tree names main d.file) kept is.part;
      among = subst (λ (p : List ℕ). IsIn tree d.file p d) kept is.among;
    }

pub named_longer : (tree : Tree) (names : Names) (main : List ℕ) (a b : List (List ℕ)) (at : Spot) (path : List ℕ) → IsLonger a b → IsNamed tree names main a at path → IsNamed tree names main b at path
named_longer tree names main a b at path h is = record {
  line = is.line;
  word = is.word;
  read = read_longer tree names main a b is.line h is.read;
  says = is.says;
  stands = is.stands;
  named = is.named;
}

-- ---- what an include names

pub all_named : (tree : Tree) (names : Names) (main : List ℕ) (paths : List (List ℕ)) (d : Directive) (word : List ℕ) (named : List (List ℕ))
    → IsRead tree names main paths d → include_word d ≡ Some word → named ≡ named_by names main word → AllByRecursion (IsNamed tree names main paths (spot d.file d.line)) named
all_named tree names main paths d word named is says same =
    all_by (IsNamed tree names main paths (spot d.file d.line)) named
    (λ path c. record { line = d; word = word; read = is; says = says; stands = refl; named = subst (λ (l : List (List ℕ)). Contains l path) same c })

include_of : (tree : Tree) (names : Names) (main : List ℕ) (paths : List (List ℕ)) (d : Directive) (word : List ℕ) → IsRead tree names main paths d → include_word d ≡ Some word → IsInclude tree names main (get_or paths d.file []) d word
include_of tree names main paths d word is says = record { part = is.part; among = is.among; says = says }

-- a file that was asked for at its include
pub asked_file : (tree : Tree) (names : Names) (main : List ℕ) (paths now : List (List ℕ)) (at : Spot) (path : List ℕ) (fault : ConfFault)
    → IsNamed tree names main paths at path → now ≡ paths → fault ≡ fault_about ReadFault at path → IsAskedAt tree names main fault (get_or now fault.file [])
asked_file tree names main paths now at path fault is same about =
    let placed : fault ≡ fault_about ReadFault (spot is.line.file is.line.line) path = about ∙ ap (λ (s : Spot). fault_about ReadFault s path) is.stands in
    subst (IsAskedAt tree names main fault) (ap (λ l. get_or l is.line.file []) (sym same) ∙ ap (λ (f : ConfFault). get_or now f.file []) (sym placed))
    (ForFile is.line is.word path (include_of tree names main paths is.line is.word is.read is.says) is.named placed)

-- a folder whose names were asked for at a mask
pub asked_folder : (tree : Tree) (names : Names) (main : List ℕ) (paths : List (List ℕ)) (d : Directive) (word path : List ℕ) (fault : ConfFault)
    → IsRead tree names main paths d → include_word d ≡ Some word → path ≡ path_of main word → is_mask path ≡ true → fault ≡ fault_about ReadFault (spot d.file d.line) path
    → IsAskedAt tree names main fault (get_or paths fault.file [])
asked_folder tree names main paths d word path fault is says same mask about =
    subst (IsAskedAt tree names main fault) (ap (λ (f : ConfFault). get_or paths f.file []) (sym about))
    (ForFolder d word (include_of tree names main paths d word is says) (ap is_mask (sym same) ∙ mask) (about ∙ ap (λ (p : List ℕ). fault_about ReadFault (spot d.file d.line) p) same))

-- the main file
pub asked_main : (tree : Tree) (names : Names) (main : List ℕ) (paths : List (List ℕ)) (fault : ConfFault) → paths ≡ main ∷ [] → fault ≡ fault_about ReadFault (spot 0 1) main → IsAskedAt tree names main fault (get_or paths fault.file [])
asked_main tree names main paths fault all about = ForMain about (ap (λ (f : ConfFault). get_or paths f.file []) about ∙ ap (λ l. get_or l 0 []) all)

-- ---- the directives of a file that is opened

path_last : (ps : List (List ℕ)) (p : List ℕ) → get_or (ps ++ p ∷ []) (length ps) [] ≡ p
path_last [] p = refl
path_last (q ∷ ps) p = path_last ps p

own_number : (number : ℕ) (bytes : List ℕ) (own : List Directive) (d : Directive) → reading number bytes ≡ Ok own → Contains own d → d.file ≡ number
own_number number bytes own d read among = All-contains (λ (d : Directive). d.file ≡ number) own d (All-from_recursion (λ (d : Directive). d.file ≡ number) own (reading_own number bytes own read)) among

-- a directive of the file of this number and path
one_read : (tree : Tree) (names : Names) (main path : List ℕ) (paths : List (List ℕ)) (number : ℕ) (bytes : List ℕ) (date : ℕ) (own : List Directive) (d : Directive)
    → number < length paths → get_or paths number [] ≡ path → IsPart tree names main number path → tree path ≡ AFile bytes date → reading number bytes ≡ Ok own → Contains own d → IsRead tree names main paths d
one_read tree names main path paths number bytes date own d within at part there read among =
    let same : number ≡ d.file = sym (own_number number bytes own d read among) in
    let here : path ≡ get_or paths d.file [] = sym at ∙ ap (λ n. get_or paths n []) same in
    record {
      within = subst (λ n. n < length paths) same within;
      part = subst (λ (p : List ℕ). IsPart tree names main d.file p) here (subst (λ n. IsPart tree names main n path) same part);
      among = record { bytes = bytes; date = date; own = own; there = ap tree (sym here) ∙ there; read = subst (λ n. reading n bytes ≡ Ok own) same read; among = among };
    }

part_of : (tree : Tree) (names : Names) (main : List ℕ) (paths : List (List ℕ)) (at : Spot) (path : List ℕ) → IsNamed tree names main paths at path → IsPart tree names main (length paths) path
part_of tree names main paths at path is = Included is.line is.word is.read.part is.read.among is.says is.named is.read.within

pub opened_by : (tree : Tree) (path : List ℕ) (before : List (List ℕ)) (o : Expansion) (lines : List Directive) (u : Tally) → o ≡ Ok (lines, u) → OpenedIf tree path before o → Opened tree path before u lines
opened_by tree path before o lines u is h = subst (OpenedIf tree path before) is h

pub opened_read : (tree : Tree) (names : Names) (main : List ℕ) (at : Spot) (path : List ℕ) (t u : Tally) (lines : List Directive)
    → IsNamed tree names main t.paths at path → open_file tree at path t ≡ Ok (lines, u) → AllByRecursion (IsRead tree names main u.paths) lines
opened_read tree names main at path t u lines is h =
    let o = opened_by tree path t.paths (open_file tree at path t) lines u h (open_if tree at path t) in
    all_by (IsRead tree names main u.paths) lines
    (λ d among. one_read tree names main path u.paths (length t.paths) o.bytes o.date lines d
    (omega (arith, ap length o.paths, length-append t.paths (path ∷ []))) (ap (λ l. get_or l (length t.paths) []) o.paths ∙ path_last t.paths path)
    (part_of tree names main t.paths at path is) o.there o.read among)

-- ---- the main file's directives

text_fits : (bytes text : List ℕ) (e : ConfFault × List (List ℕ)) (fits : Bool) → cond fits (Ok bytes) (Err e) ≡ Ok text → bytes ≡ text
text_fits bytes text e true h = cc
text_fits bytes text e false h = cc

file_there : (item : Item) (at : Spot) (path : List ℕ) (t : Tally) (text : List ℕ) → text_in item at path t ≡ Ok text → (date : ℕ) × (item ≡ AFile text date)
file_there (AFile bytes date) at path t text h = (date, ap (λ (b : List ℕ). AFile b date) (text_fits bytes text _ _ h))
file_there AFolder at path t text h = cc
file_there ALocked at path t text h = cc
file_there Nothing at path t text h = cc

lines_read : (paths : List (List ℕ)) (r : Result (List Directive) ConfFault) (lines : List Directive) → with_paths paths r ≡ Ok lines → r ≡ Ok lines
lines_read paths (Ok own) lines h = cc
lines_read paths (Err f) lines h = cc

pub main_read : (tree : Tree) (names : Names) (main : List ℕ) (paths : List (List ℕ)) (t : Tally) (bytes : List ℕ) (lines : List Directive) → paths ≡ main ∷ []
    → text_in (tree main) (spot 0 1) main t ≡ Ok bytes → directives_in 0 bytes paths ≡ Ok lines → AllByRecursion (IsRead tree names main paths) lines
main_read tree names main paths t bytes lines all text read =
    let there = file_there (tree main) (spot 0 1) main t bytes text in
    all_by (IsRead tree names main paths) lines
    (λ d among. one_read tree names main main paths 0 bytes there.0 lines d
    (omega (arith, ap length all)) (ap (λ l. get_or l 0 []) all) TheMain there.1 (lines_read paths (reading 0 bytes) lines read) among)

-- ---- a call that failed

-- the fact for each tree that is told holds of the place of a file that couldn't be read
pub failed_file : (of : ℕ) (main : List ℕ) (old new : FilesSeen) (paths now : List (List ℕ)) (at : Spot) (path : List ℕ) (e : Stop)
    → Later old new → of ≤ old.newest → WhereTold of old (λ tree names. IsNamed tree names main paths at path)
    → OnFailed {X = Unit {0}} (Err e) (λ fault. now ≡ paths) → FailsAbout {X = Unit {0}} at path (Err e)
    → OnFailed {X = Unit {0}} (Err e) (λ fault. WhereTold of new (λ tree names. IsAskedAt tree names main fault (get_or now fault.file [])))
failed_file of main old new paths now at path (stop.Fault fault) later known named same about = tt
failed_file of main old new paths now at path (stop.Failed fault) later known named same about = λ tree names told naming.
    asked_file tree names main paths now at path fault (named tree names (told_before of tree old new later known told) naming) same about
failed_file of main old new paths now at path stop.OutOfMemory later known named same about = tt

-- and of a mask's folder that couldn't be listed
pub failed_folder : (of : ℕ) (main : List ℕ) (old new : FilesSeen) (paths : List (List ℕ)) (d : Directive) (word path : List ℕ) (e : Stop)
    → Later old new → of ≤ old.newest → WhereTold of old (λ tree names. IsRead tree names main paths d) → include_word d ≡ Some word → path ≡ path_of main word
    → OnFailed {X = Unit {0}} (Err e) (λ fault. is_mask path ≡ true) → FailsAbout {X = Unit {0}} (spot d.file d.line) path (Err e)
    → OnFailed {X = Unit {0}} (Err e) (λ fault. WhereTold of new (λ tree names. IsAskedAt tree names main fault (get_or paths fault.file [])))
failed_folder of main old new paths d word path (stop.Fault fault) later known read says same mask about = tt
failed_folder of main old new paths d word path (stop.Failed fault) later known read says same mask about = λ tree names told naming.
    asked_folder tree names main paths d word path fault (read tree names (told_before of tree old new later known told) naming) says same mask about
failed_folder of main old new paths d word path stop.OutOfMemory later known read says same mask about = tt
