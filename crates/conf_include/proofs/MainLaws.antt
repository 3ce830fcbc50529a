-- The main file.
use Rattle.std.proofs.Common.{◌≡◌, ℕ, true, List, [], ◌∷◌, length, get_or, Ok, Err, refl, ap, sym, ◌∙◌, arith}
use Rattle.file_tree.specs.Tree.{Trees, Tree}
use Rattle.conf_text.specs.declared.directive.Directive.{Directive}
use Rattle.conf_text.specs.declared.fault.ConfFault.{ConfFault}
use Rattle.conf_include.specs.declared.stop.Stop.{Stop}
use Rattle.conf_include.specs.Listings.{Names}
use Rattle.ngx_outside.specs.Seen.{FilesSeen}
use Rattle.conf_include.specs.Told.{Later, IsTold}
use Rattle.conf_include.specs.Expansion.{spot, Tally, tally, Expansion, ◌>>=◌, text_in, directives_in, most_deep, put_lines, open_main, put_main, located, expansion}
use Rattle.conf_include.specs.Steps.{StopsAs, onto}
use Rattle.conf_include.proofs.PutLaws.{deeper_none}
use Rattle.conf_include.proofs.AnswerLaws.{stop_bind, stop_same, stop_onto}

main_steps : (tree : Tree) (names : Names) (main : List ℕ) → put_main tree names main ≡ (open_main tree main >>= λ opened. put_lines tree names main 8 opened.0 opened.1)
unfolding put_main most_deep
main_steps tree names main = refl

-- the main file's text, where its path alone was read
text_same : (tree : Tree) (main : List ℕ) (ps : List (List ℕ)) (size : ℕ) → ps ≡ main ∷ [] → size ≡ 0 → text_in (tree main) (spot 0 1) main (tally (main ∷ []) 0) ≡ text_in (tree main) (spot 0 1) main (tally ps size)
text_same tree main ps size h k = rw (h, k) refl

stop_main : (tree : Tree) (names : Names) (main : List ℕ) (e : Stop) (lines : List Directive) (ps : List (List ℕ)) → StopsAs e (open_main tree main) ps → StopsAs e (onto lines 0 (put_main tree names main)) ps
stop_main tree names main e lines ps h =
    stop_onto e lines 0 (put_main tree names main) ps (stop_same e _ (put_main tree names main) ps (main_steps tree names main) (stop_bind e (open_main tree main) _ ps h))

open_stop : (tree : Tree) (main : List ℕ) (e : Stop) (ps : List (List ℕ)) → StopsAs e (text_in (tree main) (spot 0 1) main (tally (main ∷ []) 0)) ps → StopsAs e (open_main tree main) ps
unfolding open_main
open_stop tree main e ps h = stop_bind e (text_in (tree main) (spot 0 1) main (tally (main ∷ []) 0)) _ ps h

pub main_stop_text : (tree : Tree) (names : Names) (main : List ℕ) (e : Stop) (lines : List Directive) (ps : List (List ℕ)) (size : ℕ) → ps ≡ main ∷ [] → size ≡ 0
    → StopsAs e (text_in (tree main) (spot 0 1) main (tally ps size)) ps → StopsAs e (onto lines 0 (put_main tree names main)) ps
main_stop_text tree names main e lines ps size paths none h =
    stop_main tree names main e lines ps
    (open_stop tree main e ps (stop_same e (text_in (tree main) (spot 0 1) main (tally ps size)) _ ps (text_same tree main ps size paths none) h))

after_text : (tree : Tree) (main : List ℕ) (ps : List (List ℕ)) (size : ℕ) (bytes : List ℕ) → ps ≡ main ∷ [] → size ≡ 0 → text_in (tree main) (spot 0 1) main (tally ps size) ≡ Ok bytes
    → open_main tree main ≡ (directives_in 0 bytes ps >>= λ lines. Ok (lines, tally ps (length bytes)))
unfolding open_main
after_text tree main ps size bytes paths none h =
    ap (λ r. r >>= λ bytes. directives_in 0 bytes (main ∷ []) >>= λ lines. Ok (lines, tally (main ∷ []) (length bytes))) (text_same tree main ps size paths none ∙ h)
    ∙ ap (λ ps. directives_in 0 bytes ps >>= λ lines. Ok (lines, tally ps (length bytes))) (sym paths)

pub main_stop_lines : (tree : Tree) (names : Names) (main : List ℕ) (e : Stop) (lines : List Directive) (ps : List (List ℕ)) (size : ℕ) (bytes : List ℕ) → ps ≡ main ∷ [] → size ≡ 0
    → text_in (tree main) (spot 0 1) main (tally ps size) ≡ Ok bytes → StopsAs e (directives_in 0 bytes ps) ps → StopsAs e (onto lines 0 (put_main tree names main)) ps
main_stop_lines tree names main e lines ps size bytes paths none h k =
    stop_main tree names main e lines ps
    (stop_same e _ (open_main tree main) ps (after_text tree main ps size bytes paths none h) (stop_bind e (directives_in 0 bytes ps) _ ps k))

-- the main file was read, and its directives are put
pub main_opened : (tree : Tree) (names : Names) (main : List ℕ) (lines inner : List Directive) (ps : List (List ℕ)) (size now : ℕ) (bytes : List ℕ) → ps ≡ main ∷ [] → size ≡ 0 → now ≡ length bytes
    → text_in (tree main) (spot 0 1) main (tally ps size) ≡ Ok bytes → directives_in 0 bytes ps ≡ Ok inner
    → onto lines 0 (put_main tree names main) ≡ onto lines 0 (put_lines tree names main 8 inner (tally ps now))
main_opened tree names main lines inner ps size now bytes paths none is h k =
    ap (onto lines 0)
    (main_steps tree names main
    ∙ ap (λ r. r >>= λ opened. put_lines tree names main 8 opened.0 opened.1)
    (after_text tree main ps size bytes paths none h ∙ ap (λ r. r >>= λ lines. Ok (lines, tally ps (length bytes))) k)
    ∙ ap (λ n. put_lines tree names main 8 inner (tally ps n)) (sym is))

-- directives after none, in no block
onto_none : (o : Expansion) → onto [] 0 o ≡ o
onto_none (Ok x) = ap (λ l. Ok (l, x.1)) (deeper_none x.0)
onto_none (Err e) = refl

pub expansion_ok : (tree : Tree) (names : Names) (main : List ℕ) (before lines : List Directive) (t : Tally) → before ≡ [] → onto before 0 (put_main tree names main) ≡ Ok (lines, t) → expansion tree names main ≡ Ok (lines, t.paths)
unfolding expansion
expansion_ok tree names main before lines t none h =
    ap located (sym (onto_none (put_main tree names main)) ∙ ap (λ l. onto l 0 (put_main tree names main)) (sym none) ∙ h)

pub expansion_err : (tree : Tree) (names : Names) (main : List ℕ) (before : List Directive) (fault : ConfFault) (paths : List (List ℕ)) (path : List ℕ) → before ≡ [] → path ≡ get_or paths fault.file [] → onto before 0 (put_main tree names main) ≡ Err (fault, paths) → expansion tree names main ≡ Err (fault, path)
unfolding expansion
expansion_err tree names main before fault paths path none is h =
    ap located (sym (onto_none (put_main tree names main)) ∙ ap (λ l. onto l 0 (put_main tree names main)) (sym none) ∙ h) ∙ ap (λ p. Err (fault, p)) (sym is)

-- the tree that is the newest all the while is told, where its number was asked for first
pub told_newest : (of : ℕ) (old mid new : FilesSeen) → of ≡ old.newest → mid.newest ≡ old.newest → mid.trees ≡ old.trees → mid.tells ≡ old.tells → Later mid new → old.tells ≡ true → new.newest ≡ old.newest → IsTold of (old.trees old.newest) new
told_newest of old mid new version number trees told later tells still = record {
  tells = later.tells ∙ told ∙ tells;
  newest = still ∙ sym version;
  same = λ path. later.same of (omega (arith, version, number)) path ∙ ap (λ (t : Trees). t of path) trees ∙ ap (λ n. old.trees n path) version;
}
