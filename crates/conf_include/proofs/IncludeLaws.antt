-- A file and an include, by their steps.
use Rattle.std.proofs.Common.{◌≡◌, ℕ, zero, suc, ◌+◌, List, [], ◌∷◌, ◌++◌, Some, None, Ok, refl, ap, sym, ◌∙◌}
use Rattle.file_tree.specs.Tree.{Tree}
use Rattle.conf_text.specs.declared.directive.Directive.{Directive}
use Rattle.conf_include.specs.declared.stop.Stop.{Stop}
use Rattle.conf_include.specs.Listings.{Names}
use Rattle.conf_include.specs.Expansion.{Spot, spot, Tally, Expansion, ◌>>=◌, deepened, include_word, put_all, put_word, put_line, put_lines, open_file, put_file}
use Rattle.conf_include.specs.Steps.{StopsAs, one_less, onto}
use Rattle.conf_include.proofs.AnswerLaws.{stop_bind, stop_same, stop_onto}
use Rattle.conf_include.proofs.PutLaws.{onto_deeper}

-- a file: one include more encloses what it includes; it is opened, and its directives are put
file_steps : (tree : Tree) (names : Names) (main : List ℕ) (left : ℕ) (at : Spot) (path : List ℕ) (t : Tally)
    → put_file tree names main left at path t ≡ (one_less left at path t.paths >>= λ below. open_file tree at path t >>= λ opened. put_lines tree names main below opened.0 opened.1)
unfolding put_file
file_steps tree names main zero at path t = refl
file_steps tree names main (suc left) at path t = refl

pub file_stop_left : (tree : Tree) (names : Names) (main : List ℕ) (left : ℕ) (at : Spot) (path : List ℕ) (t : Tally) (e : Stop) (lines : List Directive) (depth : ℕ)
    → StopsAs e (one_less left at path t.paths) t.paths → StopsAs e (onto lines depth (put_file tree names main left at path t)) t.paths
file_stop_left tree names main left at path t e lines depth h =
    stop_onto e lines depth (put_file tree names main left at path t) t.paths
    (stop_same e _ (put_file tree names main left at path t) t.paths (file_steps tree names main left at path t) (stop_bind e (one_less left at path t.paths) _ t.paths h))

after_less : (tree : Tree) (names : Names) (main : List ℕ) (left below : ℕ) (at : Spot) (path : List ℕ) (t : Tally) → one_less left at path t.paths ≡ Ok below
    → put_file tree names main left at path t ≡ (open_file tree at path t >>= λ opened. put_lines tree names main below opened.0 opened.1)
after_less tree names main left below at path t h =
    file_steps tree names main left at path t ∙ ap (λ r. r >>= λ below. open_file tree at path t >>= λ opened. put_lines tree names main below opened.0 opened.1) h

pub file_stop_open : (tree : Tree) (names : Names) (main : List ℕ) (left below : ℕ) (at : Spot) (path : List ℕ) (t : Tally) (e : Stop) (lines : List Directive) (depth : ℕ) (ps : List (List ℕ))
    → one_less left at path t.paths ≡ Ok below → StopsAs e (open_file tree at path t) ps → StopsAs e (onto lines depth (put_file tree names main left at path t)) ps
file_stop_open tree names main left below at path t e lines depth ps h k =
    stop_onto e lines depth (put_file tree names main left at path t) ps
    (stop_same e _ (put_file tree names main left at path t) ps (after_less tree names main left below at path t h) (stop_bind e (open_file tree at path t) _ ps k))

-- an opened file, by its directives
pub file_opened : (tree : Tree) (names : Names) (main : List ℕ) (left below : ℕ) (at : Spot) (path : List ℕ) (t u : Tally) (inner : List Directive) (lines : List Directive) (depth : ℕ)
    → one_less left at path t.paths ≡ Ok below → open_file tree at path t ≡ Ok (inner, u)
    → onto lines depth (put_file tree names main left at path t) ≡ onto lines depth (put_lines tree names main below inner u)
file_opened tree names main left below at path t u inner lines depth h k =
    ap (onto lines depth) (after_less tree names main left below at path t h ∙ ap (λ r. r >>= λ opened. put_lines tree names main below opened.0 opened.1) k)

-- a directive that is no include
pub line_plain : (file : Spot → List ℕ → Tally → Expansion) (named : List ℕ → List (List ℕ)) (d : Directive) (t : Tally) (lines now : List Directive) (depth : ℕ)
    → include_word d ≡ None → now ≡ lines ++ deepened depth d ∷ [] → onto lines depth (put_line file named d t) ≡ Ok (now, t)
unfolding put_line
line_plain file named d t lines now depth h is =
    ap (λ w. onto lines depth (put_word file named d w t)) h ∙ sym (ap (λ l. Ok (l, t)) is)

-- an include, by the files in its place
pub line_include : (file : Spot → List ℕ → Tally → Expansion) (named : List ℕ → List (List ℕ)) (d : Directive) (word : List ℕ) (t : Tally) (lines : List Directive) (depth : ℕ)
    → include_word d ≡ Some word → onto lines depth (put_line file named d t) ≡ onto lines (depth + d.depth) (put_all (file (spot d.file d.line)) (named word) t)
unfolding put_line
line_include file named d word t lines depth h =
    ap (λ w. onto lines depth (put_word file named d w t)) h ∙ onto_deeper lines depth d.depth (put_all (file (spot d.file d.line)) (named word) t)
