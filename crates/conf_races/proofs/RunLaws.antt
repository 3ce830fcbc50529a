-- Directives that are given the numbers of their runs, one after another.
use Rattle.std.proofs.Common.{◌≡◌, ℕ, suc, ◌+◌, ◌<◌, ◌≤◌, true, false, cond, eqb, List, [], ◌∷◌, ◌++◌, get_or, take, drop, length, slice_set, refl, sym, ap, ◌∙◌, append_assoc, append-nil, arith}
use Rattle.std.proofs.lemmas.Bool.{eqb-true}
use Rattle.std.proofs.lemmas.List.{take_more_set, drop-set-lt, drop_more, drop_all, take_all}
use Rattle.conf_text.specs.declared.directive.Directive.{Directive}
use Rattle.conf_races.specs.Runs.{in_run, runs_behind, files_behind}

runs_next : (run last : ℕ) (d : Directive) (ds : List Directive) → runs_behind run last (d ∷ ds) ≡ cond (eqb d.file last) (in_run run d ∷ runs_behind run last ds) (in_run (suc run) d ∷ runs_behind (suc run) d.file ds)
unfolding runs_behind
runs_next run last d ds = refl

files_next : (last : ℕ) (d : Directive) (ds : List Directive) → files_behind last (d ∷ ds) ≡ cond (eqb d.file last) (files_behind last ds) (d.file ∷ files_behind d.file ds)
unfolding files_behind
files_next last d ds = refl

no_runs : (run last : ℕ) → runs_behind run last [] ≡ []
unfolding runs_behind
no_runs run last = refl

no_files : (last : ℕ) → files_behind last [] ≡ []
unfolding files_behind
no_files last = refl

-- the run of the first directive, and the runs after it
run_first : (run last : ℕ) (d : Directive) (ds : List Directive) → runs_behind run last (d ∷ ds) ≡ in_run (cond (eqb d.file last) run (suc run)) d ∷ runs_behind (cond (eqb d.file last) run (suc run)) d.file ds
run_first run last d ds =
    runs_next run last d ds
    ∙ elim (eqb d.file last) as (λ t. eqb d.file last ≡ t → cond t (in_run run d ∷ runs_behind run last ds) (in_run (suc run) d ∷ runs_behind (suc run) d.file ds) ≡ in_run (cond t run (suc run)) d ∷ runs_behind (cond t run (suc run)) d.file ds) [
      | true ↦ λ e. ap (λ f. in_run run d ∷ runs_behind run f ds) (sym (eqb-true d.file last e))
      | false ↦ λ e. refl
    ] refl

file_first : (last : ℕ) (d : Directive) (ds : List Directive) → files_behind last (d ∷ ds) ≡ cond (eqb d.file last) [] (d.file ∷ []) ++ files_behind d.file ds
file_first last d ds =
    files_next last d ds
    ∙ elim (eqb d.file last) as (λ t. eqb d.file last ≡ t → cond t (files_behind last ds) (d.file ∷ files_behind d.file ds) ≡ cond t [] (d.file ∷ []) ++ files_behind d.file ds) [
      | true ↦ λ e. ap (λ f. files_behind f ds) (sym (eqb-true d.file last e))
      | false ↦ λ e. refl
    ] refl

module _ (now : List Directive) (i : ℕ) (d : Directive) (inside : i < length now) (at : d ≡ get_or now i d) where
  rest : drop i now ≡ d ∷ drop (i + 1) now
  rest = drop_more now i d inside ∙ ap (λ x. x ∷ drop (i + 1) now) (sym at)

  pub behind : (x : Directive) → drop (i + 1) (slice_set now i x) ≡ drop (i + 1) now
  behind x = drop-set-lt (i + 1) now i x (omega arith)

  pub runs_more : (run last r file : ℕ) (whole : List Directive) → file ≡ d.file → r ≡ cond (eqb file last) run (suc run) → take i now ++ runs_behind run last (drop i now) ≡ whole
      → take (i + 1) (slice_set now i (in_run r d)) ++ runs_behind r file (drop (i + 1) (slice_set now i (in_run r d))) ≡ whole
  runs_more run last r file whole f n w =
      ap (λ l. l ++ runs_behind r file (drop (i + 1) (slice_set now i (in_run r d)))) (take_more_set now i (in_run r d) inside)
      ∙ append_assoc (take i now) (in_run r d ∷ []) (runs_behind r file (drop (i + 1) (slice_set now i (in_run r d))))
      ∙ ap (λ l. take i now ++ in_run r d ∷ runs_behind r file l) (behind (in_run r d))
      ∙ ap (λ g. take i now ++ in_run r d ∷ runs_behind r g (drop (i + 1) now)) f
      ∙ ap (λ r. take i now ++ in_run r d ∷ runs_behind r d.file (drop (i + 1) now)) (n ∙ ap (λ g. cond (eqb g last) run (suc run)) f)
      ∙ ap (λ l. take i now ++ l) (sym (run_first run last d (drop (i + 1) now)))
      ∙ ap (λ l. take i now ++ runs_behind run last l) (sym rest)
      ∙ w

  pub files_more : (last file : ℕ) (x : Directive) (old new whole : List ℕ) → file ≡ d.file → new ≡ old ++ cond (eqb file last) [] (file ∷ []) → old ++ files_behind last (drop i now) ≡ whole
      → new ++ files_behind file (drop (i + 1) (slice_set now i x)) ≡ whole
  files_more last file x old new whole f n w =
      ap (λ l. new ++ files_behind file l) (behind x)
      ∙ ap (λ l. l ++ files_behind file (drop (i + 1) now)) n
      ∙ append_assoc old (cond (eqb file last) [] (file ∷ [])) (files_behind file (drop (i + 1) now))
      ∙ ap (λ g. old ++ (cond (eqb g last) [] (g ∷ []) ++ files_behind g (drop (i + 1) now))) f
      ∙ ap (λ l. old ++ l) (sym (file_first last d (drop (i + 1) now)))
      ∙ ap (λ l. old ++ files_behind last l) (sym rest)
      ∙ w

module _ (now : List Directive) (i : ℕ) (over : length now ≤ i) where
  pub runs_over : (run last : ℕ) (whole : List Directive) → take i now ++ runs_behind run last (drop i now) ≡ whole → now ≡ whole
  runs_over run last whole w =
      sym (append-nil now)
      ∙ ap (λ l. now ++ l) (sym (ap (runs_behind run last) (drop_all i now over) ∙ no_runs run last))
      ∙ ap (λ l. l ++ runs_behind run last (drop i now)) (sym (take_all i now over))
      ∙ w

  pub files_over : (last : ℕ) (files whole : List ℕ) → files ++ files_behind last (drop i now) ≡ whole → files ≡ whole
  files_over last files whole w =
      sym (append-nil files) ∙ ap (λ l. files ++ l) (sym (ap (files_behind last) (drop_all i now over) ∙ no_files last)) ∙ w
