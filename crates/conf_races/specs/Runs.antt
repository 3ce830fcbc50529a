-- Runs of directives of one file: by their numbers lines are in the order of the text, where files are included too.
use Rattle.std.specs.Prelude.{ℕ, suc, ◌==◌, List, [], ◌∷◌, slice_index_or, if◌then◌else◌}
use Rattle.conf_text.specs.declared.directive.Directive.{Directive}

-- a directive with the number of its run in place of its file's
abbrev pub in_run : (run : ℕ) → Directive → Directive
in_run run d = record d { file = run }

-- The directives after one of this run, which is of this file: one of another file begins the next run.
unfoldable pub runs_behind : (run file : ℕ) → List Directive → List Directive
runs_behind run file [] = []
runs_behind run file (d ∷ ds) = if d.file == file then in_run run d ∷ runs_behind run file ds
    else in_run (suc run) d ∷ runs_behind (suc run) d.file ds

-- the files of the runs that begin after a directive of this file
unfoldable pub files_behind : (file : ℕ) → List Directive → List ℕ
files_behind file [] = []
files_behind file (d ∷ ds) = if d.file == file then files_behind file ds
    else d.file ∷ files_behind d.file ds

-- Directives with the numbers of their runs, of which the first is of the main file.
abbrev pub in_runs : List Directive → List Directive
in_runs ds = runs_behind 0 0 ds

-- the files of the runs
abbrev pub run_files : List Directive → List ℕ
run_files ds = 0 ∷ files_behind 0 ds

-- the path of a run's file, by the paths of files
abbrev pub run_path : (paths : ℕ → List ℕ) → (files : List ℕ) → (run : ℕ) → List ℕ
run_path paths files run = paths (slice_index_or files run 0)
