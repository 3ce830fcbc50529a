use Rattle.std.proofs.Common.{◌≡◌, ◌++◌, take, drop, length}
use Rattle.conf_races.specs.Runs.{runs_behind, files_behind, in_runs, run_files}
use Rattle.conf_races.proofs.runs.number_runs.Given as goal

abbrev pub invariant-loop-at : goal.invariant-loop-at
invariant-loop-at l =
    (take l.at l.directives.items ++ runs_behind l.run l.last (drop l.at l.directives.items) ≡ in_runs l.fn.directives.items)
    × (l.files.items ++ files_behind l.last (drop l.at l.directives.items) ≡ run_files l.fn.directives.items)
    × (length l.directives.items ≡ l.at-end)
