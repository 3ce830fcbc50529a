use Rattle.std.proofs.Common.{◌≡◌, ◌++◌, drop, map}
use Rattle.report_text.specs.Lines.{lines_text}
use Rattle.ngx_cli.proofs.RaceLines.{line_of}
use Rattle.ngx_cli.proofs.check.races_text.Given as goal

abbrev pub invariant-loop-race : goal.invariant-loop-race
invariant-loop-race l =
    l.out ++ lines_text (map (line_of l.files l.paths) (drop l.race-index l.races)) ≡ l.initial.out ++ lines_text (map (line_of l.files l.paths) l.races)
