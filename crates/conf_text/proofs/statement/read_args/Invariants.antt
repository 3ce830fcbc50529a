use Rattle.std.proofs.Common.{◌≡◌, length}
use Rattle.conf_text.proofs.StatementLaws.{Gathered}
use Rattle.conf_text.proofs.statement.read_args.Given as goal

abbrev pub invariant-loop-args : goal.invariant-loop-args
invariant-loop-args l = (l.name ≡ l.fn.name) × Gathered l.line l.fn.name l.args l.fn.place.line l.fn.place.rest.now l.place.line l.place.rest.now

abbrev pub decreases-loop-args : goal.decreases-loop-args
decreases-loop-args l = length l.place.rest.now
