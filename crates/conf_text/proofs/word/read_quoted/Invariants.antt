use Rattle.std.proofs.Common.{◌-◌, length}
use Rattle.conf_text.specs.Words.{quoted, pieces}
use Rattle.conf_text.proofs.WordLaws.{Under}
use Rattle.conf_text.proofs.word.read_quoted.Given as goal

abbrev pub invariant-loop-first : goal.invariant-loop-first
invariant-loop-first l = Under (quoted l.quote 4096 l.fn.place.line (pieces l.fn.place.rest.now)) (quoted l.quote (4096 - length l.word) l.place.line (pieces l.place.rest.now)) l.word l.fn.place.line l.fn.place.rest.now l.place.line l.place.rest.now

abbrev pub decreases-loop-first : goal.decreases-loop-first
decreases-loop-first l = length l.place.rest.now
