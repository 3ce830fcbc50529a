use Rattle.std.proofs.Common.{length}
use Rattle.conf_text.proofs.TokenLaws.{Skipped}
use Rattle.conf_text.proofs.token.read_token.Given as goal

abbrev pub invariant-loop-first : goal.invariant-loop-first
invariant-loop-first l = Skipped l.fn.place.line l.fn.place.rest.now l.place.line l.place.rest.now

abbrev pub decreases-loop-first : goal.decreases-loop-first
decreases-loop-first l = length l.place.rest.now
