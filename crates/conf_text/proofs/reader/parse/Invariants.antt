use Rattle.std.proofs.Common.{length}
use Rattle.conf_text.proofs.StepLaws.{Parsed}
use Rattle.conf_text.proofs.reader.parse.Given as goal

abbrev pub invariant-loop-lines : goal.invariant-loop-lines
invariant-loop-lines l = Parsed l.file l.bytes l.lines l.depth l.place.line l.place.rest.now

abbrev pub decreases-loop-lines : goal.decreases-loop-lines
decreases-loop-lines l = length l.place.rest.now
