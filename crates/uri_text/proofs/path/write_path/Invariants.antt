use Rattle.std.proofs.Common.{length}
use Rattle.uri_text.specs.Steps.{Leads}
use Rattle.uri_text.specs.Target.{path_of}
use Rattle.uri_text.proofs.path.write_path.Given as goal

abbrev pub invariant-bytes : goal.invariant-bytes
invariant-bytes l = Leads l.merge (path_of l.merge l.text) l.rest l.path l.start

abbrev pub decreases-bytes : goal.decreases-bytes
decreases-bytes l = length l.rest
