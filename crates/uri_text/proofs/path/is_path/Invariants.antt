use Rattle.std.proofs.Common.{length, ◌+◌, ◌≤◌}
use Rattle.std.specs.Prelude.{is_ok}
use Rattle.uri_text.specs.Steps.{Counts}
use Rattle.uri_text.specs.Target.{path_of}
use Rattle.uri_text.proofs.path.is_path.Given as goal

abbrev pub invariant-bytes : goal.invariant-bytes
invariant-bytes l = Counts l.merge (is_ok (path_of l.merge l.text)) l.rest l.depth l.kind × (l.depth + length l.rest ≤ length l.text)

abbrev pub decreases-bytes : goal.decreases-bytes
decreases-bytes l = length l.rest
