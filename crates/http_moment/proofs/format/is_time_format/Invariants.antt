use Rattle.std.proofs.Common.{◌≡◌, length}
use Rattle.http_moment.specs.Shown.{is_format}
use Rattle.http_moment.proofs.format.is_time_format.Given as goal

abbrev pub invariant-loop-first : goal.invariant-loop-first
invariant-loop-first l = is_format l.rest ≡ is_format l.format

abbrev pub decreases-loop-first : goal.decreases-loop-first
decreases-loop-first l = length l.rest
