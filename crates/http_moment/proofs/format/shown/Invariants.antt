use Rattle.std.proofs.Common.{◌≡◌, ◌++◌, length}
use Rattle.http_moment.specs.Shown.{is_format, shown_text}
use Rattle.http_moment.proofs.format.shown.Given as goal

abbrev pub invariant-loop-first : goal.invariant-loop-first
invariant-loop-first l = record {
  known : is_format l.rest ≡ is_format l.format;
  text : l.out ++ shown_text l.secs l.rest ≡ l.initial.out ++ shown_text l.secs l.format;
}

abbrev pub decreases-loop-first : goal.decreases-loop-first
decreases-loop-first l = length l.rest
