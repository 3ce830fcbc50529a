use Rattle.std.proofs.Common.{◌≡◌, ◌==◌, drop}
use Rattle.std.specs.List.{list_any}
use Rattle.error_pages.proofs.rule.names.Given as goal

abbrev pub invariant-loop-named : goal.invariant-loop-named
invariant-loop-named l = list_any (λ c. c == l.code) (drop l.named-index l.named-items) ≡ list_any (λ c. c == l.code) l.rule.codes.items
