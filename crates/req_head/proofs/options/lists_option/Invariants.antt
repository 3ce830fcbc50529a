use Rattle.std.proofs.Common.{◌≡◌, length}
use Rattle.req_head.specs.Options.{lists_option}
use Rattle.req_head.proofs.options.lists_option.Given as goal

abbrev pub invariant-loop-first : goal.invariant-loop-first
invariant-loop-first l = lists_option l.word l.rest ≡ lists_option l.word l.value

abbrev pub decreases-loop-first : goal.decreases-loop-first
decreases-loop-first l = length l.rest
