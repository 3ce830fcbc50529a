use Rattle.std.proofs.Common.{◌≡◌, true, not, eqb, take}
use Rattle.std.specs.List.{list_all}
use Rattle.req_head.proofs.options.cut.Given as goal

abbrev pub invariant-loop-i : goal.invariant-loop-i
invariant-loop-i l = list_all (λ b. not (eqb b 44)) (take l.i l.bytes) ≡ true
