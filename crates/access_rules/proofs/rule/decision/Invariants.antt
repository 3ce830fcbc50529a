use Rattle.std.proofs.Common.{◌≡◌, drop}
use Rattle.access_rules.specs.Rule.{decision}
use Rattle.access_rules.proofs.rule.decision.Given as goal

-- the rules that are left decide
abbrev pub invariant-loop-rule : goal.invariant-loop-rule
invariant-loop-rule l = decision (drop l.rule-index l.rules) l.addr ≡ decision l.fn.rules l.fn.addr
