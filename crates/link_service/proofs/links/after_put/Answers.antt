use Rattle.std.proofs.Common.{◌≡◌, [], take, sym, subst, arith}
use Rattle.ngx_outside.specs.Views.Ground.{Always}
use Rattle.link_service.specs.Passing.{Passed}
use Rattle.link_service.proofs.AccountLemmas.{passed_weaker}
use Rattle.link_service.proofs.links.after_put.Goals as goal

pub returns-then-count-gt0-clause-passed : goal.returns-then-count-gt0-clause-passed
returns-then-count-gt0-clause-passed g c = passed_weaker (λ x. absurd x) (λ x. absurd x) (λ x. absurd x) c.wrote.ensures.passed

pub returns-else-count-gt0-clause-passed : goal.returns-else-count-gt0-clause-passed
returns-else-count-gt0-clause-passed g c =
    let e = g.E.EventCore in
    let none : c.args.count ≡ 0 = omega arith in
    subst (λ n. Passed (e.seen c.args.core.now).now Always (c.args.count ≡ 0) ⊥ ⊥ ((e.seen c.args.core.now).view c.args.conn) ((e.seen c.link_failed.new.core).view c.args.conn) [] (take n ((e.seen c.args.core.now).view c.args.conn).pending)) (sym none)
    (passed_weaker (λ x. none) (λ x. absurd x) (λ x. absurd x) c.link_failed.ensures.passed)
