use Rattle.std.proofs.Common.{◌∙◌, ap}
use Rattle.rewrite_code.specs.Found.{finding}
use Rattle.rewrite_code.specs.Places.{progress_seen}
use Rattle.rewrite_code.specs.Moves.{values_at}
use Rattle.rewrite_code.proofs.Acts.{set_settles, if_settles}
use Rattle.rewrite_code.proofs.quick.at_once.Goals as goal

pub returns-then-is_done-clause-does : goal.returns-then-is_done-clause-does
returns-then-is_done-clause-does c = λ w ps site leading.
    let p = progress_seen site c.args.progress.now in
    rw c.in-Set.is (set_settles c.args.main.now c.args.vars.now (finding w) leading p c.in-Set.name c.in-Set.text _ _ (c.in_ok-is_done-in-Set.ensures.set c.if-is_done.true c.args.main.now c.args.progress.now.request leading p))

pub returns-in-Some-clause-does : goal.returns-in-Some-clause-does
returns-in-Some-clause-does c = λ w ps site leading.
    let p = progress_seen site c.args.progress.now in
    rw c.in-If.is
    (if_settles c.args.main.now c.args.vars.now w leading p ps c.in-If.test c.in-If.negated c.in-If.block (values_at site c.in-If.level)
    ∙ ap (λ m. (m, c.args.vars.now)) (c.in-Some.ensures ps site p))
