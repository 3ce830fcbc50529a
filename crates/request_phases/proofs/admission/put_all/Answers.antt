use Rattle.std.proofs.Common.{arith}
use Rattle.request_phases.proofs.Admissions as admissions
use Rattle.request_phases.proofs.admission.put_all.Goals as goal

pub returns-then-not-branch : goal.returns-then-not-branch
returns-then-not-branch c =
    admissions.unfit c.args.main.now c.args.request.now c.args.all.now c.args.vars.now c.loop-set.set-index c.set-item.result c.loop-set.vars c.put_one.new.vars c.in_ok-put_one.field-0
    (omega arith) c.set-item.is c.loop-set.invariant c.in_ok-put_one.ensures c.if-not-branch.true

pub loop-set-preserved : goal.loop-set-preserved
loop-set-preserved c =
    admissions.set_on c.args.main.now c.args.request.now c.args.all.now c.args.vars.now c.loop-set.set-index c.set-item.result c.loop-set.vars c.put_one.new.vars c.in_ok-put_one.field-0
    (omega arith) c.set-item.is c.loop-set.invariant c.in_ok-put_one.ensures c.if-not-branch.false

pub returns : goal.returns
returns c = admissions.all_set c.args.main.now c.args.request.now c.args.all.now c.args.vars.now c.loop-set.set-index c.loop-set.vars (omega arith) c.loop-set.invariant
