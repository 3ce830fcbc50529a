use Rattle.request_phases.proofs.Admissions.{IsSetTo}
use Rattle.request_phases.proofs.admission.put_all.Given as goal

abbrev pub invariant-loop-set : goal.invariant-loop-set
invariant-loop-set l = IsSetTo l.main l.request l.all l.fn.vars l.set-index l.vars
