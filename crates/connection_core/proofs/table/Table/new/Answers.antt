use Rattle.std.proofs.Common.{subst, sym}
use Rattle.connection_core.specs.Table.{AllKeep}
use Rattle.connection_core.proofs.table.Table.new.Goals as goal

pub invariant_of-result-clause-keeping : goal.invariant_of-result-clause-keeping
invariant_of-result-clause-keeping c = subst (AllKeep c.args.keeps) (sym c.new-2.ensures.items) tt
