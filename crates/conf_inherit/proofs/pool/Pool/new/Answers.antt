use Rattle.std.proofs.Common.{refl}
use Rattle.conf_inherit.proofs.pool.Pool.new.Goals as goal

pub returns-clause-lists : goal.returns-clause-lists
returns-clause-lists c = record { index = λ later k. refl; pages = λ later k. refl; rules = λ later k. refl; auth_sets = λ later k. refl; ssi_types = λ later k. refl; addition_types = λ later k. refl }
