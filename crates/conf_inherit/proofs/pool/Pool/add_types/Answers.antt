use Rattle.conf_inherit.proofs.pool.Pool.add_types.Goals as goal

pub returns-clause-kept : goal.returns-clause-kept
returns-clause-kept c = record { types = c.in_ok-number.ensures.kept; indexes = λ n x h. h; pages = λ n x h. h; rules = λ n x h. h; auth_sets = λ n x h. h; media = λ n x h. h; patterns = λ n x h. h }
