use Rattle.std.proofs.Common.{sym, ◌∙◌}
use Rattle.file_path.proofs.Clean.{clean_step, clean_end, clean_stands, clean_single}
use Rattle.file_path.proofs.locate.is_clean.Goals as goal

pub loop-rest-preserved : goal.loop-rest-preserved
loop-rest-preserved c = λ h. c.loop-rest.invariant (clean_step c.loop-rest.rest.now c.in-len1-up.len_at_least (sym c.goes_with.ensures ∙ c.if-not-goes_with.false) h)

pub returns-clause-stands : goal.returns-clause-stands
returns-clause-stands c = λ _. clean_stands c.args.path.now (sym c.begins_with_dot.ensures ∙ c.if-begins_with_dot.false) (c.loop-rest.invariant (clean_end c.loop-rest.rest.now c.in_default.len_below))

pub returns-clause-single : goal.returns-clause-single
returns-clause-single c = λ _. clean_single c.args.path.now (c.loop-rest.invariant (clean_end c.loop-rest.rest.now c.in_default.len_below))
