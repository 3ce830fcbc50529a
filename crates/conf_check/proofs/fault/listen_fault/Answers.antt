use Rattle.std.proofs.Common.{cond, Some, None, refl, sym, ap, ◌∙◌}
use Rattle.conf_text.specs.declared.fault.FaultKind.TheVariants.{Duplicate, BadValue}
use Rattle.conf_values.specs.Listening.{has_known_parameters}
use Rattle.conf_check.proofs.FaultLaws.{listen-known}
use Rattle.conf_check.proofs.fault.listen_fault.Goals as goal

pub returns-then-is_taken : goal.returns-then-is_taken
returns-then-is_taken c = λ earlier h.
    ap (λ t. cond t (Some Duplicate) (cond (has_known_parameters c.args.words.now) None (Some BadValue))) (sym c.if-is_taken.true)
    ∙ listen-known _ _ _ earlier c.args.words.now _ _ (sym c.listened_by.ensures ∙ c.in-Some.is) (c.is_taken.ensures earlier h) refl

pub returns-then-has_known_parameters : goal.returns-then-has_known_parameters
returns-then-has_known_parameters c = λ earlier h.
    (λ i. cond (sym c.if-is_taken.false i) (Some Duplicate) (cond (sym c.if-has_known_parameters.true i) None (Some BadValue)))
    ∙ listen-known _ _ _ earlier c.args.words.now _ _ (sym c.listened_by.ensures ∙ c.in-Some.is) (c.is_taken.ensures earlier h) c.has_known_parameters.ensures

pub returns-else-has_known_parameters : goal.returns-else-has_known_parameters
returns-else-has_known_parameters c = λ earlier h.
    (λ i. cond (sym c.if-is_taken.false i) (Some Duplicate) (cond (sym c.if-has_known_parameters.false i) None (Some BadValue)))
    ∙ listen-known _ _ _ earlier c.args.words.now _ _ (sym c.listened_by.ensures ∙ c.in-Some.is) (c.is_taken.ensures earlier h) c.has_known_parameters.ensures
