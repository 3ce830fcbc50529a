use Rattle.std.proofs.Common.{option_map, sym, ap, ◌∙◌}
use Rattle.pattern_search.specs.Found.{patterns_seen}
use Rattle.conf_inherit.proofs.NameLaws.{name-like, name-plain}
use Rattle.conf_inherit.proofs.names.name_of.Goals as goal

pub returns-in_ok-number-in-Some-clause-seen : goal.returns-in_ok-number-in-Some-clause-seen
returns-in_ok-number-in-Some-clause-seen g c = λ all k.
    name-like c.args.word.now c.in-Some.text.now all c.in_ok-number-in-Some.number (sym c.name_pattern.ensures ∙ ap (option_map (λ t. t.now)) c.in-Some.is) (k _ _ c.in_ok-number-in-Some.ensures.there)

pub returns-in_ok-name-in-None-clause-seen : goal.returns-in_ok-name-in-None-clause-seen
returns-in_ok-name-in-None-clause-seen g c = λ all k.
    name-plain c.args.word.now _ (sym c.name_pattern.ensures ∙ ap (option_map (λ t. t.now)) c.in-None.is) (c.in_ok-name-in-None.ensures (patterns_seen all))
