use Rattle.std.proofs.Common.{sym, ◌∙◌}
use Rattle.pattern_search.specs.Found.{patterns_seen}
use Rattle.conf_block.specs.Locations.{text_in}
use Rattle.conf_inherit.proofs.NameLaws.{location-like, location-plain}
use Rattle.conf_inherit.proofs.site.kind_of.Goals as goal

pub returns-in_ok-number-in-Some-clause-seen : goal.returns-in_ok-number-in-Some-clause-seen
returns-in_ok-number-in-Some-clause-seen g c = λ all k.
    location-like c.args.words.now c.text_in.result.now c.in-Some.nocase all c.in_ok-number-in-Some.number (sym c.in-Some.is ∙ c.regex_case.ensures) c.text_in.ensures (k _ _ c.in_ok-number-in-Some.ensures.there)

pub returns-in-None-clause-seen : goal.returns-in-None-clause-seen
returns-in-None-clause-seen g c = λ all k.
    location-plain c.args.words.now c.plain_kind.result (patterns_seen all) (sym c.in-None.is ∙ c.regex_case.ensures) c.plain_kind.ensures
