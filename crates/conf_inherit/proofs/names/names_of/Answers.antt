use Rattle.std.proofs.Common.{ap, ◌∙◌}
use Rattle.pattern_search.specs.Found.{patterns_seen}
use Rattle.conf_lists.specs.Hosts.{or_empty}
use Rattle.conf_inherit.proofs.names.names_of.Goals as goal

pub returns : goal.returns
returns g c = record {
  kept = c.in_ok-names.ensures.kept;
  seen = λ all k. c.in_ok-named.ensures (patterns_seen all) ∙ ap or_empty (c.in_ok-names.ensures.seen all k);
}
