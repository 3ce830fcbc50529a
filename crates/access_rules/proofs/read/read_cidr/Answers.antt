use Rattle.std.proofs.Common.{sym, ◌∙◌}
use Rattle.access_rules.proofs.TextLemmas.{cidr_found, no_network, no_number, no_slash}
use Rattle.access_rules.proofs.read.read_cidr.Goals as goal

pub returns-in-Some-small_number-clause-found : goal.returns-in-Some-small_number-clause-found
returns-in-Some-small_number-clause-found c = cidr_found c.args.text.now c.in-Some.front.now c.in-Some.back.now c.in-Some.ensures.found.0 _ _ (sym c.small_number.ensures ∙ c.in-Some-small_number.is) c.network.ensures.found

pub returns-in-Some-small_number-clause-none : goal.returns-in-Some-small_number-clause-none
returns-in-Some-small_number-clause-none c = no_network c.args.text.now c.in-Some.front.now c.in-Some.back.now c.in-Some.ensures.found.0 c.in-Some.ensures.found.1 _ _ (sym c.small_number.ensures ∙ c.in-Some-small_number.is) c.network.ensures.none

pub returns-in-None-small_number-clause-none : goal.returns-in-None-small_number-clause-none
returns-in-None-small_number-clause-none c = no_number c.args.text.now c.in-Some.front.now c.in-Some.back.now c.in-Some.ensures.found.0 c.in-Some.ensures.found.1 (sym c.small_number.ensures ∙ c.in-None-small_number.is)

pub returns-in-None-clause-none : goal.returns-in-None-clause-none
returns-in-None-clause-none c = no_slash c.args.text.now c.in-None.ensures.none
