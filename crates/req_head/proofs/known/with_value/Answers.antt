use Rattle.req_head.proofs.KnownLemmas.{first_value, second_value, next_value}
use Rattle.req_head.proofs.known.with_value.Goals as goal

pub returns-in-Nothing : goal.returns-in-Nothing
returns-in-Nothing c = first_value c.args.values c.args.value c.in-Nothing.is

pub returns-in-One : goal.returns-in-One
returns-in-One c = second_value c.args.values c.in-One.first c.args.value.now c.in-One.is

pub returns-in-Many : goal.returns-in-Many
returns-in-Many c = next_value c.args.values c.in-Many.first c.args.value.now c.in-Many.is
