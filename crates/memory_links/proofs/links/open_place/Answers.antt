use Rattle.std.proofs.Common.{◌∙◌}
use Rattle.memory_links.proofs.Ids.{is_at_own}
use Rattle.memory_links.proofs.links.open_place.Goals as goal

pub returns-then-peers-at : goal.returns-then-peers-at
returns-then-peers-at c = (
  c.in-Some.ensures.0,
  c.in-Some.ensures.1,
  (is_at_own c.args.peers.now c.args.id c.in-Some.at c.index-peers-at.result c.in-Some.ensures.0 c.in-Some.ensures.1).held
      ∙ c.if-peers-at.true,
)

pub returns-else-peers-at : goal.returns-else-peers-at
returns-else-peers-at c =
    (is_at_own c.args.peers.now c.args.id c.in-Some.at c.index-peers-at.result c.in-Some.ensures.0 c.in-Some.ensures.1).held
    ∙ c.if-peers-at.false
