use Rattle.std.proofs.Common.{◌≡◌, true, take, get_or}
use Rattle.std.proofs.lemmas.List.Elements.{All-more, All-weaker}
use Rattle.ready_loop.specs.Ids.{has}
use Rattle.ready_loop.proofs.RestLemmas.{has_more}
use Rattle.ready_loop.proofs.conns.remember_all.Goals as goal

pub loop-conn-preserved : goal.loop-conn-preserved
loop-conn-preserved c =
    All-more (λ d. has c.add.new.self d ≡ true) c.args.conns.now c.loop-conn.conn-index 0 c.loop-conn-test.true
    (All-weaker (λ d. has c.loop-conn.unread d ≡ true) (λ d. has c.add.new.self d ≡ true) (λ d h. has_more (get_or c.args.conns.now c.loop-conn.conn-index 0) c.loop-conn.unread c.add.new.self c.in_ok-add.ensures.own c.in_ok-add.ensures.others d h) (take c.loop-conn.conn-index c.args.conns.now) c.loop-conn.invariant)
    c.in_ok-add.ensures.own
