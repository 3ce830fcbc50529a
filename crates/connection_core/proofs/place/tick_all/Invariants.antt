use Rattle.connection_core.proofs.Ticks.{PartTicked}
use Rattle.connection_core.proofs.place.tick_all.Given as goal

abbrev pub invariant-loop-conn : goal.invariant-loop-conn
invariant-loop-conn l = PartTicked l.now l.soon l.conn-index l.initial.conns l.conns
