use Rattle.http_connection.proofs.Kept.{none_fits}
use Rattle.http_connection.proofs.Tails.{stopped_tail}
use Rattle.http_connection.proofs.conn.Conn.stop.Goals as goal

pub invariant_of-self : goal.invariant_of-self
invariant_of-self c =
    let s = c.args.self.now in
    record {
      looked = λ h. cc;
      dropped = λ h. c.clear.ensures;
      quit = λ h. c.put.ensures;
      flying = none_fits c.put.new.slot c.clear.new.self c.put.ensures c.clear.ensures;
      few = s.few;
      drained = s.drained;
      unended = s.unended;
      logged = λ h. cc;
      brief = s.brief;
      tailed = stopped_tail s.flight c.put.new.slot s.tail s.out c.clear.new.self c.put.ensures c.clear.ensures s.tailed;
    }
