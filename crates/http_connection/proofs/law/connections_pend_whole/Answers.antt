use Rattle.http_connection.proofs.Tails.{pends_whole}
use Rattle.http_connection.proofs.law.connections_pend_whole.Goals as goal

pub returns : goal.returns
returns c = λ s none. pends_whole c.shown_end_whole.ensures s.flight s.tail s.out none s.tailed
