use Rattle.std.proofs.Common.{refl}
use Rattle.http_connection.proofs.Sound.{sound}
use Rattle.http_connection.specs.Conn.{due_at}
use Rattle.http_connection.proofs.Timed.{sound_until, view_of_parts, dead_waits}
use Rattle.http_connection.proofs.law.connections_are_sound.Goals as goal
use Rattle.http_connection.specs.Rests.{service_in}

pub returns : goal.returns
returns c = λ site s. sound_until (due_at s) (view_of_parts site s) refl (dead_waits s) (sound site c.full_decides.ensures (service_in site s.local s.peer) s.cause s.flight s.out s.tail s.journal.past.entries s.closing s.ended s.body s.buffered s.next s.looked s.dropped s.quit s.flying s.drained s.unended s.logged)
