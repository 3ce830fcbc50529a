use Rattle.connection_core.specs.Core.{serves_at}
use Rattle.connection_core.proofs.Shown.{sound_in, exact_in, started_in, logged_in, raceless_in}
use Rattle.connection_core.proofs.law.cores_are_sound.Goals as goal

pub returns : goal.returns
returns c = λ h q. record {
  sound = sound_in c.connections_are_sound.ensures (serves_at h) h.table.ids.items h.table.conns.items q;
  exact = exact_in c.connections_are_exact.ensures (serves_at h) h.table.ids.items h.table.conns.items q;
  started = started_in (serves_at h) h.table.ids.items h.table.conns.items q;
  logged = logged_in (serves_at h) h.table.ids.items h.table.conns.items q;
  raceless = raceless_in (serves_at h) h.table.ids.items h.table.conns.items q;
}
