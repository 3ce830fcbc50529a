use Rattle.std.proofs.Common.{List, Option, ◌≡◌, ◌≤◌, ℕ, true, vec_len}
use Rattle.link_service.specs.Seen.{Elsewhere}
use Rattle.link_service.specs.Standing.{Keeps}
use Rattle.link_service.specs.Rests.{work}
use Rattle.link_service.specs.Tellings.{StandBeside}
use Rattle.link_service.proofs.wants.drain.Given as goal

abbrev pub invariant-loop-want : goal.invariant-loop-want
invariant-loop-want g l =
    let e = g.E.EventCore in
    let f = g.F.Files in
    let k = g.L.Links in
    record {
      kept : Keeps (e.seen l.fn.core) (e.seen l.core) (k.seen l.fn.links) (k.seen l.links) (f.seen l.fn.files) (f.seen l.files);
      views : Elsewhere l.conn (e.seen l.fn.core).view (e.seen l.core).view;
      links : (k.seen l.fn.links).tells ≡ true → Elsewhere l.conn (k.seen l.fn.links).link (k.seen l.links).link;
      opens : Elsewhere l.conn (k.seen l.fn.links).is_open (k.seen l.links).is_open;
      matched : ((e.seen l.core).view l.conn).held ≡ (k.seen l.links).is_open l.conn;
      due : (k.seen l.fn.links).tells ≡ true → ((k.seen l.fn.links).is_open l.conn ≡ true → ((k.seen l.fn.links).link l.conn).due ≡ true → l.due ≡ true) → (k.seen l.links).is_open l.conn ≡ true → ((k.seen l.links).link l.conn).due ≡ true → l.ready.due ≡ true;
      full : (k.seen l.fn.links).tells ≡ true → l.ready.full ≡ true → ((k.seen l.links).link l.conn).full ≡ true;
      beside : (clock : Option (List ℕ)) → StandBeside (e.seen l.fn.core).events (e.seen l.core).events (k.seen l.fn.links).answers (k.seen l.links).answers (f.seen l.fn.files).answers (f.seen l.files).answers clock clock;
      terms : (e.seen l.core).terms ≡ (e.seen l.fn.core).terms;
      now : (e.seen l.core).now ≡ (e.seen l.fn.core).now;
      tells : (k.seen l.links).tells ≡ (k.seen l.fn.links).tells;
      listens : (k.seen l.links).listening ≡ (k.seen l.fn.links).listening;
      files : (f.seen l.files).tells ≡ (f.seen l.fn.files).tells;
      notices : (k.seen l.fn.links).tells ≡ true → (k.seen l.links).notices ≡ (k.seen l.fn.links).notices;
      versions : (f.seen l.files).versions ≡ (f.seen l.fn.files).versions;
      later : (k.seen l.fn.links).faults ≤ (k.seen l.links).faults;
      over : (k.seen l.fn.links).over ≡ true → (k.seen l.links).over ≡ true;
      grown : (f.seen l.fn.files).newest ≤ (f.seen l.files).newest;
      known : (e.seen l.core).now.tree ≤ (f.seen l.files).newest;
    }

abbrev pub decreases-loop-want : goal.decreases-loop-want
decreases-loop-want g l = work (g.E.EventCore.seen l.core).terms.price (vec_len l.input) l.ready.due l.ready.full (g.E.EventCore.seen l.core).left
