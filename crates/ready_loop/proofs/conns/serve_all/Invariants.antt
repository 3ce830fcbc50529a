use Rattle.std.proofs.Common.{List, Option, ◌≡◌, ◌≤◌, ℕ, true, false, take}
use Rattle.std.specs.Prelude.{nat_eq}
use Rattle.std.specs.List.{list_any}
use Rattle.link_service.specs.Standing.{Keeps, IsMatched}
use Rattle.ready_loop.specs.Turns.{AtRest, IsHeard}
use Rattle.link_service.specs.Tellings.{StandBeside}
use Rattle.ready_loop.proofs.conns.serve_all.Given as goal

abbrev pub invariant-loop-conn : goal.invariant-loop-conn
invariant-loop-conn g l =
    let e = g.E.EventCore in
    let f = g.F.Files in
    let k = g.L.Links in
    record {
      kept : Keeps (e.seen l.fn.core) (e.seen l.core) (k.seen l.fn.links) (k.seen l.links) (f.seen l.fn.files) (f.seen l.files);
      matched : IsMatched (e.seen l.core).view (k.seen l.links).is_open;
      heard : (k.seen l.fn.links).tells ≡ true → IsHeard (k.seen l.fn.links).is_open (k.seen l.fn.links).link l.fn.memory.unread → IsHeard (k.seen l.links).is_open (k.seen l.links).link l.memory.unread;
      rested : (c : ℕ) → list_any (nat_eq c) (take l.conn-index l.conn-items) ≡ true → ((e.seen l.core).view c).held ≡ true → AtRest (((k.seen l.fn.links).tells ≡ true) × IsHeard (k.seen l.fn.links).is_open (k.seen l.fn.links).link l.fn.memory.unread) ((k.seen l.fn.links).tells ≡ true) ((e.seen l.core).view c) ((k.seen l.links).link c);
      same : (c : ℕ) → list_any (nat_eq c) l.conn-items ≡ false → (e.seen l.core).view c ≡ (e.seen l.fn.core).view c;
      beside : (clock : Option (List ℕ)) → StandBeside (e.seen l.fn.core).events (e.seen l.core).events (k.seen l.fn.links).answers (k.seen l.links).answers (f.seen l.fn.files).answers (f.seen l.files).answers clock clock;
      terms : (e.seen l.core).terms ≡ (e.seen l.fn.core).terms;
      now : (e.seen l.core).now ≡ (e.seen l.fn.core).now;
      tells : (k.seen l.links).tells ≡ (k.seen l.fn.links).tells;
      listens : (k.seen l.links).listening ≡ (k.seen l.fn.links).listening;
      files : (f.seen l.files).tells ≡ (f.seen l.fn.files).tells;
      notices : (k.seen l.fn.links).tells ≡ true → (k.seen l.links).notices ≡ (k.seen l.fn.links).notices;
      versions : (f.seen l.files).versions ≡ (f.seen l.fn.files).versions;
      later : (k.seen l.fn.links).faults ≤ (k.seen l.links).faults;
      over : (k.seen l.fn.links).over ≡ true → (k.seen l.links).over ≡ true;
      grown : (f.seen l.fn.files).newest ≤ (f.seen l.files).newest;
      known : (e.seen l.core).now.tree ≤ (f.seen l.files).newest;
    }
