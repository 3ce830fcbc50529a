use Rattle.std.proofs.Common.{◌≡◌, ◌≤◌, ◌+◌, ◌-◌, ◌^◌, true}
use Rattle.std.specs.Prelude.{IfSome, min}
use Rattle.link_service.specs.Standing.{KeptThrough, IsMatched}
use Rattle.ready_loop.specs.Turns.{IsHeard}
use Rattle.link_service.specs.Tellings.{StandBeside, moments_told}
use Rattle.ready_loop.proofs.service.take_turns.Given as goal

abbrev pub invariant-loop-turn : goal.invariant-loop-turn
invariant-loop-turn g l =
    let e = g.E.EventCore in
    let f = g.F.Files in
    let k = g.L.Links in
    let t = g.C.Clock in
    record {
      kept : KeptThrough (e.seen l.fn.core) (e.seen l.core) (k.seen l.fn.links) (k.seen l.links) (f.seen l.fn.files) (f.seen l.files) (t.seen l.fn.clock) (t.seen l.clock);
      matched : IsMatched (e.seen l.core).view (k.seen l.links).is_open;
      heard : (k.seen l.fn.links).tells ≡ true → IsHeard (k.seen l.fn.links).is_open (k.seen l.fn.links).link l.fn.memory.unread → IsHeard (k.seen l.links).is_open (k.seen l.links).link l.memory.unread;
      known : (e.seen l.core).now.tree ≤ (f.seen l.files).newest;
      last : IfSome l.last (λ to. (e.seen l.core).now.tree ≡ to.tree);
      beside : StandBeside (e.seen l.fn.core).events (e.seen l.core).events (k.seen l.fn.links).answers (k.seen l.links).answers (f.seen l.fn.files).answers (f.seen l.files).answers (moments_told (t.seen l.fn.clock).tells (t.seen l.fn.clock).told) (moments_told (t.seen l.clock).tells (t.seen l.clock).told);
      terms : (e.seen l.core).terms ≡ (e.seen l.fn.core).terms;
      tells : (k.seen l.links).tells ≡ (k.seen l.fn.links).tells;
      listens : (k.seen l.links).listening ≡ (k.seen l.fn.links).listening;
      files : (f.seen l.files).tells ≡ (f.seen l.fn.files).tells;
      clock : (t.seen l.clock).tells ≡ (t.seen l.fn.clock).tells;
      notices : (k.seen l.fn.links).tells ≡ true → (k.seen l.fn.links).notices ≤ 2 ^ 64 - 1 → (k.seen l.links).notices ≡ min ((k.seen l.fn.links).notices + l._turn) (2 ^ 64 - 1);
      grown : (f.seen l.fn.files).newest ≤ (f.seen l.files).newest;
      later : (k.seen l.fn.links).faults ≤ (k.seen l.links).faults;
      over : (k.seen l.fn.links).over ≡ true → (k.seen l.links).over ≡ true;
    }
