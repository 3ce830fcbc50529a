use Rattle.std.proofs.Common.{◌≡◌, ◌≤◌, ◌++◌, ℕ, true, take}
use Rattle.ngx_outside.specs.Linked.{Same, Unchanged}
use Rattle.ready_loop.proofs.service.listen_all.Given as goal

abbrev pub invariant-loop-addr : goal.invariant-loop-addr
invariant-loop-addr g l =
    let k = g.L.Links in
    record {
      told : (k.seen l.fn.links).tells ≡ true → Unchanged (k.seen l.fn.links).link (k.seen l.links).link;
      used : Same (k.seen l.fn.links).used (k.seen l.links).used;
      opens : Same (k.seen l.fn.links).is_open (k.seen l.links).is_open;
      listens : (k.seen l.links).listening ≡ (k.seen l.fn.links).listening ++ take l.addr-index l.addrs;
      answers : (k.seen l.links).answers ≡ (k.seen l.fn.links).answers;
      counts : (k.seen l.fn.links).tells ≡ true → ((k.seen l.links).crowd ≡ (k.seen l.fn.links).crowd) × ((k.seen l.links).notices ≡ (k.seen l.fn.links).notices);
      tells : (k.seen l.links).tells ≡ (k.seen l.fn.links).tells;
      link_faults : (id : ℕ) → (k.seen l.fn.links).link_faults id ≤ (k.seen l.links).link_faults id;
      later : (k.seen l.fn.links).faults ≤ (k.seen l.links).faults;
      over : (k.seen l.fn.links).over ≡ true → (k.seen l.links).over ≡ true;
    }
