use Rattle.std.proofs.Common.{◌≡◌, ◌∙◌, true, false, sym, ap, subst, arith, get_or}
use Rattle.std.specs.Prelude.{nat_eq}
use Rattle.std.specs.List.{Contains, list_any}
use Rattle.std.proofs.lemmas.List.{take_all}
use Rattle.ngx_outside.specs.Views.{Start}
use Rattle.ready_loop.specs.Turns.{IsHeard, IsHeardBut}
use Rattle.ready_loop.proofs.RestLemmas.{rest_served, rest_listed, apart_at, heard_all}
use Rattle.link_service.proofs.BesideLemmas.{stand_then}
use Rattle.ready_loop.proofs.conns.serve_all.Goals as goal

pub loop-conn-preserved : goal.loop-conn-preserved
loop-conn-preserved g c =
    let e = g.E.EventCore in
    let f = g.F.Files in
    let k = g.L.Links in
    let i = c.loop-conn.invariant in
    let s = c.in_ok-serve_one.ensures in
    let conns = c.as_slice-conn-items.result.now in
    let conn = get_or conns c.loop-conn.conn-index 0 in
    record {
      kept = λ tl tf marks whole ticks h. s.kept (i.tells ∙ tl) (i.files ∙ tf) marks whole ticks (i.kept tl tf marks whole ticks h);
      matched = s.matched;
      heard = λ tl h. s.heard (i.tells ∙ tl) (heard_all conn (k.seen c.loop-conn.links).is_open (k.seen c.loop-conn.links).link c.loop-conn.memory.unread (i.heard tl h));
      rested = rest_served (((k.seen c.args.links.now).tells ≡ true) × IsHeard (k.seen c.args.links.now).is_open (k.seen c.args.links.now).link c.args.memory.now.unread) (((k.seen c.loop-conn.links).tells ≡ true) × IsHeardBut conn false (k.seen c.loop-conn.links).is_open (k.seen c.loop-conn.links).link c.loop-conn.memory.unread) ((k.seen c.args.links.now).tells ≡ true) ((k.seen c.loop-conn.links).tells ≡ true)
          conns c.loop-conn.conn-index (e.seen c.loop-conn.core).view (e.seen c.serve_one.new.core).view (k.seen c.loop-conn.links).link (k.seen c.serve_one.new.links).link c.loop-conn-test.true
          (λ h. (i.tells ∙ h.0, heard_all conn (k.seen c.loop-conn.links).is_open (k.seen c.loop-conn.links).link c.loop-conn.memory.unread (i.heard h.0 h.1))) (λ h. h.0) (λ t. i.tells ∙ t) s.views s.links s.rests i.rested;
      same = λ d none. s.views d (apart_at d conns c.loop-conn.conn-index c.loop-conn-test.true none) ∙ i.same d none;
      beside = λ clock. stand_then (i.beside clock) (s.beside clock);
      terms = s.steady.0 ∙ i.terms;
      now = s.steady.1 ∙ i.now;
      notices = λ tl. s.notices (i.tells ∙ tl) ∙ i.notices tl;
      versions = s.versions ∙ i.versions;
      tells = s.tells.0 ∙ i.tells;
      listens = s.tells.1 ∙ i.listens;
      files = s.tells.2 ∙ i.files;
      later = (let a = i.later in let b = s.later in omega (arith, a, b));
      over = λ o. s.stays_over (i.over o);
      grown = (let a = i.grown in let b = s.grown in omega (arith, a, b));
      known = (let a = i.known in let b = s.grown in let q : (e.seen c.serve_one.new.core).now.tree ≡ (e.seen c.loop-conn.core).now.tree = ap (λ (x : Start). x.tree) s.steady.1 in omega (arith, a, b, q));
    }

pub returns-clause-rests : goal.returns-clause-rests
returns-clause-rests g c = λ d held.
    let e = g.E.EventCore in
    let k = g.L.Links in
    let i = c.loop-conn.invariant in
    let conns = c.as_slice-conn-items.result.now in
    let whole : conns ≡ (e.seen c.args.core.now).conns = c.as_slice-conn-items.ensures.value ∙ c.in_ok-list.ensures ∙ c.conns.ensures.conns in
    rest_listed (((k.seen c.args.links.now).tells ≡ true) × IsHeard (k.seen c.args.links.now).is_open (k.seen c.args.links.now).link c.args.memory.now.unread) ((k.seen c.args.links.now).tells ≡ true)
    conns (e.seen c.args.core.now).view (e.seen c.loop-conn.core).view (k.seen c.loop-conn.links).link d
    (λ h. subst (λ xs. Contains xs d) (sym whole) ((c.conns.ensures.held d).1 h))
    (λ listed. i.rested d (subst (λ xs. list_any (nat_eq d) xs ≡ true) (sym (take_all c.loop-conn.conn-index conns (omega arith))) listed) held) (i.same d) held
