use Rattle.std.specs.Prelude.{is_some}
use Rattle.std.proofs.Common.{◌≡◌, ◌≤◌, ◌<◌, ◌⊎◌, ℕ, inl, inr, refl, ap, arith}
use Rattle.link_service.proofs.NodeLemmas.{served_none, served_then, spares_none, spares_then, still_known}
use Rattle.link_service.proofs.jobs.work_off.Goals as goal

pub loop-now_large-init : goal.loop-now_large-init
loop-now_large-init g c =
    let e = g.E.EventCore.seen c.args.core.now in
    let f = g.F.Files.seen c.args.files.now in
    record { served = served_none e f; spares = spares_none c.args.conn e f; held = c.requires.held; left = inr (refl, refl); known = c.requires.known }

pub loop-now_large-preserved : goal.loop-now_large-preserved
loop-now_large-preserved g c =
    let i = c.loop-now_large.invariant in
    let s = c.in_ok-now_large.ensures in
    record {
      served = served_then i.spares i.served s.served;
      spares = spares_then i.spares s.spares;
      held = s.held;
      left = inl (let a = s.falls (ap is_some c.in-Some.is) in let most : (g.E.EventCore.seen c.loop-now_large.core).left ≤ (g.E.EventCore.seen c.args.core.now).left = at_most i.left in omega (arith, a, most));
      known = still_known s.spares i.known;
    }
  where
    at_most : {n m : ℕ} {S : Type 0} → (n < m) ⊎ ((n ≡ m) × S) → n ≤ m
    at_most (inl h) = omega (arith, h)
    at_most (inr h) = (let e = h.0 in omega (arith, e))

pub returns-clause-served : goal.returns-clause-served
returns-clause-served g c =
    let i = c.loop-now_large.invariant in
    served_then i.spares i.served c.in_ok-now_large.ensures.served

pub returns-clause-spares : goal.returns-clause-spares
returns-clause-spares g c = spares_then c.loop-now_large.invariant.spares c.goes_one.ensures.spares

pub returns-in_err-now_large-clause-spares : goal.returns-in_err-now_large-clause-spares
returns-in_err-now_large-clause-spares g c = spares_then c.loop-now_large.invariant.spares c.goes_one.ensures.spares
