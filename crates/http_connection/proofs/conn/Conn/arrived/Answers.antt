use Rattle.std.proofs.Common.{inl, None, refl, ◌≡◌, ◌≤◌, [], ◌∙◌, sym, ap, subst, false, length, drop, ◌++◌, List, ℕ, arith}
use Rattle.std.specs.Prelude.{is_some, ◌==◌}
use Rattle.std.proofs.lemmas.List.{length-take}
use Rattle.ngx_outside.specs.Views.{Went}
use Rattle.ngx_outside.specs.Views.Ground.{Always}
use Rattle.ngx_outside.specs.declared.event.StopCause.TheVariants as stop
use Rattle.http_connection.specs.Conn.{view_at}
use Rattle.http_connection.proofs.Kept.{buffered_few, buffered_drained, none_fits, none_buffered}
use Rattle.http_connection.proofs.Moves.{room_some, arrived_went, arrived_left, some_taken, refused, stopped_left}
use Rattle.http_connection.proofs.Timed.{went_until, refused_until}
use Rattle.http_connection.proofs.Tails.{stopped_tail}
use Rattle.http_connection.proofs.conn.Conn.arrived.Goals as goal
use Rattle.http_connection.specs.Rests.{service_in}
use Rattle.response_flow.specs.Flights.{flight_tree}
use Rattle.http_connection.specs.Rests.{ReachedIn}

pub returns-in-Ok-clause-steps : goal.returns-in-Ok-clause-steps
returns-in-Ok-clause-steps c = λ site now conn.
    let s = c.args.self.now in
    let service = service_in site s.local s.peer in
    let d = c.drop_rest-dropped.result in
    let n = c.take_in.new in
    let first = c.first_bytes-bytes.result.now in
    let kept : List ℕ = drop d.used first in
    let has = sym c.room.ensures ∙ c.in-Some.is in
    let r = room_some (is_some s.cause) s.closing s.ended s.buffered c.in-Some.room has in
    let some : (length c.args.bytes.now == 0) ≡ false = sym c.is_empty.ensures ∙ c.if-is_empty.false in
    let buffered : n.buffered ≡ s.buffered ++ kept = c.in-Ok.ensures.buffered ∙ ap (λ x. s.buffered ++ x) c.last_bytes.ensures in
    let drops = c.drop_rest-dropped.ensures.drops in
    let few : length kept ≤ c.min-taken.result =
    let a = drops.shorter in
    let b = ap length c.first_bytes-bytes.ensures in
    let e = length-take c.min-taken.result c.args.bytes.now in
    omega (arith, a, b, e) in
    record {
      own = λ tells led course. (
        record { most = c.in-Some.room; has_room = has; takes = c.min-taken.ensures; some = some_taken (length c.args.bytes.now) c.in-Some.room c.min-taken.result c.min-taken.ensures some r.3 },
        went_until _ _ Always _ _ _ [] [] (subst (λ b. Went Always (view_at site service s.cause s.flight s.out s.tail s.journal.past.entries s.closing s.ended s.body s.buffered s.next) (view_at site service s.cause s.flight s.out s.tail s.journal.past.entries d.broken s.ended d.body n.buffered n.next) b [] []) c.first_bytes-bytes.ensures
            (arrived_went site service s.cause s.flight s.out s.tail s.journal.past.entries s.closing d.broken s.ended s.body d.body s.buffered n.buffered kept s.next n.next first r.0 r.1 s.drained c.drop_rest-dropped.ensures.none drops buffered (s.logged r.0))),
      );
      reached = λ led. led;
      left = arrived_left s.cause s.flight s.out s.closing d.broken s.buffered n.buffered kept c.args.bytes.now c.min-taken.result r.1 buffered few;
      ended = refl;
      taken = tt;
      asked = inl (omega arith);
      keeps = refl;
      tail = refl;
    }

pub returns-in-Err-clause-steps : goal.returns-in-Err-clause-steps
returns-in-Err-clause-steps c = λ site now conn.
    let s = c.args.self.now in
    let service = service_in site s.local s.peer in
    let n = c.take_in.new in
    let has = sym c.room.ensures ∙ c.in-Some.is in
    let r = room_some (is_some s.cause) s.closing s.ended s.buffered c.in-Some.room has in
    record {
      own = λ tells led course. refused_until _ _ now _ _ (refused site now service s.cause s.flight c.put.new.slot s.out c.clear.new.self s.tail s.tail s.journal.past.entries s.journal.past.entries s.closing s.closing s.ended s.ended s.body None s.buffered c.clear-in-Err.new.self s.next n.next r.0 c.put.ensures c.clear.ensures refl);
      reached = λ led. ∣ subst (ReachedIn site) (sym c.put.ensures) tt ∣₁;
      left = stopped_left stop.Memory s.cause s.flight c.put.new.slot s.out c.clear.new.self s.closing s.closing s.buffered c.clear-in-Err.new.self r.0;
      ended = refl;
      taken = tt;
      asked = inl (let e = ap flight_tree c.put.ensures in omega (arith, e));
      keeps = refl;
      tail = refl;
    }

pub invariant_of-self : goal.invariant_of-self
invariant_of-self c =
    let s = c.args.self.now in
    let d = c.drop_rest-dropped.result in
    let n = c.take_in.new in
    let first = c.first_bytes-bytes.result.now in
    let kept : List ℕ = drop d.used first in
    let has = sym c.room.ensures ∙ c.in-Some.is in
    let buffered : n.buffered ≡ s.buffered ++ kept = c.in-Ok.ensures.buffered ∙ ap (λ x. s.buffered ++ x) c.last_bytes.ensures in
    let drops = c.drop_rest-dropped.ensures.drops in
    let few : length kept ≤ c.min-taken.result =
    let a = drops.shorter in
    let b = ap length c.first_bytes-bytes.ensures in
    let e = length-take c.min-taken.result c.args.bytes.now in
    omega (arith, a, b, e) in
    let within : c.min-taken.result ≤ c.in-Some.room = omega (arith, c.min-taken.ensures) in
    record {
      looked = λ h. c.in-Ok.ensures.next;
      dropped = s.dropped;
      quit = s.quit;
      flying = s.flying;
      few = buffered_few (is_some s.cause) s.closing s.ended s.buffered n.buffered kept c.in-Some.room c.min-taken.result has buffered few within;
      drained = buffered_drained s.body d.body s.buffered n.buffered first kept d.broken s.drained c.drop_rest-dropped.ensures.none drops.drained buffered;
      unended = drops.unended;
      logged = s.logged;
      brief = s.brief;
      tailed = s.tailed;
    }

pub invariant_of-self-in-Err : goal.invariant_of-self-in-Err
invariant_of-self-in-Err c = record {
  looked = λ h. cc;
  dropped = λ h. c.clear.ensures;
  quit = λ h. c.put.ensures;
  flying = none_fits c.put.new.slot c.clear.new.self c.put.ensures c.clear.ensures;
  few = none_buffered c.clear-in-Err.new.self c.clear-in-Err.ensures;
  drained = λ h. cc;
  unended = λ h. cc;
  logged = λ h. cc;
  brief = c.args.self.now.brief;
  tailed = (let s = c.args.self.now in stopped_tail s.flight c.put.new.slot s.tail s.out c.clear.new.self c.put.ensures c.clear.ensures s.tailed);
}
