use Rattle.std.proofs.Common.{◌≡◌, Bool, true, false, inl, [], ◌<◌, ◌≤◌, ap, sym, subst, length, refl, arith}
use Rattle.std.specs.Prelude.{is_some}
use Rattle.http_connection.proofs.Moves.{not_stopped, wrote_went, goes_left}
use Rattle.http_connection.proofs.Writes.{shown_within, wrote_rest, wrote_reached}
use Rattle.http_connection.specs.Steps.{IsLogged}
use Rattle.http_connection.specs.Conn.{pending_at}
use Rattle.http_connection.proofs.Timed.{went_until}
use Rattle.http_connection.proofs.Tails.{wrote_tail}
use Rattle.http_connection.proofs.conn.Conn.wrote.Goals as goal
use Rattle.http_connection.specs.Rests.{service_in}

never : {A : Type 0} (b : Bool) → b ≡ false → b ≡ true → A
never true e f = cc
never false e f = cc

pub returns-clause-steps : goal.returns-clause-steps
returns-clause-steps c = λ x now conn.
    let s = c.args.self.now in
    let service = service_in x s.local s.peer in
    let some : 0 < c.args.count = omega (arith, c.if-count-eq0.false) in
    let within : c.args.count ≤ length (pending_at s.flight s.out s.tail) = omega (arith, c.if-count-pending.false, ap length c.pending.ensures) in
    let live = not_stopped s.cause s.flight s.out s.tail c.args.count s.dropped s.quit some within in
    let w = c.written in
    let f' = w.new.flight in
    record {
      own = λ tells led course. (
        some,
        within,
        went_until _ _ _ _ _ [] _ [] (wrote_went x service s.cause s.flight f' s.out w.new.out s.tail s.journal.past.entries s.closing s.ended s.body s.buffered s.next c.args.count live
            (λ trees. wrote_rest x s.flight f' f' s.flight s.out w.new.out s.tail c.args.count trees within refl refl w.ensures.by w.ensures.writes)
            (subst (λ b. IsLogged b s.journal.past.entries) (sym w.ensures.kind) (s.logged live))),
      );
      reached = λ led. wrote_reached x s.flight f' f' s.flight refl refl w.ensures.by w.ensures.reached w.ensures.kind led;
      left = goes_left s.cause s.flight f' s.out w.new.out s.closing s.closing s.buffered live (λ e. e) w.ensures.lowers;
      ended = refl;
      taken = refl;
      asked = inl (let a = w.ensures.tree in omega (arith, a));
      keeps = refl;
      tail = refl;
    }

pub invariant_of-self : goal.invariant_of-self
invariant_of-self c =
    let s = c.args.self.now in
    let some : 0 < c.args.count = omega (arith, c.if-count-eq0.false) in
    let within : c.args.count ≤ length (pending_at s.flight s.out s.tail) = omega (arith, c.if-count-pending.false, ap length c.pending.ensures) in
    let live = not_stopped s.cause s.flight s.out s.tail c.args.count s.dropped s.quit some within in
    let w = c.written in
    record {
      looked = s.looked;
      dropped = λ h. never (is_some s.cause) live h;
      quit = λ h. never (is_some s.cause) live h;
      flying = w.ensures.fits;
      few = s.few;
      drained = s.drained;
      unended = s.unended;
      logged = λ h. subst (λ b. IsLogged b s.journal.past.entries) (sym w.ensures.kind) (s.logged h);
      brief = s.brief;
      tailed = wrote_tail s.flight w.new.flight s.tail c.args.count s.out w.new.out w.ensures.kind w.ensures.used s.tailed;
    }

pub written-requires-clause-count : goal.written-requires-clause-count
written-requires-clause-count c =
    let s = c.args.self.now in
    let within : c.args.count ≤ length (pending_at s.flight s.out s.tail) = omega (arith, c.if-count-pending.false, ap length c.pending.ensures) in
    let few = shown_within s.flight s.out s.tail in
    omega (arith, within, few)
