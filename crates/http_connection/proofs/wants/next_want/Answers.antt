use Rattle.std.proofs.Common.{Some, None, length, eqb, ◌≡◌, refl, sym, ◌∙◌, rules}
use Rattle.std.specs.Prelude.{is_some}
use Rattle.ngx_outside.specs.Wants.{wants_at}
use Rattle.response_flow.specs.Flights.{jobs_of}
use Rattle.response_flow.specs.subrequests.Wants.{first_job as job_first, first_of as number_first}
use Rattle.http_connection.specs.Conn.{pending_at, ready_at, shut_at}
use Rattle.http_connection.proofs.Wanted.{next_is}
use Rattle.http_connection.proofs.wants.next_want.Goals as goal
use Rattle.http_connection.specs.Rests.{service_in}

pub returns-in-Some : goal.returns-in-Some
unfolding wants_at
returns-in-Some c = λ site.
    let k = c.args.conn.now in
    next_is site (service_in site k.local k.peer) k.cause k.flight k.out k.tail (pending_at k.flight k.out k.tail) k.journal.past.entries k.closing k.ended k.body k.buffered k.next c.args.number c.args.due c.args.full
    (Some c.in-Some.room) (number_first (ready_at (is_some k.cause) k.flight k.closing k.out k.body k.next)) (job_first (jobs_of k.flight))
    (eqb (length (pending_at k.flight k.out k.tail)) 0) (shut_at (is_some k.cause) k.flight k.closing k.ended k.out k.body k.next)
    (sym c.in-Some.is ∙ c.room_due.ensures) refl refl refl refl refl

pub returns-in-Some-first_ready : goal.returns-in-Some-first_ready
unfolding wants_at
returns-in-Some-first_ready c = λ site.
    let k = c.args.conn.now in
    let none : None ≡ c.room_due.result = search rules in
    next_is site (service_in site k.local k.peer) k.cause k.flight k.out k.tail (pending_at k.flight k.out k.tail) k.journal.past.entries k.closing k.ended k.body k.buffered k.next c.args.number c.args.due c.args.full
    None (Some c.in-Some-first_ready.node) (job_first (jobs_of k.flight))
    (eqb (length (pending_at k.flight k.out k.tail)) 0) (shut_at (is_some k.cause) k.flight k.closing k.ended k.out k.body k.next)
    (none ∙ c.room_due.ensures) (sym c.in-Some-first_ready.is ∙ c.first_ready.ensures) refl refl refl refl

pub returns-in-Some-first_job : goal.returns-in-Some-first_job
unfolding wants_at
returns-in-Some-first_job c = λ site.
    let k = c.args.conn.now in
    let none : None ≡ c.room_due.result = search rules in
    let rests : None ≡ c.first_ready.result = search rules in
    next_is site (service_in site k.local k.peer) k.cause k.flight k.out k.tail (pending_at k.flight k.out k.tail) k.journal.past.entries k.closing k.ended k.body k.buffered k.next c.args.number c.args.due c.args.full
    None None (Some c.in-Some-first_job.node)
    (eqb (length (pending_at k.flight k.out k.tail)) 0) (shut_at (is_some k.cause) k.flight k.closing k.ended k.out k.body k.next)
    (none ∙ c.room_due.ensures) (rests ∙ c.first_ready.ensures) (sym c.in-Some-first_job.is ∙ c.first_job.ensures) refl refl refl

pub returns : goal.returns
unfolding wants_at
returns c = λ site.
    let k = c.args.conn.now in
    let none : None ≡ c.room_due.result = search rules in
    let rests : None ≡ c.first_ready.result = search rules in
    let unasked : None ≡ c.first_job.result = search rules in
    c.last_want.ensures
    ∙ next_is site (service_in site k.local k.peer) k.cause k.flight k.out k.tail c.pending.result.now k.journal.past.entries k.closing k.ended k.body k.buffered k.next c.args.number c.args.due c.args.full
    None None None c.is_empty.result c.is_shut.result
    (none ∙ c.room_due.ensures) (rests ∙ c.first_ready.ensures) (unasked ∙ c.first_job.ensures) c.pending.ensures c.is_empty.ensures c.is_shut.ensures
