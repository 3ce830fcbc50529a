use Rattle.std.proofs.Common.{◌≡◌, ℕ, List, [], Option, None, false, refl, sym, subst}
use Rattle.http_types.specs.declared.words.Addr.{Addr}
use Rattle.ngx_outside.specs.Views.{Fresh}
use Rattle.ngx_outside.specs.declared.event.Entry.{Entry}
use Rattle.req_head.specs.declared.head.HeadStep.{HeadStep}
use Rattle.response_flow.specs.Flights.{shown_kept}
use Rattle.response_flow.specs.request_flow.Flows.{shown_most}
use Rattle.answers_meaning.specs.Answers.{responses, any_over}
use Rattle.http_connection.specs.Steps.{logged_in}
use Rattle.http_connection.specs.Conn.{fresh_course, until, view_at}
use Rattle.http_connection.specs.Rests.{Serves, service_in}
use Rattle.http_connection.proofs.Tails.{fresh_tail}
use Rattle.http_connection.proofs.conn.Conn.new.Goals as goal

pub invariant_of-result-clause-tailed : goal.invariant_of-result-clause-tailed
invariant_of-result-clause-tailed c = fresh_tail _

-- a connection on which nothing is kept, buffered or started
fresh_as : (x : Serves) (local peer : Addr) (next : HeadStep) (due : Option ℕ) (out buffered : List ℕ) (journal : List Entry) → out ≡ [] → buffered ≡ [] → journal ≡ [] →
    Fresh (fresh_course x.served.raceless x.patterns x.served.site local peer) (until due (view_at x (service_in x local peer) None None out 0 journal false false None buffered next))
unfolding shown_kept shown_most responses logged_in any_over
fresh_as x local peer next due out buffered journal o b j =
    subst (λ (l : List ℕ). Fresh (fresh_course x.served.raceless x.patterns x.served.site local peer) (until due (view_at x (service_in x local peer) None None l 0 journal false false None buffered next))) (sym o)
    (subst (λ (l : List ℕ). Fresh (fresh_course x.served.raceless x.patterns x.served.site local peer) (until due (view_at x (service_in x local peer) None None [] 0 journal false false None l next))) (sym b)
    (subst (λ (l : List Entry). Fresh (fresh_course x.served.raceless x.patterns x.served.site local peer) (until due (view_at x (service_in x local peer) None None [] 0 l false false None [] next))) (sym j) (record {
      live = refl;
      pending = search;
      starts = refl;
      logs = refl;
      comes = search;
      ended = refl;
      raceless = refl;
    })))

pub returns-clause-fresh : goal.returns-clause-fresh
returns-clause-fresh c = λ x. fresh_as x c.args.local c.args.peer c.in_ok-next.next _ c.new.result c.new-buffered.result c.new-2.result.past.entries c.new.ensures c.new-buffered.ensures c.new-2.ensures.past
