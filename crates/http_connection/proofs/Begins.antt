-- Requests that start.
use Rattle.std.proofs.Common.{◌≡◌, ◌≤◌, arith, ◌||◌, ℕ, Bool, true, false, cond, List, [], length-drop, drop, Option, None, Some, refl, sym, ap, subst}
use Rattle.std.specs.Prelude.{is_some, not, length}
use Rattle.body_frame.specs.Outcome.{Short}
use Rattle.body_frame.specs.State.{body_of}
use Rattle.body_frame.specs.declared.state.BodyState.{BodyState}
use Rattle.file_tree.specs.Tree.{Trees}
use Rattle.ngx_outside.specs.Views.{Start, Log}
use Rattle.req_head.specs.declared.head.Head.{Head as RequestHead}
use Rattle.req_head.specs.declared.head.HeadStep.{HeadStep}
use Rattle.req_head.specs.declared.head.HeadStep.TheVariants.{More, Head, Bad}
use Rattle.response_flow.specs.declared.flight.Flight.{Flight}
use Rattle.response_flow.specs.declared.flight.Onward.{Onward}
use Rattle.response_flow.specs.declared.flight.Ran.{Ran}
use Rattle.response_flow.specs.declared.flight.Ran.TheVariants.{On, TooMany}
use Rattle.answers_meaning.specs.Asking.{Service}
use Rattle.http_connection.specs.Rests.{AreRaceless, Serves, service_in}
use Rattle.http_connection.specs.Steps.{Drops, Opened, OpenedTo, Refuses, RanOne, RanOver, is_heavy, rest_of, start_in}
use Rattle.answers_meaning.specs.Answers.{response_at}
use Rattle.http_connection.specs.declared.open.Meeting.{Meeting}

-- whether the connection closes after a response whose body was broken or not
broken_by : (s closed broken stays : Bool) → cond s closed true ≡ not stays → cond s (closed || broken) true ≡ cond stays broken true
broken_by true true broken true e = cc
broken_by true true broken false e = refl
broken_by true false broken true e = refl
broken_by true false broken false e = cc
broken_by false closed broken true e = cc
broken_by false closed broken false e = refl

pub opened_on : (x : Serves) (m : Meeting) (k : ℕ) (head : RequestHead) (out out' : List ℕ) (ran : Ran) (o : Onward) → ran ≡ On o → OpenedTo x m k head out out' ran →
    AreRaceless x → (trees : Trees) → Opened x trees m k head o.flight out out' o.closing o.log o.level
opened_on x m k head out out' ran o is h = subst (OpenedTo x m k head out out') is h

pub opened_over : (x : Serves) (m : Meeting) (k : ℕ) (head : RequestHead) (out out' : List ℕ) (ran : Ran) → ran ≡ TooMany → OpenedTo x m k head out out' ran →
    AreRaceless x → (trees : Trees) → is_heavy (response_at (service_in x m.local m.peer) trees k (start_in m) head) ≡ true
opened_over x m k head out out' ran is h = subst (OpenedTo x m k head out out') is h

pub ran_head : (x : Serves) (m : Meeting) (k : ℕ) (head : RequestHead) (size : ℕ) (next : HeadStep) (buffered buffered' : List ℕ) (body : Option BodyState) (flow' : Option Flight) (out out' : List ℕ) (closed broken : Bool) (log : Option Log) (level : Option ℕ) →
    next ≡ Head head size → (AreRaceless x → (trees : Trees) → Opened x trees m k head flow' out out' closed log level) → is_some log ≡ not (is_some flow') → Drops (body_of head.body) (drop size buffered) body buffered' broken →
    RanOne x (service_in x m.local m.peer) (start_in m) k next buffered buffered' body flow' out out' (closed || broken) log
ran_head x m k head size next buffered buffered' body flow' out out' closed broken log level n o over d =
    subst (λ s. RanOne x (service_in x m.local m.peer) (start_in m) k s buffered buffered' body flow' out out' (closed || broken) log) (sym n) (record {
      broken = broken;
      says = λ raceless trees. (let a = o raceless trees in record {
        put = a.put;
        closes = broken_by _ closed broken _ a.closes;
        logged = a.logged;
        heavy = a.heavy;
      });
      over = over;
      drops = d;
    })

pub ran_over_head : (x : Serves) (m : Meeting) (k : ℕ) (head : RequestHead) (size : ℕ) (next : HeadStep) → next ≡ Head head size →
    (AreRaceless x → (trees : Trees) → is_heavy (response_at (service_in x m.local m.peer) trees k (start_in m) head) ≡ true) → RanOver x (service_in x m.local m.peer) (start_in m) k next
ran_over_head x m k head size next n o = subst (RanOver x (service_in x m.local m.peer) (start_in m) k) (sym n) o

pub ran_bad : (x : Serves) (service : Service) (start : Start) (k code : ℕ) (no_body : Bool) (next : HeadStep) (buffered : List ℕ) (flow' : Option Flight) (out out' : List ℕ) (closing : Bool) (log : Option Log) →
    next ≡ Bad code no_body → Refuses code start no_body flow' out out' closing log → RanOne x service start k next buffered buffered None flow' out out' closing log
ran_bad x service start k code no_body next buffered flow' out out' closing log n r =
    subst (λ s. RanOne x service start k s buffered buffered None flow' out out' closing log) (sym n)
    (record { put = r.put; stands = refl; bodiless = refl; over = r.over; logged = r.logged; closes = r.closes })

never : {A : Type 0} (b : Option BodyState) → b ≡ None → is_some b ≡ true → A
never None e f = cc
never (Some state) e f = cc

-- no more is buffered after a request that was started
pub ran_few : (x : Serves) (service : Service) (start : Start) (k : ℕ) (next : HeadStep) (buffered buffered' : List ℕ) (body : Option BodyState) (flow : Option Flight) (out out' : List ℕ) (closing : Bool) (log : Option Log) → length buffered ≤ 8192 → RanOne x service start k next buffered buffered' body flow out out' closing log → length buffered' ≤ 8192
ran_few x service start k (Head head size) buffered buffered' body flow out out' closing log few r = let a = r.drops.shorter in let b = length-drop size buffered in omega (arith, few, a, b)
ran_few x service start k (Bad code no_body) buffered buffered' body flow out out' closing log few r = let a = ap length r.stands in omega (arith, few, a)
ran_few x service start k More buffered buffered' body flow out out' closing log few r = absurd r

-- what is buffered after a request that was started
pub ran_drained : (x : Serves) (service : Service) (start : Start) (k : ℕ) (next : HeadStep) (buffered buffered' : List ℕ) (body : Option BodyState) (flow : Option Flight) (out out' : List ℕ) (closing : Bool) (log : Option Log) → RanOne x service start k next buffered buffered' body flow out out' closing log → is_some body ≡ true → buffered' ≡ []
ran_drained x service start k (Head head size) buffered buffered' body flow out out' closing log r h = r.drops.drained h
ran_drained x service start k (Bad code no_body) buffered buffered' body flow out out' closing log r h = never body r.bodiless h
ran_drained x service start k More buffered buffered' body flow out out' closing log r h = absurd r

pub ran_unended : (x : Serves) (service : Service) (start : Start) (k : ℕ) (next : HeadStep) (buffered buffered' : List ℕ) (body : Option BodyState) (flow : Option Flight) (out out' : List ℕ) (closing : Bool) (log : Option Log) → RanOne x service start k next buffered buffered' body flow out out' closing log → is_some body ≡ true → rest_of body [] ≡ Short
ran_unended x service start k (Head head size) buffered buffered' body flow out out' closing log r h = r.drops.unended h
ran_unended x service start k (Bad code no_body) buffered buffered' body flow out out' closing log r h = never body r.bodiless h
ran_unended x service start k More buffered buffered' body flow out out' closing log r h = absurd r
