-- A response in flight goes on.
use Rattle.std.proofs.Common.{◌≡◌, ℕ, Bool, true, List, Option, None, Some, refl, sym, subst}
use Rattle.std.proofs.Math.Logic.{∥∥₁_elim, ∥∥₁_map}
use Rattle.std.proofs.Props.{props}
use Rattle.file_tree.specs.Tree.{Trees}
use Rattle.std.specs.Prelude.{is_some}
use Rattle.file_tree.specs.declared.job.Ask.{Ask}
use Rattle.ngx_outside.specs.Views.{Log, ask_in}
use Rattle.site_model.specs.declared.site.Site.{Site}
use Rattle.request_meaning.specs.Laws.{shipped}
use Rattle.served_site.specs.request_phases.declared.ground.Ground.{Ground}
use Rattle.served_site.specs.request_phases.Rounds.{world_in}
use Rattle.response_flow.specs.race_meaning.Named.{IsRaceless}
use Rattle.response_flow.specs.request_flow.Rests.{Rest}
use Rattle.response_flow.specs.declared.flight.Flight.{Flight}
use Rattle.response_flow.specs.declared.flight.Onward.{Onward}
use Rattle.response_flow.specs.declared.flight.Ran.{Ran}
use Rattle.response_flow.specs.declared.flight.Ran.TheVariants.{On, TooMany}
use Rattle.response_flow.specs.Continues.{Continues, IfOn, RunsOn, is_over}
use Rattle.ngx_pattern.specs.Pattern.{Pattern as SetPattern}
use Rattle.request_meaning.specs.Serving.{World}
use Rattle.response_flow.specs.Flights.{FlightReached, FlightServedBy, flight_length, flight_rest, flight_server, jobs_of}
use Rattle.served_site.specs.Served.{raw_server}
use Rattle.http_connection.specs.Rests.{AreRaceless, IsReachedIn, ReachedIn, Serves, TellsRaceless, rest_in, world_of}
use Rattle.http_connection.proofs.Moves.{Keeps, keeps_prop}
use Rattle.http_connection.proofs.Opens.{goes_by, over_by, quiet_on, reached_by, reached_off, reached_on, rest_at, told_by}

keeps_of : (site : Site) (before after : Rest) (out out' : List ℕ) (closing closing' : Bool) (log : Option Log) (level : Option ℕ) → Continues site before after out out' closing closing' log level → Keeps before after out out' closing closing' log
keeps_of site before after out out' closing closing' log level c = (c.bytes, (c.closes, (c.logged, c.heavy)))

-- its job was answered
pub told_keeps : (x : Serves) (was : Option Flight) (flight flight' : Flight) (is' : Option Flight) (out out' : List ℕ) (closing : Bool) (trees : Trees) → was ≡ Some flight → Some flight' ≡ is' → FlightServedBy (flight_server flight) (flight_length flight) (Some flight') →
    (FlightReached (world_of x flight) x.patterns x.served.site (Some flight) → Continues x.served.site (rest_in x (Some flight) trees) (rest_at x (flight_server flight) (flight_length flight) (Some flight') trees) out out' closing closing None None) →
    IsReachedIn x was → Keeps (rest_in x was trees) (rest_in x is' trees) out out' closing closing None
told_keeps x was flight flight' is' out out' closing trees is p by goes led =
    ∥∥₁_elim led (keeps_prop (rest_in x was trees) (rest_in x is' trees) out out' closing closing None) (λ (r : ReachedIn x was).
    keeps_of x.served.site _ _ out out' closing closing None None (subst (λ f. Continues x.served.site (rest_in x was trees) (rest_in x f trees) out out' closing closing None None) p
    (told_by x was flight flight' (flight_server flight) (flight_length flight) out out' closing trees is by (goes (subst (ReachedIn x) is r).0) refl)))

pub told_reached : (x : Serves) (was : Option Flight) (flight flight' : Flight) (is' : Option Flight) → was ≡ Some flight → Some flight' ≡ is' → FlightServedBy (flight_server flight) (flight_length flight) (Some flight') →
    (FlightReached (world_of x flight) x.patterns x.served.site (Some flight) → FlightReached (world_of x flight) x.patterns x.served.site (Some flight')) → IsReachedIn x was → IsReachedIn x is'
told_reached x was flight flight' is' is p by goes led =
    ∥∥₁_map led (λ (r : ReachedIn x was). let a = subst (ReachedIn x) is r in subst (ReachedIn x) p (reached_by x (flight_server flight) (flight_length flight) (Some flight') by a.1 (goes a.0)))

-- what has a job that waits is in flight; and what is in flight is there
pub flies_by : (was : Option Flight) (node : ℕ) (job : Ask) → ask_in (jobs_of was) node ≡ Some job → (flight : Flight) × (was ≡ Some flight)
flies_by None node job e = cc
flies_by (Some flight) node job e = (flight, refl)

pub flight_of : (is : Option Flight) → is_some is ≡ true → (flight : Flight) × (Some flight ≡ is)
flight_of None e = cc
flight_of (Some flight) e = (flight, refl)

-- its job was answered in its place
pub told_in_place : (x : Serves) (was : Option Flight) (flight told : Flight) (is' : Option Flight) (out out' : List ℕ) (closing : Bool) (trees : Trees) → was ≡ Some flight → Some told ≡ is' →
    (FlightReached (world_of x flight) x.patterns x.served.site was → Continues x.served.site (flight_rest (world_of x flight) x.patterns x.served.site was trees) (flight_rest (world_of x flight) x.patterns x.served.site is' trees) out out' closing closing None None) →
    FlightReached (world_of x flight) x.patterns x.served.site (Some flight) → Continues x.served.site (rest_in x (Some flight) trees) (rest_at x (flight_server flight) (flight_length flight) (Some told) trees) out out' closing closing None None
told_in_place x was flight told is' out out' closing trees is p h reached =
    let w = world_of x flight in
    let site = x.served.site in
    subst (λ f. Continues site (flight_rest w x.patterns site (Some flight) trees) (flight_rest w x.patterns site f trees) out out' closing closing None None) (sym p)
    (subst (λ f. FlightReached w x.patterns site f → Continues site (flight_rest w x.patterns site f trees) (flight_rest w x.patterns site is' trees) out out' closing closing None None) is h reached)

-- what became of a response that ran
pub on_by : (P : Onward → Type 0) (ran : Ran) (o : Onward) → ran ≡ On o → IfOn ran P → P o
on_by P ran o is h = subst (λ r. IfOn r P) is h

pub on_runs : (w : World) (patterns : List SetPattern) (site : Site) (trees : Trees) (before : Rest) (out out' : List ℕ) (closing : Bool) (ran : Ran) (o : Onward) → ran ≡ On o → RunsOn w patterns site trees before out out' closing ran →
    Continues site before (flight_rest w patterns site o.flight trees) out out' closing o.closing o.log o.level
on_runs w patterns site trees before out out' closing ran o is h = subst (RunsOn w patterns site trees before out out' closing) is h

pub over_runs : (w : World) (patterns : List SetPattern) (site : Site) (trees : Trees) (before : Rest) (out out' : List ℕ) (closing : Bool) (ran : Ran) → ran ≡ TooMany → RunsOn w patterns site trees before out out' closing ran → is_over before ≡ true
over_runs w patterns site trees before out out' closing ran is h = subst (RunsOn w patterns site trees before out out' closing) is h

-- what ran in its place, said of the flight that was there
pub runs_of : (w : World) (patterns : List SetPattern) (site : Site) (trees : Trees) (was : Option Flight) (flight : Flight) (out out' : List ℕ) (closing : Bool) (ran : Ran) → was ≡ Some flight →
    (FlightReached w patterns site was → RunsOn w patterns site trees (flight_rest w patterns site was trees) out out' closing ran) →
    FlightReached w patterns site (Some flight) → RunsOn w patterns site trees (flight_rest w patterns site (Some flight) trees) out out' closing ran
runs_of w patterns site trees was flight out out' closing ran is h =
    subst (λ f. FlightReached w patterns site f → RunsOn w patterns site trees (flight_rest w patterns site f trees) out out' closing ran) is h

-- A node runs over a ground, which is that of the response's server.
pub record Runs (x : Serves) (g : Ground) (was : Option Flight) (flight : Flight) : Type 0 where
  pub is : was ≡ Some flight
  pub site : g.site.now ≡ x.served.site
  pub server : g.server.now ≡ raw_server x.served (flight_server flight)
  pub size : g.length ≡ flight_length flight

-- as much is still to come
ran_on : (x : Serves) (g : Ground) (was : Option Flight) (flight : Flight) (flight' : Option Flight) (out out' : List ℕ) (closing closing' : Bool) (log : Option Log) (level : Option ℕ) (trees : Trees) → Runs x g was flight → FlightServedBy (flight_server flight) (flight_length flight) flight' →
    (IsRaceless (world_in x.patterns g shipped).server → FlightReached (world_in x.patterns g shipped) x.patterns g.site.now (Some flight) →
    Continues g.site.now (flight_rest (world_in x.patterns g shipped) x.patterns g.site.now (Some flight) trees) (flight_rest (world_in x.patterns g shipped) x.patterns g.site.now flight' trees) out out' closing closing' log level) →
    AreRaceless x → ReachedIn x was → Continues x.served.site (rest_in x was trees) (rest_in x flight' trees) out out' closing closing' log level
ran_on x g was flight flight' out out' closing closing' log level trees a by goes raceless led =
    let r = subst (ReachedIn x) a.is led in
    goes_by x g was flight (flight_server flight) (flight_length flight) flight' out out' closing closing' log level trees a.site a.server a.size a.is by
    (goes (quiet_on x g (flight_server flight) a.site a.server r.1 raceless) (reached_off x g (flight_server flight) (flight_length flight) (Some flight) a.site a.server a.size r.0)) refl

pub ran_level : (x : Serves) (g : Ground) (was : Option Flight) (flight : Flight) (o : Onward) (is' : Option Flight) (out out' : List ℕ) (closing : Bool) (trees : Trees) → o.flight ≡ is' → Runs x g was flight → FlightServedBy (flight_server flight) (flight_length flight) o.flight →
    (IsRaceless (world_in x.patterns g shipped).server → FlightReached (world_in x.patterns g shipped) x.patterns g.site.now (Some flight) →
    Continues g.site.now (flight_rest (world_in x.patterns g shipped) x.patterns g.site.now (Some flight) trees) (flight_rest (world_in x.patterns g shipped) x.patterns g.site.now o.flight trees) out out' closing o.closing o.log o.level) →
    AreRaceless x → ReachedIn x was → Continues x.served.site (rest_in x was trees) (rest_in x is' trees) out out' closing o.closing o.log o.level
ran_level x g was flight o is' out out' closing trees p a by goes raceless led =
    subst (λ f. Continues x.served.site (rest_in x was trees) (rest_in x f trees) out out' closing o.closing o.log o.level) p
    (ran_on x g was flight o.flight out out' closing o.closing o.log o.level trees a by goes raceless led)

pub ran_keeps : (x : Serves) (g : Ground) (was : Option Flight) (flight : Flight) (o : Onward) (is' : Option Flight) (out out' : List ℕ) (closing : Bool) (trees : Trees) → o.flight ≡ is' → Runs x g was flight → FlightServedBy (flight_server flight) (flight_length flight) o.flight →
    (IsRaceless (world_in x.patterns g shipped).server → FlightReached (world_in x.patterns g shipped) x.patterns g.site.now (Some flight) →
    Continues g.site.now (flight_rest (world_in x.patterns g shipped) x.patterns g.site.now (Some flight) trees) (flight_rest (world_in x.patterns g shipped) x.patterns g.site.now o.flight trees) out out' closing o.closing o.log o.level) →
    TellsRaceless x → IsReachedIn x was → x.served.raceless ≡ true → Keeps (rest_in x was trees) (rest_in x is' trees) out out' closing o.closing o.log
ran_keeps x g was flight o is' out out' closing trees p a by goes tells led told =
    ∥∥₁_elim led (keeps_prop (rest_in x was trees) (rest_in x is' trees) out out' closing o.closing o.log) (λ (r : ReachedIn x was).
    keeps_of x.served.site _ _ out out' closing o.closing o.log o.level (ran_level x g was flight o is' out out' closing trees p a by goes (tells told) r))

pub ran_reached : (x : Serves) (g : Ground) (was : Option Flight) (flight : Flight) (flight' is' : Option Flight) → flight' ≡ is' → Runs x g was flight → FlightServedBy (flight_server flight) (flight_length flight) flight' →
    (FlightReached (world_in x.patterns g shipped) x.patterns g.site.now (Some flight) → FlightReached (world_in x.patterns g shipped) x.patterns g.site.now flight') → IsReachedIn x was → IsReachedIn x is'
ran_reached x g was flight flight' is' p a by goes led =
    ∥∥₁_map led (λ (r : ReachedIn x was). let b = subst (ReachedIn x) a.is r in
    subst (ReachedIn x) p (reached_by x (flight_server flight) (flight_length flight) flight' by b.1
    (reached_on x g (flight_server flight) (flight_length flight) flight' a.site a.server a.size
    (goes (reached_off x g (flight_server flight) (flight_length flight) (Some flight) a.site a.server a.size b.0)))))

-- it asks for too many subrequests
bool_prop : (a b : Bool) → IsProp (a ≡ b)
bool_prop a b = hlevel props

pub ran_over : (x : Serves) (g : Ground) (was : Option Flight) (flight : Flight) (trees : Trees) → Runs x g was flight →
    (IsRaceless (world_in x.patterns g shipped).server → FlightReached (world_in x.patterns g shipped) x.patterns g.site.now (Some flight) →
    is_over (flight_rest (world_in x.patterns g shipped) x.patterns g.site.now (Some flight) trees) ≡ true) →
    TellsRaceless x → IsReachedIn x was → x.served.raceless ≡ true → is_over (rest_in x was trees) ≡ true
ran_over x g was flight trees a goes tells led told =
    ∥∥₁_elim led (bool_prop (is_over (rest_in x was trees)) true) (λ (r : ReachedIn x was). let b = subst (ReachedIn x) a.is r in
    over_by x g was flight (flight_server flight) (flight_length flight) trees a.site a.server a.size a.is
    (goes (quiet_on x g (flight_server flight) a.site a.server b.1 (tells told)) (reached_off x g (flight_server flight) (flight_length flight) (Some flight) a.site a.server a.size b.0)) refl)
