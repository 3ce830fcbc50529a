-- A request is opened.
use Rattle.std.proofs.Common.{◌≡◌, ℕ, Bool, true, false, cond, arith, List, [], ◌∷◌, ◌++◌, Option, None, Some, refl, sym, ap, ◌∙◌, subst}
use Rattle.std.proofs.lemmas.List.{append-nil}
use Rattle.std.specs.Prelude.{not}
use Rattle.file_tree.specs.Tree.{Tree, Trees}
use Rattle.ngx_outside.specs.Views.{Start, Log}
use Rattle.req_head.specs.declared.head.Head.{Head as RequestHead}
use Rattle.site_views.specs.Views.{ServerView}
use Rattle.site_views.specs.Values.{Values}
use Rattle.site_whole.specs.Whole.{whole, server_whole}
use Rattle.pattern_search.specs.Found.{patterns_seen}
use Rattle.request_meaning.specs.Counts.{subs}
use Rattle.request_meaning.specs.Laws.{shipped}
use Rattle.request_meaning.specs.Replies.{main_reply, main_came, main_script, served}
use Rattle.request_meaning.specs.Serving.{World, is_head}
use Rattle.answers_meaning.specs.family_meaning.Flight.{Terms}
use Rattle.ngx_variables.specs.declared.request.Main.{Main}
use Rattle.ngx_variables.specs.declared.request.Request.{Request}
use Rattle.answers_meaning.specs.Asking.{Service, main_of, request_of, world_of, server_for, stated_length}
use Rattle.answers_meaning.specs.Answers.{Response, response_at, response_in, response_with, reply_in, refusal, terms_of}
use Rattle.served_site.specs.request_phases.declared.ground.Ground.{Ground}
use Rattle.served_site.specs.request_phases.Rounds.{world_in}
use Rattle.response_flow.specs.request_opening.declared.asked.Opening.{Opening}
use Rattle.response_flow.specs.access_flow.declared.flow.AccessFlow.{AccessFlow}
use Rattle.response_flow.specs.request_flow.declared.flow.Flow.{Flow}
use Rattle.std.specs.Global.{Box}
use Rattle.response_flow.specs.request_flow.Flows.{StageBy, stage_length, stage_server}
use Rattle.response_flow.specs.request_flow.declared.flow.Stage.{Stage}
use Rattle.response_flow.specs.request_flow.declared.flow.Stage.TheVariants.{Asked, Told, Reading, Came}
use Rattle.response_flow.specs.request_opening.Openings.{main_at}
use Rattle.response_flow.specs.request_flow.Terms.{terms_at}
use Rattle.response_flow.specs.request_flow.Rests.{Rest, finished, opened_rest, act_rest, closes_after, logged_by, values_by}
use Rattle.response_flow.specs.declared.flight.Flight.{Flight}
use Rattle.response_flow.specs.declared.flight.Flight.TheVariants.{Alone, Asking, Page}
use Rattle.response_flow.specs.declared.flight.PageFlow.{PageFlow}
use Rattle.response_flow.specs.declared.flight.Ran.{Ran}
use Rattle.response_flow.specs.declared.flight.Ran.TheVariants.{On, TooMany}
use Rattle.response_flow.specs.Continues.{Continues, IfOn, RunsOn, is_over}
use Rattle.response_flow.specs.Flights.{FlightReached, FlightServedBy, flight_length, flight_rest, flight_server}
use Rattle.response_flow.specs.race_meaning.Named.{IsRaceless}
use Rattle.served_site.specs.Served.{raw_server, server_numbered}
use Rattle.http_connection.specs.Rests.{AreRaceless, HasServer, ReachedIn, Serves, service_in, rest_in, world_at, values_at}
use Rattle.http_connection.specs.Steps.{Opened, OpenedTo, Refuses, is_heavy, start_in}
use Rattle.http_connection.specs.Times.{or_values, values_in}
use Rattle.http_connection.specs.declared.open.Meeting.{Meeting}

abbrev at_stage : Box Flow → Stage → Option Flight
at_stage flow stage = Some (Alone (record flow { value = record { ask = flow.value.ask; stage = stage } }))

abbrev pub rest_at : (x : Serves) (number length : ℕ) → Option Flight → Trees → Rest
rest_at x number length flight trees = flight_rest (world_at x number length) x.patterns x.served.site flight trees

abbrev pub reached_at : (x : Serves) (number length : ℕ) → Option Flight → Type 0
reached_at x number length flight = FlightReached (world_at x number length) x.patterns x.served.site flight

-- what a response in flight has still to do is by what serves it
by_stage : (x : Serves) (number length : ℕ) (flow : Box Flow) (stage : Stage) (trees : Trees) → StageBy number length stage →
    rest_in x (at_stage flow stage) trees ≡ rest_at x number length (at_stage flow stage) trees
by_stage x number length flow (Asked request wait) trees by =
    ap (λ n. rest_at x n request.value.length (at_stage flow (Asked request wait)) trees) by.0
    ∙ ap (λ l. rest_at x number l (at_stage flow (Asked request wait)) trees) by.1
by_stage x number length flow (Told request wait node) trees by =
    ap (λ n. rest_at x n request.value.length (at_stage flow (Told request wait node)) trees) by.0
    ∙ ap (λ l. rest_at x number l (at_stage flow (Told request wait node)) trees) by.1
by_stage x number length flow (Reading sending left) trees by = refl
by_stage x number length flow (Came sending left placed) trees by = refl

by_page : (x : Serves) (number length : ℕ) (p : PageFlow) (trees : Trees) → (p.server ≡ number) × (p.length ≡ length) →
    rest_in x (Some (Page p)) trees ≡ rest_at x number length (Some (Page p)) trees
by_page x number length p trees by =
    ap (λ n. rest_at x n p.length (Some (Page p)) trees) by.0 ∙ ap (λ l. rest_at x number l (Some (Page p)) trees) by.1

by_access : (x : Serves) (number length : ℕ) (f : Box AccessFlow) (trees : Trees) → (f.value.request.value.server ≡ number) × (f.value.request.value.length ≡ length) →
    rest_in x (Some (Asking f)) trees ≡ rest_at x number length (Some (Asking f)) trees
by_access x number length f trees by =
    ap (λ n. rest_at x n f.value.request.value.length (Some (Asking f)) trees) by.0 ∙ ap (λ l. rest_at x number l (Some (Asking f)) trees) by.1

pub rest_by : (x : Serves) (number length : ℕ) (flight : Option Flight) (trees : Trees) → FlightServedBy number length flight →
    rest_in x flight trees ≡ rest_at x number length flight trees
rest_by x number length None trees by = refl
rest_by x number length (Some (Alone flow)) trees by = by_stage x number length flow flow.value.stage trees by
rest_by x number length (Some (Asking f)) trees by = by_access x number length f trees by
rest_by x number length (Some (Page p)) trees by = by_page x number length p trees by

pub own_served : (flight : Flight) → FlightServedBy (flight_server flight) (flight_length flight) (Some flight)
own_served (Alone flow) = own_stage flow.value.stage
  where
    own_stage : (stage : Stage) → StageBy (stage_server stage) (stage_length stage) stage
    own_stage (Asked request wait) = (refl, refl)
    own_stage (Told request wait node) = (refl, refl)
    own_stage (Reading sending left) = tt
    own_stage (Came sending left placed) = tt
own_served (Asking f) = (refl, refl)
own_served (Page p) = (refl, refl)

-- and so is what has led to it
first_server : (x : Serves) (number : ℕ) → HasServer x number → HasServer x 0
first_server x number h = omega (arith, h)

reached_stage : (x : Serves) (number length : ℕ) (flow : Box Flow) (stage : Stage) → StageBy number length stage → HasServer x number →
    reached_at x number length (at_stage flow stage) → ReachedIn x (at_stage flow stage)
reached_stage x number length flow (Asked request wait) by h r =
    let f = at_stage flow (Asked request wait) in
    (subst (λ n. reached_at x n request.value.length f) (sym by.0) (subst (λ l. reached_at x number l f) (sym by.1) r), subst (HasServer x) (sym by.0) h)
reached_stage x number length flow (Told request wait node) by h r =
    let f = at_stage flow (Told request wait node) in
    (subst (λ n. reached_at x n request.value.length f) (sym by.0) (subst (λ l. reached_at x number l f) (sym by.1) r), subst (HasServer x) (sym by.0) h)
reached_stage x number length flow (Reading sending left) by h r = (tt, first_server x number h)
reached_stage x number length flow (Came sending left placed) by h r = (tt, first_server x number h)

pub reached_by : (x : Serves) (number length : ℕ) (flight : Option Flight) → FlightServedBy number length flight → HasServer x number → reached_at x number length flight → ReachedIn x flight
reached_by x number length None by h r = tt
reached_by x number length (Some (Alone flow)) by h r = reached_stage x number length flow flow.value.stage by h r
reached_by x number length (Some (Asking a)) by h r =
    let f : Option Flight = Some (Asking a) in
    (subst (λ n. reached_at x n a.value.request.value.length f) (sym by.0) (subst (λ l. reached_at x number l f) (sym by.1) r), subst (HasServer x) (sym by.0) h)
reached_by x number length (Some (Page p)) by h r =
    let f : Option Flight = Some (Page p) in
    (subst (λ n. reached_at x n p.length f) (sym by.0) (subst (λ l. reached_at x number l f) (sym by.1) r), subst (HasServer x) (sym by.0) h)

-- the world of a ground
pub ground_world : (x : Serves) (g : Ground) (number length : ℕ) → g.site.now ≡ x.served.site → g.server.now ≡ raw_server x.served number → g.length ≡ length →
    world_in x.patterns g shipped ≡ world_at x number length
ground_world x g number length s v l = rw s (rw v (rw l refl))

-- ---- a response before its request starts

abbrev response_rest : Response → Option Values → Rest
response_rest r values = record { bytes = r.bytes; stays = r.stays; logs = r.log ∷ []; values = values; subs = r.subs }

begins_whole : (w : World) (tree : Tree) (t : Terms) (main : Main) (request : Request) →
    opened_rest w tree t main request ≡ response_rest (response_with t (subs w tree main request) (main_reply w tree main request)) (Some (main_reply w tree main request).answer.values)
unfolding act_rest finished main_reply main_came main_script served subs
begins_whole w tree t main request = refl

main_is : (x : Serves) (g : Ground) (number : ℕ) (m : Meeting) (k : ℕ) (head : RequestHead) → g.site.now ≡ x.served.site → g.server.now ≡ raw_server x.served number →
    main_at g (record { head = head; local = m.local; peer = m.peer; moment = m.moment; tree = m.tree; before = k })
    ≡ main_of (service_in x m.local m.peer) (start_in m) (server_numbered x.patterns x.served number) head
unfolding main_at main_of server_whole whole
main_is x g number m k head s v = rw s (rw v refl)

opening_is : (x : Serves) (g : Ground) (number : ℕ) (m : Meeting) (k : ℕ) (head : RequestHead) (tree : Tree) → g.site.now ≡ x.served.site → g.server.now ≡ raw_server x.served number → g.length ≡ stated_length head.body →
    (let o : Opening = record { head = head; local = m.local; peer = m.peer; moment = m.moment; tree = m.tree; before = k } in
    opened_rest (world_in x.patterns g shipped) tree (terms_at o) (main_at g o) (request_of (server_whole (patterns_seen x.patterns) g.site.now g.server.now) head))
    ≡ (let service = service_in x m.local m.peer in
    let server = server_numbered x.patterns x.served number in
    opened_rest (world_of service server head) tree (terms_of k (start_in m) head) (main_of service (start_in m) server head) (request_of server head))
unfolding terms_of world_of
opening_is x g number m k head tree s v l =
    let o : Opening = record { head = head; local = m.local; peer = m.peer; moment = m.moment; tree = m.tree; before = k } in
    let server = server_numbered x.patterns x.served number in
    ap (λ w. opened_rest w tree (terms_at o) (main_at g o) (request_of (server_whole (patterns_seen x.patterns) g.site.now g.server.now) head)) (ground_world x g number (stated_length head.body) s v l)
    ∙ (ap (λ main. opened_rest (world_at x number (stated_length head.body)) tree (terms_at o) main (request_of (server_whole (patterns_seen x.patterns) g.site.now g.server.now) head)) (main_is x g number m k head s v)
    ∙ (ap (λ site. opened_rest (world_at x number (stated_length head.body)) tree (terms_at o) (main_of (service_in x m.local m.peer) (start_in m) server head) (request_of (server_whole (patterns_seen x.patterns) site g.server.now) head)) s
    ∙ ap (λ own. opened_rest (world_at x number (stated_length head.body)) tree (terms_at o) (main_of (service_in x m.local m.peer) (start_in m) server head) (request_of (server_whole (patterns_seen x.patterns) x.served.site own) head)) v))

answered_by : (service : Service) (trees : Trees) (k : ℕ) (start : Start) (head : RequestHead) (server : ServerView) → server_for service head ≡ Some server →
    opened_rest (world_of service server head) (trees start.tree) (terms_of k start head) (main_of service start server head) (request_of server head)
    ≡ response_rest (response_at service trees k start head) (values_in service trees start head (server_for service head))
unfolding response_at response_in reply_in
answered_by service trees k start head server e =
    begins_whole (world_of service server head) (trees start.tree) (terms_of k start head) (main_of service start server head) (request_of server head)
    ∙ ap (λ o. response_rest (response_in service (trees start.tree) k start head o) (values_in service trees start head o)) (sym e)

not_is : (b : Bool) → cond b false true ≡ not b
not_is true = refl
not_is false = refl

pub level_is : (x : Serves) (level : Option ℕ) (after : Option Values) → values_by x.served.site level after ≡ or_values (values_at x.served level) after
level_is x None after = refl
level_is x (Some number) after = refl

from_continues : (x : Serves) (trees : Trees) (m : Meeting) (k : ℕ) (head : RequestHead) (flight' : Option Flight) (out out' : List ℕ) (closing : Bool) (log : Option Log) (level : Option ℕ) (before after : Rest) →
    before ≡ response_rest (response_at (service_in x m.local m.peer) trees k (start_in m) head) (values_in (service_in x m.local m.peer) trees (start_in m) head (server_for (service_in x m.local m.peer) head)) →
    after ≡ rest_in x flight' trees → Continues x.served.site before after out out' false closing log level → Opened x trees m k head flight' out out' closing log level
from_continues x trees m k head flight' out out' closing log level before after eb ea f = record {
  put = ap (λ (r : Rest). out' ++ r.bytes) (sym ea) ∙ (f.bytes ∙ ap (λ (r : Rest). out ++ r.bytes) eb);
  closes =
      ap (λ r. closes_after r closing) (sym ea)
      ∙ (f.closes ∙ (ap (λ r. closes_after r false) eb ∙ not_is (response_at (service_in x m.local m.peer) trees k (start_in m) head).stays));
  logged = ap (λ (r : Rest). logged_by log ++ r.logs) (sym ea) ∙ (f.logged ∙ ap (λ (r : Rest). r.logs) eb);
  heavy = ap is_over (sym ea) ∙ (f.heavy ∙ ap is_over eb);
  level = ap (λ (r : Rest). or_values (values_at x.served level) r.values) (sym ea) ∙ (sym (level_is x level after.values) ∙ (f.level ∙ ap (λ (r : Rest). r.values) eb));
}

-- by a server, where this is a ground for it
module _ (x : Serves) (m : Meeting) (k : ℕ) (head : RequestHead) (g : Ground) (number : ℕ) (s : g.site.now ≡ x.served.site) (v : g.server.now ≡ raw_server x.served number) (l : g.length ≡ stated_length head.body)
    (c : Some (server_numbered x.patterns x.served number) ≡ server_for (service_in x m.local m.peer) head) (h : HasServer x number) where
  abbrev its_opening : Opening
  its_opening = record { head = head; local = m.local; peer = m.peer; moment = m.moment; tree = m.tree; before = k }

  abbrev its_world : World
  its_world = world_in x.patterns g shipped

  abbrev before_it : Trees → Rest
  before_it trees = opened_rest its_world (trees m.tree) (terms_at its_opening) (main_at g its_opening) (request_of (server_whole (patterns_seen x.patterns) g.site.now g.server.now) head)

  abbrev meant_by : Trees → Rest
  meant_by trees = response_rest (response_at (service_in x m.local m.peer) trees k (start_in m) head) (values_in (service_in x m.local m.peer) trees (start_in m) head (server_for (service_in x m.local m.peer) head))

  begins_so : (trees : Trees) → before_it trees ≡ meant_by trees
  begins_so trees = opening_is x g number m k head (trees m.tree) s v l ∙ answered_by (service_in x m.local m.peer) trees k (start_in m) head (server_numbered x.patterns x.served number) (sym c)

  quiet : AreRaceless x → IsRaceless its_world.server
  quiet raceless = subst (λ (w : World). IsRaceless w.server) (sym (ground_world x g number g.length s v refl)) (raceless number h)

  pub opened_to : (ran : Ran) (out out' : List ℕ) → IfOn ran (λ o. FlightServedBy number g.length o.flight) →
      ((trees : Trees) → IsRaceless its_world.server → RunsOn its_world x.patterns g.site.now trees (before_it trees) out out' false ran) → OpenedTo x m k head out out' ran
  opened_to (On ran) out out' by f = λ raceless trees.
      let after : Rest = flight_rest its_world x.patterns g.site.now ran.flight trees in
      from_continues x trees m k head ran.flight out out' ran.closing ran.log ran.level (before_it trees) after (begins_so trees)
      (ap (λ w. flight_rest w x.patterns g.site.now ran.flight trees) (ground_world x g number g.length s v refl)
      ∙ (ap (λ site. flight_rest (world_at x number g.length) x.patterns site ran.flight trees) s ∙ sym (rest_by x number g.length ran.flight trees by)))
      (subst (λ site. Continues site (before_it trees) after out out' false ran.closing ran.log ran.level) s (f trees (quiet raceless)))
  opened_to TooMany out out' by f = λ raceless trees. sym (ap is_over (begins_so trees)) ∙ f trees (quiet raceless)

-- the world of its ground, as it was reached
pub reached_on : (x : Serves) (g : Ground) (number length : ℕ) (flight : Option Flight) → g.site.now ≡ x.served.site → g.server.now ≡ raw_server x.served number → g.length ≡ length →
    FlightReached (world_in x.patterns g shipped) x.patterns g.site.now flight → reached_at x number length flight
reached_on x g number length flight s v l r =
    subst (λ w. FlightReached w x.patterns x.served.site flight) (ground_world x g number length s v l) (subst (λ site. FlightReached (world_in x.patterns g shipped) x.patterns site flight) s r)

pub reached_off : (x : Serves) (g : Ground) (number length : ℕ) (flight : Option Flight) → g.site.now ≡ x.served.site → g.server.now ≡ raw_server x.served number → g.length ≡ length →
    reached_at x number length flight → FlightReached (world_in x.patterns g shipped) x.patterns g.site.now flight
reached_off x g number length flight s v l r =
    subst (λ site. FlightReached (world_in x.patterns g shipped) x.patterns site flight) (sym s) (subst (λ w. FlightReached w x.patterns x.served.site flight) (sym (ground_world x g number length s v l)) r)

pub opened_reached : (x : Serves) (g : Ground) (number : ℕ) (ran : Ran) → g.site.now ≡ x.served.site → g.server.now ≡ raw_server x.served number → HasServer x number → IfOn ran (λ o. FlightServedBy number g.length o.flight) →
    IfOn ran (λ o. FlightReached (world_in x.patterns g shipped) x.patterns g.site.now o.flight) → IfOn ran (λ o. ReachedIn x o.flight)
opened_reached x g number (On o) s v h by r = reached_by x number g.length o.flight by h (reached_on x g number g.length o.flight s v refl r)
opened_reached x g number TooMany s v h by r = tt

-- the server of a ground is one of the site's, of which no variable is named
pub quiet_on : (x : Serves) (g : Ground) (number : ℕ) → g.site.now ≡ x.served.site → g.server.now ≡ raw_server x.served number → HasServer x number → AreRaceless x → IsRaceless (world_in x.patterns g shipped).server
quiet_on x g number s v h raceless = subst (λ (w : World). IsRaceless w.server) (sym (ground_world x g number g.length s v refl)) (raceless number h)

-- where no server is
pub opened_nowhere : (x : Serves) (trees : Trees) (m : Meeting) (k : ℕ) (head : RequestHead) (flight' : Option Flight) (out out' : List ℕ) (closing : Bool) (log : Option Log) (level : Option ℕ) → level ≡ None →
    None ≡ server_for (service_in x m.local m.peer) head → Refuses 404 (start_in m) (is_head head.method) flight' out out' closing log → Opened x trees m k head flight' out out' closing log level
unfolding response_at response_in refusal
opened_nowhere x trees m k head flight' out out' closing log level n c r =
    let service = service_in x m.local m.peer in
    let start = start_in m in
    let whole : response_at service trees k start head ≡ refusal 404 start (is_head head.method) = ap (response_in service (trees start.tree) k start head) (sym c) in
    record {
      put = ap (λ f. out' ++ (rest_in x f trees).bytes) r.over ∙ (append-nil out' ∙ (r.put ∙ ap (λ (w : Response). out ++ w.bytes) (sym whole)));
      closes = ap (λ f. closes_after (rest_in x f trees) closing) r.over ∙ (r.closes ∙ ap (λ (w : Response). not w.stays) (sym whole));
      logged = ap (λ f. logged_by log ++ (rest_in x f trees).logs) r.over ∙ (append-nil (logged_by log) ∙ (ap logged_by r.logged ∙ ap (λ (w : Response). w.log ∷ []) (sym whole)));
      heavy = ap (λ f. is_over (rest_in x f trees)) r.over ∙ ap is_heavy (sym whole);
      level =
          ap (λ f. or_values (values_at x.served level) (rest_in x f trees).values) r.over
          ∙ (ap (λ l. or_values (values_at x.served l) None) n ∙ ap (values_in service trees start head) c);
    }

-- ---- a response goes on

pub goes_by : (x : Serves) (g : Ground) (was : Option Flight) (flight : Flight) (number length : ℕ) (flight' : Option Flight) (out out' : List ℕ) (closing closing' : Bool) (log : Option Log) (level : Option ℕ) (trees : Trees) →
    g.site.now ≡ x.served.site → g.server.now ≡ raw_server x.served number → g.length ≡ length → was ≡ Some flight → FlightServedBy number length flight' →
    Continues g.site.now (flight_rest (world_in x.patterns g shipped) x.patterns g.site.now (Some flight) trees) (flight_rest (world_in x.patterns g shipped) x.patterns g.site.now flight' trees) out out' closing closing' log level →
    rest_at x number length (Some flight) trees ≡ rest_in x (Some flight) trees →
    Continues x.served.site (rest_in x was trees) (rest_in x flight' trees) out out' closing closing' log level
goes_by x g was flight number length flight' out out' closing closing' log level trees s v l is by f own =
    let w = ground_world x g number length s v l in
    let f' = subst (λ site. Continues site (flight_rest (world_in x.patterns g shipped) x.patterns site (Some flight) trees) (flight_rest (world_in x.patterns g shipped) x.patterns site flight' trees) out out' closing closing' log level) s f in
    let f'' = subst (λ w. Continues x.served.site (flight_rest w x.patterns x.served.site (Some flight) trees) (flight_rest w x.patterns x.served.site flight' trees) out out' closing closing' log level) w f' in
    rw is (subst (λ r. Continues x.served.site r (rest_in x flight' trees) out out' closing closing' log level) own
    (subst (λ r. Continues x.served.site (rest_at x number length (Some flight) trees) r out out' closing closing' log level) (sym (rest_by x number length flight' trees by)) f''))

-- it asks for too many subrequests
pub over_by : (x : Serves) (g : Ground) (was : Option Flight) (flight : Flight) (number length : ℕ) (trees : Trees) →
    g.site.now ≡ x.served.site → g.server.now ≡ raw_server x.served number → g.length ≡ length → was ≡ Some flight →
    is_over (flight_rest (world_in x.patterns g shipped) x.patterns g.site.now (Some flight) trees) ≡ true →
    rest_at x number length (Some flight) trees ≡ rest_in x (Some flight) trees → is_over (rest_in x was trees) ≡ true
over_by x g was flight number length trees s v l is over own =
    ap (λ f. is_over (rest_in x f trees)) is ∙ ap is_over (sym own)
    ∙ ap (λ w. is_over (flight_rest w x.patterns x.served.site (Some flight) trees)) (sym (ground_world x g number length s v l))
    ∙ ap (λ site. is_over (flight_rest (world_in x.patterns g shipped) x.patterns site (Some flight) trees)) (sym s) ∙ over

-- its job was answered
pub told_by : (x : Serves) (was : Option Flight) (flight flight' : Flight) (number length : ℕ) (out out' : List ℕ) (closing : Bool) (trees : Trees) → was ≡ Some flight → FlightServedBy number length (Some flight') →
    Continues x.served.site (rest_at x number length (Some flight) trees) (rest_at x number length (Some flight') trees) out out' closing closing None None →
    rest_at x number length (Some flight) trees ≡ rest_in x (Some flight) trees →
    Continues x.served.site (rest_in x was trees) (rest_in x (Some flight') trees) out out' closing closing None None
told_by x was flight flight' number length out out' closing trees is by f own =
    rw is (subst (λ r. Continues x.served.site r (rest_in x (Some flight') trees) out out' closing closing None None) own
    (subst (λ r. Continues x.served.site (rest_at x number length (Some flight) trees) r out out' closing closing None None) (sym (rest_by x number length (Some flight') trees by)) f))
