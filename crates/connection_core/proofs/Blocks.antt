-- A block of a file that was given to one of the connections that are held.
use Rattle.std.proofs.Common.{◌≡◌, ◌∙◌, ℕ, ◌≤◌, Bool, List, length, Option, Some, None, refl, sym, ap, subst}
use Rattle.std.specs.Borrow.{Bor}
use Rattle.file_tree.specs.Tree.{Tree, Trees}
use Rattle.file_tree.specs.declared.job.Ask.{Ask}
use Rattle.file_tree.specs.declared.job.Ask.TheVariants.{Read as AskRead}
use Rattle.file_tree.specs.declared.job.Ask.TheVariants as asks
use Rattle.file_tree.specs.declared.job.JobAnswer.TheVariants.{Read}
use Rattle.ngx_outside.specs.Records.{FileAnswer}
use Rattle.ngx_outside.specs.Seen.{CoreSeen, opens_at}
use Rattle.ngx_outside.specs.Stepped.{IsReading, Brought}
use Rattle.ngx_outside.specs.Views.{ConnView, Start, ask_in, nobody}
use Rattle.ngx_outside.specs.declared.event.Event.{Event}
use Rattle.ngx_outside.specs.declared.event.Event.TheVariants.{FileDone}
use Rattle.ngx_outside.specs.declared.event.StepAnswer.{StepAnswer}
use Rattle.http_connection.specs.response_flow.declared.flight.Flight.{Flight}
use Rattle.http_connection.specs.response_flow.Flights.{flight_tree, jobs_of}
use Rattle.http_connection.specs.declared.conn.Conn.{Conn}
use Rattle.http_connection.specs.Conn.{StepsConn}
use Rattle.http_connection.specs.Reads.{AsksWithin, BroughtConn}
use Rattle.http_connection.specs.Rests.{Serves, TellsRaceless}
use Rattle.ngx_pattern.specs.Pattern.{Pattern as SetPattern}
use Rattle.http_connection.specs.served_site.declared.served.ServedSite.{ServedSite}
use Rattle.connection_core.specs.Core.{site_terms}
use Rattle.connection_core.specs.Table.{serves_with, view_in, left_in, AllKnown, AllReached, BelongsAt, Counted, Placed, Replaced}
use Rattle.connection_core.specs.Brought.{BroughtIn}
use Rattle.connection_core.proofs.Asked.{asks_known}
use Rattle.connection_core.proofs.Ends.{own_known, known_at}
use Rattle.connection_core.proofs.Held.{Seat, seen, unseen, one_here, one_steps, one_ended, left_after}
use Rattle.connection_core.proofs.Reached.{led_at, own_reached}
use Rattle.connection_core.proofs.Steps.{steps_own, ended_own, opens_own, now_own, refused_own}

-- a job asks of no newer tree
pub asks_within : (flight : Option Flight) (node tree : ℕ) (job : Option Ask) → job ≡ ask_in (jobs_of flight) node → flight_tree flight ≤ tree → AsksWithin tree job
asks_within flight node tree None e h = tt
asks_within flight node tree (Some ask) e h = asks_known flight node tree (Some (let lent : Bor Ask = record { ref_ptr = (0, 0); now = ask } in lent)) e h

-- so of the connection at a place
pub within_at : (tree c at node : ℕ) (ids : List ℕ) (conns : List Conn) (s : Seat c at ids conns) → AllKnown tree conns → (p : Placed at conns) → AsksWithin tree (ask_in (jobs_of p.here.flight) node)
within_at tree c at node ids conns s known p =
    subst (λ (x : Conn). AsksWithin tree (ask_in (jobs_of x.flight) node)) (one_here at conns s.placed p)
    (asks_within s.placed.here.flight node tree (ask_in (jobs_of s.placed.here.flight) node) refl (known_at tree c at ids conns s known))

-- where what is shown of a connection has no such job, the one at its place has none
pub idle_at : (x : Serves) (c at node : ℕ) (ids : List ℕ) (conns : List Conn) (s : Seat c at ids conns) → (IsReading (ask_in (view_in x ids conns c).jobs node) → ⊥) → IsReading (ask_in (jobs_of s.placed.here.flight) node) → ⊥
idle_at x c at node ids conns s idle r = idle (subst (λ (v : ConnView). IsReading (ask_in v.jobs node)) (sym (seen x c at ids conns s)) r)

-- what it asks for
pub asks_at : (x : Serves) (c at node : ℕ) (ids : List ℕ) (conns : List Conn) (s : Seat c at ids conns) (job : Option Ask) → ask_in (view_in x ids conns c).jobs node ≡ job → ask_in (jobs_of s.placed.here.flight) node ≡ job
asks_at x c at node ids conns s job e = sym (ap (λ (v : ConnView). ask_in v.jobs node) (seen x c at ids conns s)) ∙ e

-- one that isn't held has no job
pub asks_none : (x : Serves) (c at node : ℕ) (ids : List ℕ) (conns : List Conn) (path : List ℕ) (start count of : ℕ) → BelongsAt c ids at → ask_in (view_in x ids conns c).jobs node ≡ Some (AskRead path start count of) → ⊥
asks_none x c at node ids conns path start count of b e =
    subst (λ (v : ConnView). IsReading (ask_in v.jobs node)) (unseen x c at ids conns b) (subst IsReading (sym e) tt)

-- what that is among all that are held
pub brought_in : (tells : Bool) (tree : Tree) (path : List ℕ) (start count c node : ℕ) (answers answers' : Option (List FileAnswer)) (moment at : ℕ) (x : Serves) (ids : List ℕ) (conns conns' : List Conn) (answer : StepAnswer) (s : Seat c at ids conns) →
    Replaced at conns (λ old new. BroughtConn tells tree path start count node answers answers' moment old new answer) s.placed conns' →
    BroughtIn tells tree path start count c node answers answers' x x ids ids conns conns' answer
brought_in tells tree path start count c node answers answers' moment at x ids conns conns' answer s r =
    let block = r.does.block in
    let steps : (now : Start) → Replaced at conns (λ old new. StepsConn x now (FileDone c node (Read block)) answer old new) s.placed conns' = λ now. record { there = r.there; does = r.does.steps x now c; whole = r.whole } in
    let now : Start = record { moment = 0; tree = 0 } in
    record {
      block = block;
      exact = r.does.exact;
      holds = r.does.holds;
      told = r.does.told;
      steps = λ now told led. one_steps x c at ids conns conns' now (FileDone c node (Read block)) answer s (steps now) told (led_at x c at ids conns s led) nobody.course;
      left = left_after x c at ids conns conns' now (FileDone c node (Read block)) answer s refl (steps now);
      ended = one_ended x c at ids conns conns' now (FileDone c node (Read block)) answer s (steps now);
      taken = (steps now).does.taken;
    }

-- of which trees the connections ask then, and that steps have led to their responses: by what came to the one at a place, or by all
-- being as they were
pub known_by : (x : Serves) (tree : ℕ) (tells : Bool) (trees : Trees) (node : ℕ) (answers answers' : Option (List FileAnswer)) (moment at : ℕ) (conns conns' : List Conn) (answer : StepAnswer) (p : Placed at conns) →
    ((path : List ℕ) (start count of : ℕ) → ask_in (jobs_of p.here.flight) node ≡ Some (AskRead path start count of) → Replaced at conns (λ old new. BroughtConn tells (trees of) path start count node answers answers' moment old new answer) p conns') →
    ((IsReading (ask_in (jobs_of p.here.flight) node) → ⊥) → conns' ≡ conns) → AllKnown tree conns → AllKnown tree conns'
known_by x tree tells trees node answers answers' moment at conns conns' answer p done skips known = by (ask_in (jobs_of p.here.flight) node) refl
  where
    now : Start
    now = record { moment = 0; tree = tree }

    by : (job : Option Ask) → ask_in (jobs_of p.here.flight) node ≡ job → AllKnown tree conns'
    by None e = subst (AllKnown tree) (sym (skips (λ r. subst IsReading e r))) known
    by (Some (asks.Stat path of)) e = subst (AllKnown tree) (sym (skips (λ r. subst IsReading e r))) known
    by (Some (asks.Read path start count of)) e =
        let r = done path start count of e in
        own_known x 0 at conns conns' now (FileDone 0 node (Read r.does.block)) answer p (record { there = r.there; does = r.does.steps x now 0; whole = r.whole }) known

pub reached_by : (x : Serves) (tells : Bool) (trees : Trees) (node : ℕ) (answers answers' : Option (List FileAnswer)) (moment at : ℕ) (conns conns' : List Conn) (answer : StepAnswer) (p : Placed at conns) →
    ((path : List ℕ) (start count of : ℕ) → ask_in (jobs_of p.here.flight) node ≡ Some (AskRead path start count of) → Replaced at conns (λ old new. BroughtConn tells (trees of) path start count node answers answers' moment old new answer) p conns') →
    ((IsReading (ask_in (jobs_of p.here.flight) node) → ⊥) → conns' ≡ conns) → AllReached x conns → AllReached x conns'
reached_by x tells trees node answers answers' moment at conns conns' answer p done skips led = by (ask_in (jobs_of p.here.flight) node) refl
  where
    now : Start
    now = record { moment = 0; tree = 0 }

    by : (job : Option Ask) → ask_in (jobs_of p.here.flight) node ≡ job → AllReached x conns'
    by None e = subst (AllReached x) (sym (skips (λ r. subst IsReading e r))) led
    by (Some (asks.Stat path of)) e = subst (AllReached x) (sym (skips (λ r. subst IsReading e r))) led
    by (Some (asks.Read path start count of)) e =
        let r = done path start count of e in
        own_reached x at conns conns' now (FileDone 0 node (Read r.does.block)) answer p (record { there = r.there; does = r.does.steps x now 0; whole = r.whole }) led

-- what a core shows, by its parts
abbrev pub seen_of : List SetPattern → ServedSite → (keeps : Bool) → (ids : List ℕ) → List Conn → (moment tree refused : ℕ) → CoreSeen
seen_of patterns served keeps ids conns moment tree refused = record {
  view = view_in (serves_with patterns served) ids conns;
  conns = ids;
  terms = site_terms served.raceless keeps patterns served.site;
  now = record { moment = moment; tree = tree };
  left = left_in conns;
  refused = refused;
  events = None;
}

-- what it keeps to
pub terms_still : (patterns : List SetPattern) (served served' : ServedSite) (keeps keeps' : Bool) → served' ≡ served → keeps' ≡ keeps → site_terms served'.raceless keeps' patterns served'.site ≡ site_terms served.raceless keeps patterns served.site
terms_still patterns served served' keeps keeps' same_served same_keeps =
    ap (λ (s : ServedSite). site_terms s.raceless keeps' patterns s.site) same_served ∙ ap (λ k. site_terms served.raceless k patterns served.site) same_keeps

-- what the core shows of it
pub brought_as : (tells : Bool) (tree : Tree) (path : List ℕ) (start count c node : ℕ) (answers answers' : Option (List FileAnswer)) (patterns : List SetPattern) (served served' : ServedSite) (keeps keeps' : Bool) (ids ids' : List ℕ) (conns conns' : List Conn) (moment newest refused refused' : ℕ) (answer : StepAnswer) →
    served' ≡ served → keeps' ≡ keeps → ids' ≡ ids → TellsRaceless (serves_with patterns served) → AllReached (serves_with patterns served) conns → Counted answer refused refused' →
    BroughtIn tells tree path start count c node answers answers' (serves_with patterns served) (serves_with patterns served') ids ids' conns conns' answer →
    Brought tells tree path start count c node answers answers' (seen_of patterns served keeps ids conns moment newest refused) (seen_of patterns served' keeps' ids' conns' moment newest refused') answer
brought_as tells tree path start count c node answers answers' patterns served served' keeps keeps' ids ids' conns conns' moment newest refused refused' answer same_served same_keeps same_ids told led counted b =
    let old = seen_of patterns served keeps ids conns moment newest refused in
    let new = seen_of patterns served' keeps' ids' conns' moment newest refused' in
    let now : Start = record { moment = moment; tree = newest } in
    let event : Event = FileDone c node (Read b.block) in
    let steps = b.steps now told led in
    record {
      block = b.block;
      exact = b.exact;
      holds = b.holds;
      told = b.told;
      step = record {
        steps = steps_own old.terms.fresh now event answer c old.view new.view refl refl steps;
        opens = opens_own (opens_at old) event answer refl;
        held = ap length same_ids;
        ended = ended_own nobody.course now event answer c old.view new.view refl refl steps b.ended;
        taken = b.taken;
        now = now_own now event answer refl;
        left = b.left;
        refused = refused_own event answer refused refused' refl counted;
        events = λ later none. cc;
        steady = terms_still patterns served served' keeps keeps' same_served same_keeps;
      };
    }
