-- What became of each link that was served.
use Rattle.std.proofs.Common.{◌≡◌, ℕ, ◌≤◌, Bool, true, false, ◌&&◌, ◌||◌, List, [], ◌∷◌, ◌++◌, map, flat_map, None, refl, sym, ap, ◌∙◌, subst, arith}
use Rattle.std.specs.Prelude.{is_none}
use Rattle.ngx_outside.specs.Causes.{Rose}
use Rattle.ngx_outside.specs.Linked.{LinkView}
use Rattle.ngx_outside.specs.Views.{ConnView, Course, IsSound, is_idle, is_live, no_bytes, no_nodes, no_jobs}
use Rattle.ngx_outside.specs.Runs.{AllIsSentWhenIdle, ShutIsExact}
use Rattle.ngx_outside.specs.declared.event.StopCause.{StopCause}
use Rattle.ngx_outside.specs.declared.event.StopCause.TheVariants as stop
use Rattle.ngx_outside.specs.Seen.{FilesSeen, Terms}
use Rattle.link_service.specs.Seen.{Tick}
use Rattle.link_service.specs.Passing.{Behind}
use Rattle.ready_loop.specs.Laws.{ClosedUnendedSentAll, ClosedUnstoppedSentAll}
use Rattle.link_service.specs.Standing.{Account, Reason, NobodyAnswers, NoPlaceLeft, NoMemory, Stands, Unused, TurnedAway, Open, Closed}
use Rattle.ready_loop.specs.Turns.{AtRest}
use Rattle.http_types.specs.declared.words.Addr.{Addr}
use Rattle.site_model.specs.declared.site.Server.{Server}
use Rattle.ngx_pattern.specs.Pattern.{Pattern as SetPattern}
use Rattle.pattern_search.specs.Found.{patterns_seen}
use Rattle.site_model.specs.declared.site.Site.{Site}
use Rattle.site_views.specs.Views.{ListenView}
use Rattle.site_whole.specs.Whole.{whole, server_whole, listen_seen}
use Rattle.connection_core.specs.http_connection.Conn.{fresh_course}
use Rattle.connection_core.specs.Core.{site_terms}
use Rattle.site_service.specs.Ends.{each_once}
use Rattle.site_service.specs.Serving.{Outside, Became, addresses_of, addresses, fresh_at}
use Rattle.site_service.specs.Serving.Became.{TurnedAway as WasTurnedAway, Served}

-- a count that rose since a moment rose since an earlier one
rose_since : (before later now : ℕ) → before ≤ later → Rose later now → Rose before now
rose_since before later now le rose = omega arith

pub never : {A : Type 0} (b : Bool) → b ≡ true → b ≡ false → A
never true e f = absurd (let g : true ≡ false = f in cc)
never false e f = absurd (let g : false ≡ true = e in cc)

-- where neither holds the second doesn't
second : (a b : Bool) → (a || b) ≡ false → b ≡ false
second true b e = cc
second false b e = e

-- what a cause comes of, by something weaker
weaker : {L F R H L' F' R' H' : Type 0} (T : Type 0) → (L → L') → (F → F') → (R → R') → (H → H') → (cause : StopCause) → Behind L F R H T cause → Behind L' F' R' H' T cause
weaker T l f r h stop.LinkFault b = l b
weaker T l f r h stop.FileFault b = f b
weaker T l f r h stop.Memory b = r b
weaker T l f r h (stop.SubLimit started) b = h b
weaker T l f r h (stop.Deadline due now) b = b

-- an account, whatever its cause comes of
bare : {L F R : Type 0} {whole : Course} {files : FilesSeen} {ticks : List Tick} {v : ConnView} {came went : List ℕ} {found_end : Bool} → Account L F R whole files ticks v came went found_end →
    Account (Unit {0}) (Unit {0}) (Unit {0}) whole files ticks v came went found_end
bare a = record { tracked = a.tracked; cause = λ cause e. weaker _ (λ l. tt) (λ f. tt) (λ r. tt) (λ h. h) cause (a.cause cause e); dated = a.dated; ends = a.ends }

-- one that is at rest has written all that is pending, unless its link is full
written : (heard : Type 0) (v : ConnView) (l : LinkView) → AtRest heard (Unit {0}) v l → l.full ≡ false → v.pending ≡ []
written heard v l r room = go v.pending refl
  where
    go : (bytes : List ℕ) → v.pending ≡ bytes → v.pending ≡ []
    go [] e = e
    go (b ∷ bytes) e = never l.full (r.written tt (λ none. (let f : b ∷ bytes ≡ [] = sym e ∙ none in cc))) room

idle : (v : ConnView) → is_live v ≡ true → v.pending ≡ [] → v.ready ≡ [] → v.jobs ≡ [] → is_idle v ≡ true
idle v live pending ready jobs =
    ap (λ t. t && no_bytes v.pending && no_nodes v.ready && no_jobs v.jobs) live
    ∙ ap (λ x. true && no_bytes x && no_nodes v.ready && no_jobs v.jobs) pending
    ∙ ap (λ x. true && true && no_nodes x && no_jobs v.jobs) ready
    ∙ ap (λ x. true && true && true && no_jobs x) jobs

live : (v : ConnView) → v.held ≡ true → v.cause ≡ None → is_live v ≡ true
live v held none = ap (λ t. t && is_none v.cause) held ∙ ap (λ c. true && is_none c) none

reason_since : {R R' : Type 0} (terms : Terms) (l : LinkView) → (R → R') → Reason R terms l → Reason R' terms l
reason_since terms l r (NobodyAnswers h) = NobodyAnswers h
reason_since terms l r (NoPlaceLeft h) = NoPlaceLeft h
reason_since terms l r (NoMemory h) = NoMemory (r h)

pub became : AllIsSentWhenIdle → ShutIsExact → ClosedUnstoppedSentAll → ClosedUnendedSentAll → (raceless : Bool) (patterns : List SetPattern) (site : Site) (o : Outside) (rests : Type 0) (ticks : List Tick) (before id : ℕ) (v : ConnView) → IsSound v →
    (rests → v.held ≡ true → AtRest (Unit {0}) (Unit {0}) v (o.links'.link id)) → o.links'.used id ≡ true →
    Stands (Rose (o.links.link_faults id) (o.links'.link_faults id)) (Rose o.files.faults o.files'.faults) (Rose before o.links'.refused) (site_terms raceless false patterns site) (fresh_course raceless patterns site) o.files' ticks v (o.links'.link id) (o.links'.used id) (o.links'.is_open id) →
    Became raceless patterns site o rests ticks id
became idle_sent shut_exact closed_sent unended_sent raceless patterns site o rests ticks before id v sound at used (Unused held shut unused) = never (o.links'.used id) used unused
became idle_sent shut_exact closed_sent unended_sent raceless patterns site o rests ticks before id v sound at used (TurnedAway held shut taken sent why) = WasTurnedAway shut taken sent (reason_since (site_terms raceless false patterns site) (o.links'.link id) (rose_since 0 before o.links'.refused (omega arith)) why)
became idle_sent shut_exact closed_sent unended_sent raceless patterns site o rests ticks before id v sound at used (Open held is a) = Served (record {
  last = v;
  sound = sound;
  front = λ quiet trees agree. a.tracked.front quiet trees agree;
  closed = λ quiet none shut. never (o.links'.is_open id) is shut;
  unended = λ quiet none shut. never (o.links'.is_open id) is shut;
  rested = λ quiet none was resting room trees agree later.
      let r : AtRest (Unit {0}) (Unit {0}) v (o.links'.link id) = at resting held in
      idle_sent (fresh_at raceless patterns site o id) o.files'.trees o.files'.newest v (o.links'.link id).taken (o.links'.link id).sent a.tracked sound
      (idle v (live v held none) (written (Unit {0}) v (o.links'.link id) r room) r.ready r.jobs) quiet trees agree later;
  stays = λ quiet none was resting room trees agree later.
      let r : AtRest (Unit {0}) (Unit {0}) v (o.links'.link id) = at resting held in
      second (v.ended) _
      (sym (shut_exact (fresh_at raceless patterns site o id) o.files'.trees o.files'.newest v (o.links'.link id).taken (o.links'.link id).sent a.tracked sound
      (idle v (live v held none) (written (Unit {0}) v (o.links'.link id) r room) r.ready r.jobs) quiet trees agree later) ∙ r.shut);
  read = λ none was resting room.
      let r : AtRest (Unit {0}) (Unit {0}) v (o.links'.link id) = at resting held in
      r.read tt (sound.reads (idle v (live v held none) (written (Unit {0}) v (o.links'.link id) r room) r.ready r.jobs) r.shut);
  stopped = λ cause e. weaker ((fresh_at raceless patterns site o id).timed ≡ true) (λ l. l) (λ f. f) (rose_since 0 before o.links'.refused (omega arith)) (λ h. h) cause (a.cause cause e);
  dated = a.dated;
  shut = λ cause e resting. never v.shut (sound.stopped cause held e) (at resting held).shut;
  left = λ resting was. at resting held;
})
became idle_sent shut_exact closed_sent unended_sent raceless patterns site o rests ticks before id v sound at used (Closed last held shut sound' closing a) = Served (record {
  last = last;
  sound = sound';
  front = λ quiet trees agree. a.tracked.front quiet trees agree;
  closed = λ quiet none is trees agree later.
      closed_sent (fresh_at raceless patterns site o id) o.files' ticks last (o.links'.link id).taken (o.links'.link id).sent (o.links'.link id).ended (bare a) sound' closing none quiet trees agree later;
  unended = λ quiet none is unended trees agree more later.
      let whole : Course = fresh_at raceless patterns site o id in
      unended_sent whole o.files' ticks last (o.links'.link id).taken (o.links'.link id).sent
      (subst (λ t. Account (Unit {0}) (Unit {0}) (Unit {0}) whole o.files' ticks last (o.links'.link id).taken (o.links'.link id).sent t) unended (bare a)) sound' closing none quiet trees agree more later;
  rested = λ quiet none was resting room. never (o.links'.is_open id) was shut;
  stays = λ quiet none was resting room. never (o.links'.is_open id) was shut;
  read = λ none was resting room. never (o.links'.is_open id) was shut;
  stopped = λ cause e. weaker ((fresh_at raceless patterns site o id).timed ≡ true) (λ l. l) (λ f. f) (rose_since 0 before o.links'.refused (omega arith)) (λ h. h) cause (a.cause cause e);
  dated = a.dated;
  shut = λ cause e resting. shut;
  left = λ resting was. never (o.links'.is_open id) was shut;
})

-- nothing is left to do, where links tell and none was open before
pub at_rest : (heard : Type 0) (tells : Type 0) (v : ConnView) (l : LinkView) → heard → tells → AtRest heard tells v l → AtRest (Unit {0}) (Unit {0}) v l
at_rest heard tells v l h t r = record { ready = r.ready; jobs = r.jobs; shut = r.shut; read = λ u room. r.read h room; written = λ u some. r.written t some }

-- the addresses of servers are those that their meaning sees
seen_addresses : (defaults all : List Addr) → all ≡ map (λ (l : ListenView). l.addr) (map (listen_seen defaults) all)
seen_addresses defaults [] = refl
seen_addresses defaults (a ∷ all) = ap (λ l. a ∷ l) (seen_addresses defaults all)

listened_by : (patterns : List SetPattern) (site : Site) (servers : List Server) → flat_map (λ r. r.listens) servers ≡ flat_map addresses_of (map (server_whole (patterns_seen patterns) site) servers)
unfolding server_whole
listened_by patterns site [] = refl
listened_by patterns site (r ∷ servers) = ap (λ l. r.listens ++ l) (listened_by patterns site servers) ∙ ap (λ l. l ++ flat_map addresses_of (map (server_whole (patterns_seen patterns) site) servers)) (seen_addresses r.defaults r.listens)

pub listened : (patterns : List SetPattern) (site : Site) → each_once (flat_map (λ r. r.listens) site.servers.items) ≡ addresses patterns site
unfolding whole
listened patterns site = ap each_once (listened_by patterns site site.servers.items)
