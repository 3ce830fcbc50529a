-- Programs and the search of a location, as far as they come.
use Rattle.std.proofs.Common.{◌≡◌, ℕ, Bool, true, false, not, ◌&&◌, cond, nat_le, List, [], drop, Option, None, Some, refl, sym, ◌∙◌, ap, subst}
use Rattle.acts.specs.Vars.{Vars}
use Rattle.acts.specs.Act.{Done, ◌>>=◌, settled}
use Rattle.ngx_pattern.specs.Pattern.{Pattern as SetPattern}
use Rattle.site_model.specs.Levels.{raw_level}
use Rattle.site_model.specs.declared.site.Level.{Level}
use Rattle.site_model.specs.declared.site.Server.{Server}
use Rattle.site_model.specs.declared.site.Site.{Site}
use Rattle.request_meaning.specs.site_views.Values.{Values}
use Rattle.request_meaning.specs.site_views.Views.{LevelView}
use Rattle.request_meaning.specs.site_views.Rewrites.{Program}
use Rattle.request_meaning.specs.site_views.Search.{Found, search, named}
use Rattle.try_index.specs.site_whole.Whole.{values_seen, level_whole, server_whole}
use Rattle.request_meaning.specs.Serving.{World, Serving, Asked, Standing}
use Rattle.request_meaning.specs.Serving.From.{Start, Find, Named}
use Rattle.request_meaning.specs.Rewriting.{Passed, program_run, rewritten, in_level, with_groups}
use Rattle.request_meaning.specs.Errors.{Decided, decided}
use Rattle.request_meaning.specs.Errors.Outcome.{Fails, Gives, Text, Seeks}
use Rattle.request_meaning.specs.Phases.{after_program, find_config, located, entered, in_location, is_too_large, phases_from, at_named, standing, access}
use Rattle.family_meaning.specs.Suspended.{follows}
use Rattle.location_search.specs.pattern_search.Found.{patterns_seen, found}
use Rattle.rewrite_code.specs.Places.{standing_seen, progress_seen, ran_of}
use Rattle.rewrite_code.specs.Runs.{program_of, still, resumed}
use Rattle.rewrite_code.specs.declared.place.Progress.{Progress}
use Rattle.rewrite_code.specs.declared.place.Ending.{Ending}
use Rattle.rewrite_code.specs.declared.place.Ending.TheVariants as endings
use Rattle.rewrite_code.specs.declared.place.RunStep.TheVariants.{Ended, Test}
use Rattle.request_phases.specs.Programs.{ended_as, moved_into, ran_in, run_in, refused_in, entered_at}
use Rattle.filter_api.specs.Members.{Member}
use Rattle.file_tree.specs.Tree.{Item}
use Rattle.site_model.specs.declared.program.RewriteStep.{RewriteStep}
use Rattle.request_meaning.specs.site_views.Pattern.{Span, groups_in}
use Rattle.rewrite_code.specs.declared.place.RunStep.{RunStep}
use Rattle.location_search.specs.Found.{found_seen}
use Rattle.location_search.specs.declared.search.FoundLocation.{FoundLocation}
use Rattle.request_phases.specs.declared.ground.Ground.{Ground}
use Rattle.request_phases.specs.Rounds.{told_in, reached_in, decision_seen, world_in}
use Rattle.request_phases.specs.declared.state.Wait.TheVariants as waits
use Rattle.request_phases.specs.declared.state.Decision.{Decision}
use Rattle.request_phases.specs.declared.state.Decision.TheVariants as decisions
use Rattle.request_phases.specs.declared.state.Reached.TheVariants.{Waits, Decides}
use Rattle.request_phases.proofs.Acts.{in_turn}

-- ---- what a program's end decides

module _ (site : Site) (at : Progress) (bytes : List ℕ) (srv : Bool) (k : Passed → Serving Decided) where
  abbrev after : Ending → Serving Decided
  after ending = after_program srv (ran_of site at ending) k

  abbrev answer : Decision → Serving Decided
  answer d = Done (decided (standing_seen site at) (decision_seen bytes d))

  same_decision : {d e : Decision} → Some d ≡ Some e → answer e ≡ answer d
  same_decision e = ap (λ (o : Option Decision). answer (elim o [ None ↦ decisions.Close | Some d ↦ d ])) (sym e)

  bare_code : (code : ℕ) → after (endings.Status code None) ≡ answer (cond (nat_le 400 code) (decisions.Error code) (decisions.Text code []))
  bare_code code =
      elim (nat_le 400 code) as (λ b. Done (decided (standing_seen site at) (cond b (Fails code) (Text code []))) ≡ answer (cond b (decisions.Error code) (decisions.Text code [])))
      [ true ↦ refl | false ↦ refl ]

  failed_as : (leading : Bool) → after (endings.Failed leading) ≡ answer (cond (srv && leading) (decisions.Page 500) (decisions.Error 500))
  failed_as leading =
      elim (srv && leading) as (λ b. Done (decided (standing_seen site at) (cond b (Gives 500) (Fails 500))) ≡ answer (cond b (decisions.Page 500) (decisions.Error 500)))
      [ true ↦ refl | false ↦ refl ]

  ends_as : (ending : Ending) (d : Decision) → Some d ≡ ended_as srv ending → after ending ≡ answer d
  ends_as endings.End d e = absurd (let P : ⊥ = cc in P)
  ends_as (endings.Status code (Some text)) d e = same_decision e
  ends_as (endings.Status code None) d e = bare_code code ∙ same_decision e
  ends_as (endings.Redirect code to) d e = same_decision e
  ends_as endings.Close d e = same_decision e
  ends_as (endings.Failed leading) d e = failed_as leading ∙ same_decision e

  ends_on : (ending : Ending) → None ≡ ended_as srv ending → after ending ≡ k (progress_seen site at)
  ends_on endings.End e = refl
  ends_on (endings.Status code (Some text)) e = absurd (let P : ⊥ = cc in P)
  ends_on (endings.Status code None) e = absurd (let P : ⊥ = cc in P)
  ends_on (endings.Redirect code to) e = absurd (let P : ⊥ = cc in P)
  ends_on endings.Close e = absurd (let P : ⊥ = cc in P)
  ends_on (endings.Failed leading) e = absurd (let P : ⊥ = cc in P)

-- ---- as far as a program came

module _ (w : World) (a : Asked) (patterns : List SetPattern) (site : Site) (level : ℕ) where
  pub ran_asks : (bytes : List ℕ) (vars : Vars) (at : Progress) (path : List ℕ) (place : ℕ) (srv : Bool) →
      settled (ran_in w a patterns site level at (Test path place) srv) vars ≡ (reached_in w patterns site a bytes at (Waits (waits.Test level place srv) path), vars)
  unfolding ran_in told_in settled ◌>>=◌
  ran_asks bytes vars at path place srv = refl

  pub ran_decides : (bytes : List ℕ) (vars : Vars) (at : Progress) (ending : Ending) (srv : Bool) (d : Decision) → Some d ≡ ended_as srv ending →
      settled (ran_in w a patterns site level at (Ended ending) srv) vars ≡ (reached_in w patterns site a bytes at (Decides d), vars)
  unfolding ran_in settled ◌>>=◌
  ran_decides bytes vars at ending srv d e = ap (λ m. settled m vars) (ends_as site at bytes srv (follows w a srv) ending d e)

  ran_follows : (vars : Vars) (at : Progress) (ending : Ending) (srv : Bool) → None ≡ ended_as srv ending →
      settled (ran_in w a patterns site level at (Ended ending) srv) vars ≡ settled (follows w a srv (progress_seen site at)) vars
  unfolding ran_in ◌>>=◌
  ran_follows vars at ending srv e = ap (λ m. settled m vars) (ends_on site at [] srv (follows w a srv) ending e)

  pub ran_seeks : (bytes : List ℕ) (vars : Vars) (at : Progress) (ending : Ending) → None ≡ ended_as false ending → at.seeks ≡ true →
      settled (ran_in w a patterns site level at (Ended ending) false) vars ≡ (reached_in w patterns site a bytes at (Decides decisions.Seek), vars)
  unfolding settled
  ran_seeks bytes vars at ending e s =
      ran_follows vars at ending false e ∙ ap (λ b. settled (cond b (Done (decided (standing_seen site at) Seeks)) (access a (standing_seen site at))) vars) s

  pub ran_enters : {x : Serving Decided × Vars} (vars : Vars) (at : Progress) (ending : Ending) → None ≡ ended_as false ending → at.seeks ≡ false →
      settled (access a (standing_seen site at)) vars ≡ x → settled (ran_in w a patterns site level at (Ended ending) false) vars ≡ x
  ran_enters vars at ending e s h =
      ran_follows vars at ending false e
      ∙ (ap (λ b. settled (cond b (Done (decided (standing_seen site at) Seeks)) (access a (standing_seen site at))) vars) s ∙ h)

  pub ran_finds : {x : Serving Decided × Vars} (vars : Vars) (at : Progress) (ending : Ending) → None ≡ ended_as true ending →
      settled (find_config w a (standing_seen site at)) vars ≡ x → settled (ran_in w a patterns site level at (Ended ending) true) vars ≡ x
  ran_finds vars at ending e h = ran_follows vars at ending true e ∙ h

  -- a program that was run up to there
  pub runs_on : {x : Serving Decided × Vars} (old new : Vars) (from at : Progress) (step : RunStep) (srv : Bool) →
      settled (program_run w a.main (program_of patterns site (raw_level site level).program) (standing_seen site from)) old
      ≡ (still w a.main site (program_of patterns site (raw_level site level).program) at step, new) →
      settled (ran_in w a patterns site level at step srv) new ≡ x → settled (run_in w a patterns site level from srv) old ≡ x
  unfolding ran_in run_in
  runs_on old new from at step srv e h =
      in_turn (program_run w a.main (program_of patterns site (raw_level site level).program) (standing_seen site from))
      (still w a.main site (program_of patterns site (raw_level site level).program) at step) (λ r. after_program srv r (follows w a srv)) old new e ∙ h

  pub runs_by : {x : Serving Decided × Vars} (steps : List RewriteStep) → steps ≡ (raw_level site level).program → (old new : Vars) (from at : Progress) (step : RunStep) (srv : Bool) →
      settled (program_run w a.main (program_of patterns site steps) (standing_seen site from)) old
      ≡ (still w a.main site (program_of patterns site steps) at step, new) →
      settled (ran_in w a patterns site level at step srv) new ≡ x → settled (run_in w a patterns site level from srv) old ≡ x
  runs_by steps e old new from at step srv h g =
      runs_on old new from at step srv (subst (λ s. settled (program_run w a.main (program_of patterns site s) (standing_seen site from)) old ≡ (still w a.main site (program_of patterns site s) at step, new)) e h) g

  -- one that was resumed
  pub resumes_on : {x : Serving Decided × Vars} (old new : Vars) (from at : Progress) (step : RunStep) (srv : Bool) (place : ℕ) (item : Item) →
      settled (resumed w a.main (drop place (program_of patterns site (raw_level site level).program)) (progress_seen site from) item) old
      ≡ (still w a.main site (program_of patterns site (raw_level site level).program) at step, new) →
      settled (ran_in w a patterns site level at step srv) new ≡ x → settled (told_in w patterns site a from (waits.Test level place srv) item) old ≡ x
  unfolding ran_in told_in
  resumes_on old new from at step srv place item e h =
      in_turn (resumed w a.main (drop place (program_of patterns site (raw_level site level).program)) (progress_seen site from) item)
      (still w a.main site (program_of patterns site (raw_level site level).program) at step) (λ r. after_program srv r (follows w a srv)) old new e ∙ h

  pub resumes_by : {x : Serving Decided × Vars} (steps : List RewriteStep) → steps ≡ (raw_level site level).program → (old new : Vars) (from at : Progress) (step : RunStep) (srv : Bool) (place : ℕ) (item : Item) →
      settled (resumed w a.main (drop place (program_of patterns site steps)) (progress_seen site from) item) old
      ≡ (still w a.main site (program_of patterns site steps) at step, new) →
      settled (ran_in w a patterns site level at step srv) new ≡ x → settled (told_in w patterns site a from (waits.Test level place srv) item) old ≡ x
  resumes_by steps e old new from at step srv place item h g =
      resumes_on old new from at step srv place item (subst (λ s. settled (resumed w a.main (drop place (program_of patterns site s)) (progress_seen site from) item) old ≡ (still w a.main site (program_of patterns site s) at step, new)) e h) g

-- ---- levels

-- why a level turns a request away, as it was found out
pub refused_by : (w : World) (site : Site) (number : ℕ) (at next : Progress) (l : Level) (len : ℕ) (r : Option ℕ) → l ≡ raw_level site number → next ≡ moved_into site number at → w.length ≡ len →
    ((w' : World) (values : Values) → w'.length ≡ len → values.internal ≡ l.internal → values.body_most ≡ l.body_most → r ≡ refused_in w' values next.request next.inside) →
    r ≡ refused_in w (values_seen site (raw_level site number)) at.request at.inside
unfolding values_seen
refused_by w site number at next l len r e m same judged =
    let v = values_seen site (raw_level site number) in
    judged w v same (ap (λ (l : Level). l.internal) (sym e)) (ap (λ (l : Level). l.body_most) (sym e)) ∙ ap (λ (p : Progress). refused_in w v p.request p.inside) m

module _ (w : World) (a : Asked) (patterns : List SetPattern) (site : Site) (bytes : List ℕ) where
  turned_away : (b c : Bool) (s : Standing) (values : Values) (k : Serving Decided) (code : ℕ) → ◌≡◌ {A = Option ℕ} (Some code) (cond b (Some 404) (cond c (Some 413) None)) →
      cond b (Done (decided (in_level values s) (Fails 404))) (cond c (Done (decided (in_level values s) (Fails 413))) k) ≡ Done (decided (in_level values s) (Fails code))
  turned_away true c s values k code e = ap (λ (o : Option ℕ). Done (decided (in_level values s) (Fails (elim o [ None ↦ 0 | Some n ↦ n ])))) (sym e)
  turned_away false true s values k code e = ap (λ (o : Option ℕ). Done (decided (in_level values s) (Fails (elim o [ None ↦ 0 | Some n ↦ n ])))) (sym e)
  turned_away false false s values k code e = absurd (let P : ⊥ = cc in P)

  comes_in : (b c : Bool) (s : Standing) (values : Values) (k : Serving Decided) → ◌≡◌ {A = Option ℕ} None (cond b (Some 404) (cond c (Some 413) None)) →
      cond b (Done (decided (in_level values s) (Fails 404))) (cond c (Done (decided (in_level values s) (Fails 413))) k) ≡ k
  comes_in true c s values k e = absurd (let P : ⊥ = cc in P)
  comes_in false true s values k e = absurd (let P : ⊥ = cc in P)
  comes_in false false s values k e = refl

  -- a level turns a request away, or lets it go on
  level_refuses : (vars : Vars) (number : ℕ) (at : Progress) (k : Serving Decided) (code : ℕ) → Some code ≡ refused_in w (values_seen site (raw_level site number)) at.request at.inside →
      settled (entered w a (values_seen site (raw_level site number)) (standing_seen site at) k) vars ≡ (reached_in w patterns site a bytes (moved_into site number at) (Decides (decisions.Error code)), vars)
  unfolding entered values_seen settled
  level_refuses vars number at k code e =
      let v = values_seen site (raw_level site number) in
      ap (λ m. settled m vars) (turned_away (v.internal && not at.inside) (is_too_large w at.request v) (standing_seen site at) v k code e)

  level_admits : (vars : Vars) (number : ℕ) (at : Progress) (k : Serving Decided) → None ≡ refused_in w (values_seen site (raw_level site number)) at.request at.inside →
      settled (entered w a (values_seen site (raw_level site number)) (standing_seen site at) k) vars ≡ settled k vars
  unfolding entered
  level_admits vars number at k e =
      let v = values_seen site (raw_level site number) in
      ap (λ m. settled m vars) (comes_in (v.internal && not at.inside) (is_too_large w at.request v) (standing_seen site at) v k e)

  pub location_refuses : (vars : Vars) (number : ℕ) (at : Progress) (code : ℕ) → Some code ≡ refused_in w (values_seen site (raw_level site number)) at.request at.inside →
      settled (entered_at w a patterns site number at) vars ≡ (reached_in w patterns site a bytes (moved_into site number at) (Decides (decisions.Error code)), vars)
  unfolding entered_at level_whole
  location_refuses vars number at code e = level_refuses vars number at (in_location w a (level_whole (patterns_seen patterns) site number) (standing_seen site at)) code e

  -- a location's program is run in its level
  location_runs : (number : ℕ) (at : Progress) →
      in_location w a (level_whole (patterns_seen patterns) site number) (standing_seen site at) ≡ run_in w a patterns site number (moved_into site number at) false
  unfolding in_location run_in level_whole values_seen
  location_runs number at = refl

  pub location_admits : {x : Serving Decided × Vars} (vars : Vars) (number : ℕ) (at : Progress) → None ≡ refused_in w (values_seen site (raw_level site number)) at.request at.inside →
      settled (run_in w a patterns site number (moved_into site number at) false) vars ≡ x → settled (entered_at w a patterns site number at) vars ≡ x
  unfolding entered_at level_whole
  location_admits vars number at e h =
      level_admits vars number at (in_location w a (level_whole (patterns_seen patterns) site number) (standing_seen site at)) e
      ∙ (ap (λ m. settled m vars) (location_runs number at) ∙ h)

  module _ (server : Server) (is : w.server ≡ server_whole (patterns_seen patterns) site server) where
    abbrev own : ℕ
    own = server.level

    server_values : w.server.level.values ≡ values_seen site (raw_level site own)
    unfolding server_whole level_whole
    server_values = ap (λ s. s.level.values) is

    pub server_refuses : (vars : Vars) (at : Progress) (code : ℕ) → Some code ≡ refused_in w (values_seen site (raw_level site own)) at.request at.inside →
        settled (located w a (standing_seen site at) None) vars ≡ (reached_in w patterns site a bytes (moved_into site own at) (Decides (decisions.Error code)), vars)
    unfolding located
    server_refuses vars at code e =
        ap (λ v. settled (entered w a v (standing_seen site at) (access a (in_level v (standing_seen site at)))) vars) server_values
        ∙ level_refuses vars own at (access a (in_level (values_seen site (raw_level site own)) (standing_seen site at))) code e

    pub server_admits : {x : Serving Decided × Vars} (vars : Vars) (at : Progress) → None ≡ refused_in w (values_seen site (raw_level site own)) at.request at.inside →
        settled (access a (standing_seen site (moved_into site own at))) vars ≡ x → settled (located w a (standing_seen site at) None) vars ≡ x
    unfolding located values_seen
    server_admits vars at e h =
        ap (λ v. settled (entered w a v (standing_seen site at) (access a (in_level v (standing_seen site at)))) vars) server_values
        ∙ (level_admits vars own at (access a (in_level (values_seen site (raw_level site own)) (standing_seen site at))) e ∙ h)

    server_program : w.server.level.program ≡ program_of patterns site (raw_level site own).program
    unfolding server_whole level_whole
    server_program = ap (λ s. s.level.program) is

    abbrev begun : Progress → Asked
    begun at = record a { request = at.request; inside = at.inside }

    pub begins : {x : Serving Decided × Vars} (vars : Vars) (at : Progress) →
        settled (run_in w (begun at) patterns site own (moved_into site own at) true) vars ≡ x →
        settled (phases_from w (begun at) Start) vars ≡ x
    unfolding phases_from run_in values_seen
    begins vars at h =
        ap (λ v. settled (program_run w a.main w.server.level.program (standing (begun at) v) >>= λ r. after_program true r (follows w (begun at) true)) vars) server_values
        ∙ (ap (λ (p : Program). settled (program_run w a.main p (standing (begun at) (values_seen site (raw_level site own))) >>= λ r. after_program true r (follows w (begun at) true)) vars) server_program ∙ h)

    -- the search of a location looks at no level
    same_place : (v : Values) (s : Standing) (b : Asked) (level : LevelView) (groups : Option (List (List ℕ))) →
        (let s' = in_level v s in entered w b level.values (record s' { request = with_groups groups s'.request }) (in_location w b level (record s' { request = with_groups groups s'.request })))
        ≡ entered w b level.values (record s { request = with_groups groups s.request }) (in_location w b level (record s { request = with_groups groups s.request }))
    unfolding entered in_location
    same_place v s b level None = refl
    same_place v s b level (Some groups) = refl

    same_found : (v : Values) (s : Standing) (b : Asked) (o : Option Found) → located w b (in_level v s) o ≡ located w b s o
    unfolding located entered
    same_found v s b None = refl
    same_found v s b (Some found) = same_place v s b found.level found.groups

    -- where the server has no program, a location is sought at once
    pub begins_bare : {x : Serving Decided × Vars} (vars : Vars) (at : Progress) → (raw_level site own).program ≡ [] →
        settled (find_config w (begun at) (standing_seen site at)) vars ≡ x →
        settled (phases_from w (begun at) Start) vars ≡ x
    unfolding phases_from find_config located program_run rewritten values_seen ◌>>=◌
    begins_bare vars at bare h =
        ap (λ v. settled (program_run w a.main w.server.level.program (standing (begun at) v) >>= λ r. after_program true r (λ p. find_config w (begun at) p.at)) vars) server_values
        ∙ (ap (λ (p : Program). settled (program_run w a.main p (standing (begun at) (values_seen site (raw_level site own))) >>= λ r. after_program true r (λ q. find_config w (begun at) q.at)) vars) (server_program ∙ ap (program_of patterns site) bare)
        ∙ (ap (λ m. settled m vars) (same_found (values_seen site (raw_level site own)) (standing_seen site at) (begun at) (search w.finds w.server.locations at.request.path)) ∙ h))

    pub seeks_again : {x : Serving Decided × Vars} (vars : Vars) (at : Progress) →
        settled (find_config w (begun at) (standing_seen site (moved_into site own at))) vars ≡ x →
        settled (phases_from w (begun at) Find) vars ≡ x
    unfolding phases_from values_seen
    seeks_again vars at h = ap (λ v. settled (find_config w (begun at) (standing (begun at) v)) vars) server_values ∙ h

    pub named_nowhere : (vars : Vars) (at : Progress) (name : List ℕ) → None ≡ named w.server name →
        settled (phases_from w (begun at) (Named (standing_seen site at).values name)) vars ≡ (reached_in w patterns site (begun at) bytes (moved_into site at.level at) (Decides (decisions.Error 500)), vars)
    unfolding phases_from values_seen settled
    named_nowhere vars at name e = ap (λ l. settled (at_named w (begun at) (standing_seen site at).values l) vars) (sym e)

    pub named_there : {x : Serving Decided × Vars} (vars : Vars) (at : Progress) (name : List ℕ) (number : ℕ) →
        Some (level_whole (patterns_seen patterns) site number) ≡ named w.server name →
        settled (run_in w (begun at) patterns site number (moved_into site number at) false) vars ≡ x →
        settled (phases_from w (begun at) (Named (standing_seen site at).values name)) vars ≡ x
    unfolding phases_from in_location run_in level_whole values_seen
    named_there vars at name number e h =
        ap (λ l. settled (at_named w (begun at) (standing_seen site at).values l) vars) (sym e) ∙ h

-- ---- the search of a location

module _ (patterns : List SetPattern) (g : Ground) (members : List Member) (a : Asked) where
  abbrev world : World
  world = world_in patterns g members

  abbrev sought : Progress → Option Found
  sought at = search found (server_whole (patterns_seen patterns) g.site.now g.server.now).locations at.request.path

  pub finds_none : {x : Serving Decided × Vars} (vars : Vars) (at : Progress) → None ≡ sought at →
      settled (located world a (standing_seen g.site.now at) None) vars ≡ x → settled (find_config world a (standing_seen g.site.now at)) vars ≡ x
  unfolding find_config
  finds_none vars at e h = ap (λ o. settled (located world a (standing_seen g.site.now at) o) vars) (sym e) ∙ h

  pub finds_some : {x : Serving Decided × Vars} (vars : Vars) (at : Progress) (f : FoundLocation) (spans : List Span) →
      Some (found_seen (patterns_seen patterns) g.site.now at.request.path spans f) ≡ sought at →
      settled (entered_at world a patterns g.site.now f.level (record at { request = with_groups (cond f.matched (Some (groups_in at.request.path spans)) None) at.request })) vars ≡ x →
      settled (find_config world a (standing_seen g.site.now at)) vars ≡ x
  unfolding find_config located entered_at
  finds_some vars at f spans e h = ap (λ o. settled (located world a (standing_seen g.site.now at) o) vars) (sym e) ∙ h
