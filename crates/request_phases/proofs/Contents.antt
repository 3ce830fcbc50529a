-- The content phases, as far as they come.
use Rattle.std.proofs.Common.{◌≡◌, ℕ, true, false, cond, List, Option, None, Some, option_map, Bor, refl, sym, ◌∙◌, ap}
use Rattle.std.proofs.lemmas.Bool.{cond-true, cond-false}
use Rattle.acts.specs.Vars.{Vars}
use Rattle.acts.specs.Act.{Done, Stat, ◌>>=◌, settled, settled_then}
use Rattle.acts.proofs.ActLaws.{settles_in_turn}
use Rattle.file_tree.specs.Tree.{Item, Nothing, node_of}
use Rattle.request_meaning.specs.file_path.Located.{Located, located_at}
use Rattle.request_meaning.specs.file_path.Located.Located.{TooLong, NotThere, At}
use Rattle.http_types.specs.declared.words.Method.{Method}
use Rattle.http_types.specs.declared.words.Method.TheVariants.{Get, Head, Post, Other}
use Rattle.ngx_pattern.specs.Pattern.{Pattern as SetPattern}
use Rattle.ngx_variables.specs.declared.request.Main.{Main}
use Rattle.site_model.specs.Levels.{raw_level}
use Rattle.site_model.specs.declared.site.Site.{Site}
use Rattle.site_model.specs.declared.site.Level.{Level}
use Rattle.site_model.specs.declared.values.Tries.{Tries}
use Rattle.access_rules.specs.declared.rule.Rule.{Rule}
use Rattle.try_index.specs.site_whole.Whole.{values_seen, index_at, tries_seen, rules_at}
use Rattle.request_meaning.specs.site_views.Values.{IndexName, Values}
use Rattle.static_content.specs.Content.{content_for, refusal_of}
use Rattle.request_meaning.specs.site_views.Rewrites.FileTest.{IsFolder}
use Rattle.request_meaning.specs.Serving.{World, Serving, Asked, Standing}
use Rattle.request_meaning.specs.Rewriting.{passes, is_redirect}
use Rattle.request_meaning.specs.Errors.{Outcome, Decided, decided}
use Rattle.request_meaning.specs.Errors.Outcome.{Fails}
use Rattle.request_meaning.specs.Contents.{item, item_at, with_item, fails, file, no_index, content_outcome, content, by_method, indexed, ends_in_slash, last_code, tried, by_tries, precontent}
use Rattle.request_meaning.specs.Access as access
use Rattle.request_meaning.specs.Access.{verdict}
use Rattle.request_meaning.specs.Phases.{by_verdict}
use Rattle.family_meaning.specs.Suspended.{heard_verdict}
use Rattle.try_index.specs.Searches.{IsAt, try_told, try_left, index_told, index_left}
use Rattle.try_index.specs.declared.tries.TryState.{TryState}
use Rattle.try_index.specs.declared.tries.TryStep.TheVariants as steps
use Rattle.try_index.specs.declared.index.IndexState.{IndexState}
use Rattle.try_index.specs.declared.index.IndexStep.TheVariants as turns
use Rattle.try_index.specs.target_text.Settled.{ItemSettles}
use Rattle.rewrite_code.specs.Places.{standing_seen}
use Rattle.rewrite_code.specs.declared.place.Progress.{Progress}
use Rattle.request_phases.specs.Located.{last_word}
use Rattle.request_phases.specs.Rounds.{told_in, reached_in, decision_seen, tries_told}
use Rattle.request_phases.specs.Verdicts.{verdict_act, guarded_act}
use Rattle.request_phases.specs.declared.access.Verdict.{Verdict}
use Rattle.request_phases.specs.declared.access.Verdict.TheVariants as judged
use Rattle.request_phases.specs.declared.state.Decision.{Decision}
use Rattle.request_phases.specs.declared.state.Reached.TheVariants as Reached
use Rattle.request_phases.specs.declared.state.Wait.TheVariants as waits
use Rattle.request_phases.specs.declared.state.Decision.TheVariants as decisions
use Rattle.request_phases.specs.declared.state.Reached.TheVariants.{Waits, Decides}

-- the last word of `try_files`
pub word_seen : (bytes : List ℕ) (code : ℕ) → decision_seen bytes (last_word code) ≡ last_code code
word_seen bytes code =
    elim (is_redirect code) as (λ b. decision_seen bytes (cond b (decisions.Redirect code None) (decisions.Error code)) ≡ cond b (Outcome.Moves code None) (Fails code))
    [ true ↦ refl | false ↦ refl ]

-- a method that files are served to is told that none is there
unrefused : (m : Method) → refusal_of m ≡ None → content_for (node_of Nothing) m false ≡ content_for (node_of Nothing) Get false
unfolding content_for
unrefused Get e = refl
unrefused Head e = refl
unrefused Post e = refl
unrefused (Other name) e = absurd (let P : ⊥ = cc in P)

module _ (items : ItemSettles) (main : Main) (vars : Vars) (s : Standing) where
  behind_item : (uri : List ℕ) (k : Option Item → Serving Decided) (l : Located) → l ≡ located_at main s.request vars s.values.place uri →
      settled (item main s uri >>= k) vars ≡ settled_then (item_at l) vars k
  behind_item uri k l e =
      settles_in_turn (item main s uri) k vars
      ∙ ap (λ m. settled_then m.0 m.1 k) (items main s vars uri ∙ ap (λ l. (item_at l, vars)) (sym e))

  item_nowhere : (uri : List ℕ) (k : Item → Serving Decided) → NotThere ≡ located_at main s.request vars s.values.place uri →
      settled (item main s uri >>= λ i. with_item s i k) vars ≡ settled (k Nothing) vars
  unfolding settled_then
  item_nowhere uri k e = behind_item uri (λ i. with_item s i k) NotThere e

  item_unfit : (uri : List ℕ) (k : Item → Serving Decided) → TooLong ≡ located_at main s.request vars s.values.place uri →
      settled (item main s uri >>= λ i. with_item s i k) vars ≡ (Done (decided s (Fails 500)), vars)
  unfolding settled_then settled
  item_unfit uri k e = behind_item uri (λ i. with_item s i k) TooLong e

  item_there : (uri path : List ℕ) (k : Item → Serving Decided) → At path ≡ located_at main s.request vars s.values.place uri →
      settled (item main s uri >>= λ i. with_item s i k) vars ≡ (Stat path k, vars)
  unfolding settled_then settled ◌>>=◌
  item_there uri path k e = behind_item uri (λ i. with_item s i k) (At path) e

-- what was judged of a level
pub judged_by : (site : Site) (at : Progress) (main : Main) (l : Level) (list : List Rule) (v : Verdict) → l ≡ raw_level site at.level → list ≡ rules_at site l.rules →
    ((main' : Main) (values : Values) → main'.peer.ip ≡ main.peer.ip → values.rules ≡ list → values.any ≡ l.any → values.auth ≡ l.auth → verdict main' values ≡ verdict_act main' values v) →
    verdict main (standing_seen site at).values ≡ verdict_act main (standing_seen site at).values v
unfolding values_seen
judged_by site at main l list v e is judged =
    judged main (standing_seen site at).values refl (ap (λ (l : Level). rules_at site l.rules) (sym e) ∙ sym is) (ap (λ (l : Level). l.any) (sym e)) (ap (λ (l : Level). l.auth) (sym e))

module _ (items : ItemSettles) (w : World) (patterns : List SetPattern) (site : Site) (a : Asked) (bytes : List ℕ) (vars : Vars) (at : Progress) where
  abbrev there : Standing
  there = standing_seen site at

  abbrev is_at : Located → Type 0
  is_at l = l ≡ located_at a.main at.request vars (raw_level site at.level).place at.request.path

  pub file_there : (path : List ℕ) → is_at (At path) → settled (file a.main there) vars ≡ (reached_in w patterns site a bytes at (Waits waits.File path), vars)
  unfolding values_seen file told_in
  file_there path e =
      item_there items a.main vars there at.request.path path (λ i. Done (decided there (content_outcome at.request i (content_for (node_of i) at.request.method false)))) e

  pub file_unfit : is_at TooLong → settled (file a.main there) vars ≡ (reached_in w patterns site a bytes at (Decides (decisions.Error 500)), vars)
  unfolding values_seen file
  file_unfit e = item_unfit items a.main vars there at.request.path (λ i. Done (decided there (content_outcome at.request i (content_for (node_of i) at.request.method false)))) e

  pub file_nowhere : refusal_of at.request.method ≡ None → is_at NotThere → settled (file a.main there) vars ≡ (reached_in w patterns site a bytes at (Decides (decisions.Error 404)), vars)
  unfolding values_seen file settled content_for
  file_nowhere free e =
      item_nowhere items a.main vars there at.request.path (λ i. Done (decided there (content_outcome at.request i (content_for (node_of i) at.request.method false)))) e
      ∙ ap (λ c. settled (Done (decided there (content_outcome at.request Nothing c))) vars) (unrefused at.request.method free)

  pub folder_there : (path : List ℕ) → is_at (At path) → settled (no_index a.main there) vars ≡ (reached_in w patterns site a bytes at (Waits waits.Folder path), vars)
  unfolding values_seen no_index told_in
  folder_there path e = item_there items a.main vars there at.request.path path (λ i. fails there (cond (passes IsFolder i) 403 404)) e

  pub folder_unfit : is_at TooLong → settled (no_index a.main there) vars ≡ (reached_in w patterns site a bytes at (Decides (decisions.Error 500)), vars)
  unfolding values_seen no_index
  folder_unfit e = item_unfit items a.main vars there at.request.path (λ i. fails there (cond (passes IsFolder i) 403 404)) e

  pub folder_nowhere : is_at NotThere → settled (no_index a.main there) vars ≡ (reached_in w patterns site a bytes at (Decides (decisions.Error 404)), vars)
  unfolding values_seen no_index settled
  folder_nowhere e = item_nowhere items a.main vars there at.request.path (λ i. fails there (cond (passes IsFolder i) 403 404)) e

module _ (w : World) (patterns : List SetPattern) (site : Site) (a : Asked) (bytes : List ℕ) (vars : Vars) (at : Progress) where
  abbrev here : Standing
  here = standing_seen site at

  -- a decision
  pub decides : (act : Serving Decided) {o : Outcome} (d : Decision) → settled act vars ≡ settled (Done (decided here o)) vars → o ≡ decision_seen bytes d →
      settled act vars ≡ (reached_in w patterns site a bytes at (Decides d), vars)
  unfolding settled
  decides act d h e = h ∙ ap (λ o. (Done (decided here o), vars)) e

  pub is_there : (l : Level) → l ≡ raw_level site at.level → IsAt at.request l.place here
  unfolding values_seen
  is_there l e = record { of_request = refl; at_place = ap (λ (l : Level). l.place) (sym e) }

  -- ---- index

  module _ (names : List IndexName) (e : names ≡ index_at site (raw_level site at.level).index) (old : IndexState) (item : Item) where
    abbrev index_act : Serving Decided
    index_act = index_told a.main here here.values.index old item

    names_are : {x : Serving Decided × Vars} → settled (index_told a.main here names old item) vars ≡ x → settled index_act vars ≡ x
    unfolding values_seen
    names_are h = ap (λ n. settled (index_told a.main here n old item) vars) (sym e) ∙ h

    pub index_asks : (state : IndexState) (path : List ℕ) → settled (index_told a.main here names old item) vars ≡ settled (index_left a.main here names state (turns.Probe path)) vars →
        settled index_act vars ≡ (reached_in w patterns site a bytes at (Waits (waits.Index state) path), vars)
    unfolding values_seen told_in settled
    index_asks state path h = names_are h ∙ ap (λ n. (Stat path (λ i. index_told a.main here n state i), vars)) e

    pub index_goes : (state : IndexState) (path args : List ℕ) → args ≡ at.request.args → settled (index_told a.main here names old item) vars ≡ settled (index_left a.main here names state (turns.Redirect path)) vars →
        settled index_act vars ≡ (reached_in w patterns site a bytes at (Decides (decisions.Inside path args)), vars)
    index_goes state path args same h = names_are (decides _ (decisions.Inside path args) h (ap (λ args. Outcome.GoesTo path args) (sym same)))

    pub index_nowhere : {x : Serving Decided × Vars} (state : IndexState) → settled (index_told a.main here names old item) vars ≡ settled (index_left a.main here names state turns.NoneFound) vars →
        settled (no_index a.main here) vars ≡ x → settled index_act vars ≡ x
    index_nowhere state h g = names_are (h ∙ g)

    pub index_unfit : settled (index_told a.main here names old item) vars ≡ (Done (decided here (Fails 500)), vars) →
        settled index_act vars ≡ (reached_in w patterns site a bytes at (Decides (decisions.Error 500)), vars)
    index_unfit h = names_are h

  -- ---- content

  pub content_refused : (code : ℕ) → Some code ≡ refusal_of at.request.method → settled (content a.main here) vars ≡ (reached_in w patterns site a bytes at (Decides (decisions.Error code)), vars)
  unfolding content settled
  content_refused code e = ap (λ o. settled (by_method a.main here o) vars) (sym e)

  pub content_index : {x : Serving Decided × Vars} → None ≡ refusal_of at.request.method → ends_in_slash at.request.path ≡ true →
      settled (indexed a.main here here.values.index) vars ≡ x → settled (content a.main here) vars ≡ x
  unfolding content
  content_index free slash h =
      ap (λ o. settled (by_method a.main here o) vars) (sym free)
      ∙ (ap (λ m. settled m vars) (cond-true (ends_in_slash at.request.path) (indexed a.main here here.values.index) (file a.main here) slash) ∙ h)

  pub content_file : {x : Serving Decided × Vars} → None ≡ refusal_of at.request.method → ends_in_slash at.request.path ≡ false →
      settled (file a.main here) vars ≡ x → settled (content a.main here) vars ≡ x
  unfolding content
  content_file free slash h =
      ap (λ o. settled (by_method a.main here o) vars) (sym free)
      ∙ (ap (λ m. settled m vars) (cond-false (ends_in_slash at.request.path) (indexed a.main here here.values.index) (file a.main here) slash) ∙ h)

  -- ---- try_files

  module _ (tries : Tries) (stated : (raw_level site at.level).tries ≡ Some tries) where
    pub try_asks : (act : Serving Decided) (state : TryState) (path : List ℕ) →
        settled act vars ≡ settled (try_left a.main here (tries_seen tries) state (steps.Probe path)) vars →
        settled act vars ≡ (reached_in w patterns site a bytes at (Waits (waits.Try state) path), vars)
    unfolding values_seen told_in settled
    try_asks act state path h = h ∙ ap (λ o. (Stat path (λ i. tries_told a.main here (option_map tries_seen o) state i), vars)) (sym stated)

    pub tries_by : {x : Serving Decided × Vars} (state : TryState) (item : Item) → settled (try_told a.main here (tries_seen tries) state item) vars ≡ x →
        settled (tries_told a.main here here.values.tries state item) vars ≡ x
    unfolding values_seen
    tries_by state item h = ap (λ o. settled (tries_told a.main here (option_map tries_seen o) state item) vars) stated ∙ h

    pub precontent_tries : {x : Serving Decided × Vars} → settled (tried a.main here (tries_seen tries).names (tries_seen tries).last) vars ≡ x → settled (precontent a.main here) vars ≡ x
    unfolding values_seen precontent
    precontent_tries h = ap (λ o. settled (by_tries a.main here (option_map tries_seen o)) vars) stated ∙ h

  pub untried : {x : Serving Decided × Vars} (state : TryState) (item : Item) → (raw_level site at.level).tries ≡ None → settled (content a.main here) vars ≡ x →
      settled (tries_told a.main here here.values.tries state item) vars ≡ x
  unfolding values_seen
  untried state item e h = ap (λ o. settled (tries_told a.main here (option_map tries_seen o) state item) vars) e ∙ h

  pub precontent_plain : {x : Serving Decided × Vars} → (raw_level site at.level).tries ≡ None → settled (content a.main here) vars ≡ x → settled (precontent a.main here) vars ≡ x
  unfolding values_seen precontent
  precontent_plain e h = ap (λ o. settled (by_tries a.main here (option_map tries_seen o)) vars) e ∙ h

  -- ---- access

  abbrev Come : Serving Decided → Serving Decided × Vars → Type 0
  Come act x = settled act vars ≡ x

  pub let_in : {x : Serving Decided × Vars} → verdict a.main here.values ≡ verdict_act a.main here.values judged.LetsIn → settled (precontent a.main here) vars ≡ x → settled (guarded_act a here) vars ≡ x
  unfolding ◌>>=◌
  let_in e h = ap (λ (m : Serving access.Verdict). settled (m >>= λ v. by_verdict a here v) vars) e ∙ h

  pub denied : verdict a.main here.values ≡ verdict_act a.main here.values judged.Denies → settled (guarded_act a here) vars ≡ (reached_in w patterns site a bytes at (Decides (decisions.Error 403)), vars)
  unfolding ◌>>=◌ settled
  denied e = ap (λ (m : Serving access.Verdict). settled (m >>= λ v. by_verdict a here v) vars) e

  pub asked : (path : Bor (List ℕ)) → verdict a.main here.values ≡ verdict_act a.main here.values (judged.Asks path) →
      settled (guarded_act a here) vars ≡ (reached_in w patterns site a bytes at (Reached.Calls path.now), vars)
  unfolding ◌>>=◌ settled heard_verdict
  asked path e = ap (λ (m : Serving access.Verdict). settled (m >>= λ v. by_verdict a here v) vars) e
