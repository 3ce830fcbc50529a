-- Rounds of phases.
use Rattle.std.proofs.Common.{◌≡◌, ◌≢◌, ℕ, zero, suc, ◌-◌, Bool, true, false, cond, List, Option, None, Some, refl, sym, ◌∙◌, ap, arith}
use mathlib.Core.Path.{fun_ext}
use Rattle.acts.specs.Vars.{Vars}
use Rattle.acts.specs.Act.{Done, Stat, ◌>>=◌, settled, settled_then}
use Rattle.acts.proofs.ActLaws.{settles_in_turn}
use Rattle.file_tree.specs.Tree.{Item, node_of}
use Rattle.static_content.specs.Content.{content_for}
use Rattle.request_meaning.specs.site_views.Rewrites.FileTest.{IsFolder}
use Rattle.request_meaning.specs.Rewriting.{passes}
use Rattle.request_meaning.specs.Contents.{content_outcome}
use Rattle.try_index.specs.Searches.{index_told}
use Rattle.try_index.specs.declared.tries.TryState.{TryState}
use Rattle.try_index.specs.declared.index.IndexState.{IndexState}
use Rattle.ngx_pattern.specs.Pattern.{Pattern as SetPattern}
use Rattle.ngx_variables.specs.declared.request.Request.{Request}
use Rattle.site_model.specs.declared.site.Site.{Site}
use Rattle.request_meaning.specs.site_views.Values.{PageRule, PageTarget}
use Rattle.request_meaning.specs.site_views.Values.PageTarget.{AtPath, AtLocation, AtUrl}
use Rattle.request_meaning.specs.Serving.{World, Serving, Asked, Standing, From, Prepared, Child, Reply}
use Rattle.request_meaning.specs.Serving.From.{Find}
use Rattle.request_meaning.specs.Answering.{page, page_to, page_answer, sent, answer_with, moved, closed_answer}
use Rattle.request_meaning.specs.Errors.{Outcome, Decided, decided, Next, outcome_next, failed, by_rule, error_page}
use Rattle.request_meaning.specs.Phases.{until, rounds, round, phases_from, find_config, located, entered, in_location, access}
use Rattle.family_meaning.specs.Suspended.{rounds_rest, round_rest, again, heard_verdict}
use Rattle.rewrite_code.specs.Places.{standing_seen}
use Rattle.rewrite_code.specs.declared.place.Progress.{Progress}
use Rattle.request_phases.proofs.Acts.{in_turn}
use Rattle.request_phases.specs.Admitted.{admitted_act, phases_admitted}
use Rattle.request_phases.specs.Nexts.{last_in}
use Rattle.request_phases.specs.Rounds.{asked_in, asked_from, told_in, reached_in, decision_seen, phases_left, phases_told, tries_told}
use Rattle.request_phases.specs.declared.state.Phases.{Phases}
use Rattle.request_phases.specs.declared.state.Wait.{Wait}
use Rattle.request_phases.specs.declared.state.Wait.TheVariants as waits
use Rattle.request_phases.specs.declared.state.Decision.{Decision}
use Rattle.request_phases.specs.declared.state.Reached.{Reached}
use Rattle.request_phases.specs.declared.state.Reached.TheVariants.{Waits, Calls, Decides}
use Rattle.request_phases.specs.declared.state.Step.TheVariants as steps

-- ---- Of what it is asked a round looks at the main request, the error, whether one closes, and the role of the request alone.

module _ (w : World) (patterns : List SetPattern) (site : Site) (a : Asked) (r : Request) (f : From) (i : Bool) where
  abbrev other : Asked
  other = record a { request = record r { role = a.request.role }; from = f; inside = i }

  same_page : (s : Standing) (code : ℕ) (rule : Option PageRule) → by_rule other s code rule ≡ by_rule a s code rule
  unfolding error_page page page_to page_answer moved
  same_page s code None = refl
  same_page s code (Some rule) = same_target rule.target
    where
      same_target : (target : PageTarget) → error_page other s code rule.shown target ≡ error_page a s code rule.shown target
      same_target (AtPath text) = refl
      same_target (AtLocation name) = refl
      same_target (AtUrl text) = refl

  same_outcome : (n : ℕ) (s : Standing) (o : Outcome) → outcome_next w n other s o ≡ outcome_next w n a s o
  unfolding outcome_next failed sent answer_with page page_to page_answer moved closed_answer
  same_outcome n s (Outcome.Text code bytes) = refl
  same_outcome n s (Outcome.File bytes date) = refl
  same_outcome n s (Outcome.Fails code) = same_page s code _
  same_outcome n s (Outcome.Gives code) = refl
  same_outcome n s (Outcome.Moves code to) = refl
  same_outcome n s Outcome.Closes = refl
  same_outcome n s Outcome.Seeks = refl
  same_outcome n s (Outcome.GoesTo path args) = refl
  same_outcome n s (Outcome.GoesToNamed name) = refl

  pub same_rest : (n : ℕ) (m : Serving Decided) → rounds_rest w n other m ≡ rounds_rest w n a m
  unfolding rounds_rest round_rest
  same_rest n m = ap (λ k. (m >>= k) >>= until (again w n)) (fun_ext (λ d. same_outcome n d.at d.outcome))

  same_told : (at : Progress) (wait : Wait) (item : Item) → told_in w patterns site other at wait item ≡ told_in w patterns site a at wait item
  unfolding told_in find_config located entered in_location access
  same_told at (waits.Test level place true) item = refl
  same_told at (waits.Test level place false) item = refl
  same_told at (waits.Try state) item = refl
  same_told at (waits.Index state) item = refl
  same_told at waits.Folder item = refl
  same_told at waits.File item = refl

  pub same_reached : (bytes : List ℕ) (at : Progress) (r' : Reached) → reached_in w patterns site other bytes at r' ≡ reached_in w patterns site a bytes at r'
  unfolding heard_verdict
  same_reached bytes at (Waits wait path) = ap (λ k. Stat path k) (fun_ext (λ item. same_told at wait item))
  same_reached bytes at (Calls path) = refl
  same_reached bytes at (Decides d) = refl

  -- so that the rounds from there on are the same
  pub same_from : (n : ℕ) (bytes : List ℕ) (at : Progress) (r' : Reached) → rounds_rest w n a (reached_in w patterns site a bytes at r') ≡ rounds_rest w n other (reached_in w patterns site other bytes at r')
  same_from n bytes at r' = sym (same_rest n (reached_in w patterns site other bytes at r') ∙ ap (rounds_rest w n a) (same_reached bytes at r'))

-- ---- rounds as far as they came

-- the rest of a round that settles so far
pub rest_turn : (w : World) (n : ℕ) (a : Asked) (m now : Serving Decided) (old new : Vars) → settled m old ≡ (now, new) → settled (rounds_rest w n a m) old ≡ settled (rounds_rest w n a now) new
unfolding rounds_rest round_rest
rest_turn w n a m now old new e =
    let f : Decided → Serving Next = λ d. outcome_next w n a d.at d.outcome in
    settles_in_turn (m >>= f) (until (again w n)) old
    ∙ (ap (λ s. settled_then s.0 s.1 (until (again w n))) (in_turn m now f old new e)
    ∙ sym (settles_in_turn (now >>= f) (until (again w n)) new))

rounds_begin : (w : World) (n : ℕ) (b : Asked) → rounds w n b ≡ rounds_rest w n b (phases_from w b b.from)
unfolding rounds round rounds_rest round_rest
rounds_begin w zero b = refl
rounds_begin w (suc n) b = refl

-- the rounds after a change, from where the first came to
pub rounds_reach : (w : World) (patterns : List SetPattern) (site : Site) (n : ℕ) (b : Asked) (bytes : List ℕ) (at : Progress) (r : Reached) (old new : Vars) →
    settled (phases_from w b b.from) old ≡ (reached_in w patterns site b bytes at r, new) →
    settled (rounds w n b) old ≡ settled (rounds_rest w n b (reached_in w patterns site b bytes at r)) new
rounds_reach w patterns site n b bytes at r old new e =
    ap (λ m. settled m old) (rounds_begin w n b)
    ∙ rest_turn w n b (phases_from w b b.from) (reached_in w patterns site b bytes at r) old new e

-- what a request still does where a round of its phases came to this
abbrev pub ahead : World → List SetPattern → Site → List ℕ → Phases → Reached → Serving Prepared
ahead w patterns site bytes p r = rounds_rest w p.changes (asked_in p) (reached_in w patterns site (asked_in p) bytes p.at r)

module _ (w : World) (patterns : List SetPattern) (site : Site) (bytes : List ℕ) (vars : Vars) where
  pub waits_so : (p : Phases) (wait : Wait) (path : List ℕ) → settled (ahead w patterns site bytes p (Waits wait path)) vars ≡ (phases_left w patterns site bytes p (steps.Asks wait path), vars)
  unfolding rounds_rest round_rest ◌>>=◌ settled phases_told
  waits_so p wait path = refl

  pub calls_so : (p : Phases) (path : List ℕ) → settled (ahead w patterns site bytes p (Calls path)) vars ≡ (phases_left w patterns site bytes p (steps.Calls path), vars)
  unfolding rounds_rest round_rest ◌>>=◌ settled
  calls_so p path = refl

  pub ends_so : {x : Serving Prepared × Vars} (p : Phases) (d : Decision) → p.changes ≡ 0 → settled (last_in w (asked_in p) (standing_seen site p.at) (decision_seen bytes d)) vars ≡ x → settled (ahead w patterns site bytes p (Decides d)) vars ≡ x
  unfolding rounds_rest round_rest ◌>>=◌
  ends_so p d e h = ap (λ n. settled (outcome_next w n (asked_in p) (standing_seen site p.at) (decision_seen bytes d) >>= until (again w n)) vars) e ∙ h

  goes_on : (n : ℕ) (p : Phases) (d : Decision) → n ≢ 0 →
      rounds_rest w n (asked_in p) (reached_in w patterns site (asked_in p) bytes p.at (Decides d))
      ≡ (outcome_next w n (asked_in p) (standing_seen site p.at) (decision_seen bytes d) >>= until (λ s b. rounds w (n - 1) b))
  unfolding rounds_rest round_rest ◌>>=◌
  goes_on zero p d h = absurd (h refl)
  goes_on (suc n) p d h = ap (λ m. outcome_next w (suc n) (asked_in p) (standing_seen site p.at) (decision_seen bytes d) >>= until (λ s b. rounds w m b)) (one_less n)
    where
      one_less : (n : ℕ) → n ≡ suc n - 1
      one_less n = omega arith

  pub changes_so : {x : Serving Prepared × Vars} (p : Phases) (d : Decision) → p.changes ≢ 0 →
      settled (outcome_next w p.changes (asked_in p) (standing_seen site p.at) (decision_seen bytes d) >>= until (λ s b. rounds w (p.changes - 1) b)) vars ≡ x →
      settled (ahead w patterns site bytes p (Decides d)) vars ≡ x
  changes_so p d h g = ap (λ m. settled m vars) (goes_on p.changes p d h) ∙ g

-- an answer
pub done_so : (p : Prepared) (vars : Vars) → settled {C = Child} {R = Reply} (Done p) vars ≡ (Done p, vars)
unfolding settled
done_so p vars = refl

module _ (w : World) (patterns : List SetPattern) (site : Site) (bytes : List ℕ) where
  -- the rounds after a change, up to where the next round came to
  pub again_so : (n : ℕ) (p : Phases) (from : From) (at : Progress) (r : Reached) (old new : Vars) →
      settled (phases_from w (asked_from p from) from) old ≡ (reached_in w patterns site (asked_from p from) bytes at r, new) →
      settled (rounds w n (asked_from p from)) old ≡ settled (ahead w patterns site bytes (record p { at = at; changes = n; role = p.at.request.role }) r) new
  again_so n p from at r old new e =
      rounds_reach w patterns site n (asked_from p from) bytes at r old new e
      ∙ ap (λ m. settled m new) (same_from w patterns site (asked_from p from) at.request Find at.inside n bytes at r)

  pub told_so : {x : Serving Prepared × Vars} (p : Phases) (wait : Wait) (item : Item) (next : Phases) (r : Reached) (old new : Vars) → next ≡ record p { at = next.at } →
      settled (told_in w patterns site (asked_in p) p.at wait item) old ≡ (reached_in w patterns site (asked_in p) bytes next.at r, new) →
      settled (ahead w patterns site bytes next r) new ≡ x → settled (phases_told w patterns site p wait item) old ≡ x
  unfolding phases_told
  told_so p wait item next r old new is e h =
      rest_turn w p.changes (asked_in p) (told_in w patterns site (asked_in p) p.at wait item) (reached_in w patterns site (asked_in p) bytes next.at r) old new e
      ∙ (ap (λ m. settled m new) (same_from w patterns site (asked_in p) next.at.request Find next.at.inside p.changes bytes next.at r)
      ∙ (ap (λ q. settled (ahead w patterns site bytes q r) new) (sym is) ∙ h))

  pub admitted_so : {x : Serving Prepared × Vars} (p : Phases) (status : ℕ) (request : Request) (next : Phases) (r : Reached) (old new : Vars) → next ≡ record p { at = next.at } →
      settled (admitted_act (asked_in p) (standing_seen site p.at) status request) old ≡ (reached_in w patterns site (asked_in p) bytes next.at r, new) →
      settled (ahead w patterns site bytes next r) new ≡ x → settled (phases_admitted w site p status request) old ≡ x
  unfolding phases_admitted
  admitted_so p status request next r old new is e h =
      rest_turn w p.changes (asked_in p) (admitted_act (asked_in p) (standing_seen site p.at) status request) (reached_in w patterns site (asked_in p) bytes next.at r) old new e
      ∙ (ap (λ m. settled m new) (same_from w patterns site (asked_in p) next.at.request Find next.at.inside p.changes bytes next.at r)
      ∙ (ap (λ q. settled (ahead w patterns site bytes q r) new) (sym is) ∙ h))

-- ---- what a round does that is told what it asked for

module _ (w : World) (patterns : List SetPattern) (site : Site) (a : Asked) (vars : Vars) (at : Progress) (item : Item) where
  abbrev here : Standing
  here = standing_seen site at

  pub told_try : {x : Serving Decided × Vars} (state : TryState) → settled (tries_told a.main here here.values.tries state item) vars ≡ x → settled (told_in w patterns site a at (waits.Try state) item) vars ≡ x
  unfolding told_in
  told_try state h = h

  pub told_index : {x : Serving Decided × Vars} (state : IndexState) → settled (index_told a.main here here.values.index state item) vars ≡ x → settled (told_in w patterns site a at (waits.Index state) item) vars ≡ x
  unfolding told_in
  told_index state h = h

  pub told_folder : (bytes : List ℕ) (d : Decision) → decision_seen bytes d ≡ Outcome.Fails (cond (passes IsFolder item) 403 404) →
      settled (told_in w patterns site a at waits.Folder item) vars ≡ (reached_in w patterns site a bytes at (Decides d), vars)
  unfolding told_in settled
  told_folder bytes d e = ap (λ o. (Done (decided here o), vars)) (sym e)

  pub told_file : (bytes : List ℕ) (d : Decision) → decision_seen bytes d ≡ content_outcome at.request item (content_for (node_of item) at.request.method false) →
      settled (told_in w patterns site a at waits.File item) vars ≡ (reached_in w patterns site a bytes at (Decides d), vars)
  unfolding told_in settled
  told_file bytes d e = ap (λ o. (Done (decided here o), vars)) (sym e)
