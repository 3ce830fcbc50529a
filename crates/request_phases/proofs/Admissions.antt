-- The reply of a subrequest that decides on access.
use Rattle.std.proofs.Common.{◌≡◌, ℕ, suc, ◌+◌, ◌<◌, ◌≤◌, true, false, Bool, cond, List, ◌∷◌, length, drop, map, get_or, None, Some, sym, ◌∙◌, ap, add-one, drop-cons}
use Rattle.std.proofs.Math.ListN.{drop_of_length-le}
use Rattle.std.proofs.lemmas.Bool.{cond-true, cond-false}
use Rattle.acts.specs.Vars.{Vars, set}
use Rattle.acts.specs.Act.{Done, ◌>>=◌, settled}
use Rattle.ngx_variables.specs.declared.request.Main.{Main}
use Rattle.ngx_variables.specs.declared.request.Request.{Request}
use Rattle.ngx_variables.specs.Texts.{is_too_long, value_text}
use Rattle.site_model.specs.declared.values.AuthSet.{AuthSet}
use Rattle.request_meaning.specs.site_views.Values.{Text}
use Rattle.try_index.specs.site_whole.Whole.{auth_set_seen}
use Rattle.request_meaning.specs.Access.{sets, set_fit}
use Rattle.request_meaning.specs.Cuts.{fit_value}
use Rattle.request_meaning.specs.Serving.{Serving}
use Rattle.try_index.specs.target_text.Settled.{FitValueSettles}
use Rattle.site_model.specs.Levels.{raw_level}
use Rattle.site_model.specs.declared.site.Site.{Site}
use Rattle.site_model.specs.declared.site.Level.{Level}
use Rattle.try_index.specs.site_whole.Whole.{auth_sets_at, values_seen}
use Rattle.ngx_pattern.specs.Pattern.{Pattern as SetPattern}
use Rattle.request_meaning.specs.Access.{Verdict, fit_verdict, status_verdict}
use Rattle.request_meaning.specs.Contents.{precontent}
use Rattle.request_meaning.specs.Errors.{Decided}
use Rattle.request_meaning.specs.Phases.{by_verdict}
use Rattle.request_meaning.specs.Serving.{World, Asked, Standing}
use Rattle.rewrite_code.specs.Places.{standing_seen}
use Rattle.rewrite_code.specs.declared.place.Progress.{Progress}
use Rattle.request_phases.specs.Admitted.{SetsTo, admitted_act, verdict_seen}
use Rattle.request_phases.specs.Rounds.{reached_in}
use Rattle.request_phases.specs.declared.admission.Admission.TheVariants as admission
use Rattle.request_phases.specs.declared.state.Decision.TheVariants as decisions
use Rattle.request_phases.specs.declared.state.Reached.TheVariants as Reached
use Rattle.request_phases.proofs.Acts.{in_turn, then_does}

module _ (main : Main) (request : Request) (vars : Vars) (settles : FitValueSettles) (name : List ℕ) (text : Text) (left : List (List ℕ × Text)) where
  abbrev value : List ℕ
  value = value_text main request vars text

  pub fits_so : (bytes : List ℕ) → bytes ≡ value → is_too_long value ≡ false →
      settled (sets main request ((name, text) ∷ left)) vars ≡ settled (sets main request left) (set name bytes vars)
  unfolding sets settled ◌>>=◌
  fits_so bytes e short =
      then_does (fit_value main request text) (λ t. set_fit name t (sets main request left)) vars _ (settles main request vars text)
      ∙ (ap (λ t. settled (set_fit name t (sets main request left)) vars) (cond-false (is_too_long value) None (Some value) short)
      ∙ ap (λ v. settled (sets main request left) (set name v vars)) (sym e))

  pub unfit_so : is_too_long value ≡ true →
      settled (sets main request ((name, text) ∷ left)) vars ≡ (Done false, vars)
  unfolding sets settled ◌>>=◌
  unfit_so long =
      then_does (fit_value main request text) (λ t. set_fit name t (sets main request left)) vars _ (settles main request vars text)
      ∙ ap (λ t. settled (set_fit name t (sets main request left)) vars) (cond-true (is_too_long value) None (Some value) long)

next_at : {X : Type 0} (xs : List X) (j : ℕ) (x : X) → j < length xs → x ≡ get_or xs j x → drop j xs ≡ x ∷ drop (j + 1) xs
next_at xs j x h e = drop-cons xs j x h ∙ ap (λ y. y ∷ drop (suc j) xs) (sym e) ∙ ap (λ n. x ∷ drop n xs) (sym (add-one j))

-- some are set, and the others are left
module _ (main : Main) (request : Request) (all : List AuthSet) (old : Vars) where
  abbrev pub IsSetTo : (j : ℕ) → Vars → Type 0
  IsSetTo j vars = settled (sets main request (map auth_set_seen all)) old ≡ settled (sets main request (map auth_set_seen (drop j all))) vars

  module _ (j : ℕ) (s : AuthSet) (vars new : Vars) (fits : Bool) (h : j < length all) (e : s ≡ get_or all j s) (is : IsSetTo j vars)
      (puts : (left : List (List ℕ × Text)) → SetsTo main request (auth_set_seen s ∷ left) left vars new fits) where
    abbrev others : Serving Bool
    others = sets main request (map auth_set_seen (drop (j + 1) all))

    one_more : settled (sets main request (map auth_set_seen all)) old ≡ settled (cond fits others (Done fits)) new
    one_more = is ∙ (ap (λ l. settled (sets main request (map auth_set_seen l)) vars) (next_at all j s h e) ∙ puts (map auth_set_seen (drop (j + 1) all)))

    pub set_on : fits ≡ true → IsSetTo (j + 1) new
    set_on f = one_more ∙ ap (λ b. settled (cond b others (Done b)) new) f

    pub unfit : fits ≡ false → settled (sets main request (map auth_set_seen all)) old ≡ (Done false, new)
    unfolding settled
    unfit f = one_more ∙ ap (λ b. settled (cond b others (Done b)) new) f

  pub all_set : (j : ℕ) (vars : Vars) → length all ≤ j → IsSetTo j vars →
      settled (sets main request (map auth_set_seen all)) old ≡ (Done true, vars)
  unfolding sets settled
  all_set j vars h is = is ∙ ap (λ l. settled (sets main request (map auth_set_seen l)) vars) (drop_of_length-le all h)

module _ (w : World) (patterns : List SetPattern) (site : Site) (a : Asked) (bytes : List ℕ) (old new : Vars) (at : Progress) (l : Level) (all : List AuthSet)
    (status : ℕ) (request : Request) (fits : Bool) (level_is : l ≡ raw_level site at.level) (sets_are : map auth_set_seen all ≡ auth_sets_at site l.auth_sets)
    (set_as : settled (sets a.main request (map auth_set_seen all)) old ≡ (Done fits, new)) where
  abbrev here : Standing
  here = standing_seen site at

  values_are : map auth_set_seen all ≡ here.values.auth_sets
  unfolding values_seen
  values_are = sets_are ∙ ap (λ (l : Level). auth_sets_at site l.auth_sets) level_is

  these_are_set : settled (sets a.main request here.values.auth_sets) old ≡ (Done fits, new)
  these_are_set = ap (λ x. settled (sets a.main request x) old) (sym values_are) ∙ set_as

  heard_so : settled (admitted_act a here status request) old ≡ settled (by_verdict a here (fit_verdict fits (status_verdict status))) new
  unfolding ◌>>=◌ settled
  heard_so =
      let verdict_of : Bool → Serving Verdict = λ fit. Done (fit_verdict fit (status_verdict status)) in
      in_turn (sets a.main request here.values.auth_sets >>= verdict_of) (Done (fit_verdict fits (status_verdict status))) (λ v. by_verdict a here v) old new
      (in_turn (sets a.main request here.values.auth_sets) (Done fits) verdict_of old new these_are_set)

  pub is_unfit : fits ≡ false → settled (admitted_act a here status request) old ≡ (reached_in w patterns site a bytes at (Reached.Decides (decisions.Error 500)), new)
  unfolding settled
  is_unfit f = heard_so ∙ ap (λ b. settled (by_verdict a here (fit_verdict b (status_verdict status))) new) f

  pub is_denied : (code : ℕ) → fits ≡ true → verdict_seen (admission.Denies code) ≡ status_verdict status →
      settled (admitted_act a here status request) old ≡ (reached_in w patterns site a bytes at (Reached.Decides (decisions.Error code)), new)
  unfolding settled
  is_denied code f e =
      heard_so
      ∙ (ap (λ b. settled (by_verdict a here (fit_verdict b (status_verdict status))) new) f
      ∙ ap (λ v. settled (by_verdict a here v) new) (sym e))

  pub is_let_in : {x : Serving Decided × Vars} → fits ≡ true → verdict_seen admission.LetsIn ≡ status_verdict status → settled (precontent a.main here) new ≡ x →
      settled (admitted_act a here status request) old ≡ x
  is_let_in f e h =
      heard_so
      ∙ (ap (λ b. settled (by_verdict a here (fit_verdict b (status_verdict status))) new) f
      ∙ (ap (λ v. settled (by_verdict a here v) new) (sym e) ∙ h))
