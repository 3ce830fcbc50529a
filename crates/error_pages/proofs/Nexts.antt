-- What an error comes to.
use Rattle.std.proofs.Common.{◌≡◌, ℕ, Bool, true, false, cond, List, [], Option, None, Some, unwrap_or, refl, sym, ◌∙◌, ap, subst}
use Rattle.std.proofs.lemmas.Bool.{cond-true, cond-false}
use Rattle.acts.specs.Vars.{Vars}
use Rattle.acts.specs.Act.{Done, ◌>>=◌, settled, settled_then}
use Rattle.acts.proofs.ActLaws.{settles_in_turn}
use Rattle.target_text.specs.ngx_variables.declared.request.Main.{Main}
use Rattle.target_text.specs.ngx_variables.declared.request.Request.{Request}
use Rattle.target_text.specs.ngx_variables.Texts.{value_text, is_too_long}
use Rattle.site_whole.specs.site_model.declared.values.Shown.{Shown}
use Rattle.site_whole.specs.site_views.Values.{PageRule, Text}
use Rattle.site_whole.specs.site_views.Values.PageTarget.{AtPath, AtLocation, AtUrl}
use Rattle.site_whole.specs.Whole.{shown_seen}
use Rattle.request_meaning.specs.Serving.{Serving, Asked, Standing}
use Rattle.request_meaning.specs.Cuts.{Target, target, fit_value, or_none}
use Rattle.request_meaning.specs.Errors.Next.{Changed}
use Rattle.request_meaning.specs.Errors.{Next, page_named, error_page, by_rule, failed, rule_for, page_at, page_moved, url_code}
use Rattle.target_text.specs.Settled.{fit, target_text, FitValueSettles, TargetSettles}
use Rattle.error_pages.specs.declared.page.PageStep.{PageStep}
use Rattle.error_pages.specs.declared.page.PageStep.TheVariants.{Inside, Named, Url}
use Rattle.error_pages.specs.Pages.{IsErrorOf, IsFor, IsInside, IsAway, applies, page_next, too_long_next}

-- an act that settles as a value, and what follows
then_does : {A B : Type 0} (m : Serving A) (k : A → Serving B) (vars : Vars) (a : A) → settled m vars ≡ (Done a, vars) → settled (m >>= k) vars ≡ settled (k a) vars
unfolding settled_then
then_does m k vars a e = settles_in_turn m k vars ∙ ap (λ s. settled_then s.0 s.1 k) e

module _ (main : Main) (request : Request) (vars : Vars) (a : Asked) (s : Standing) (code : ℕ) (shown : Shown) (h : IsErrorOf main request a s) where
  -- a page at a path
  at_path : TargetSettles → (text : Text) (o : Option Target) → target_text main request vars text ≡ o →
      settled (error_page a s code (shown_seen shown) (AtPath text)) vars ≡ (Done (page_at a s code (shown_seen shown) o), vars)
  unfolding error_page settled
  at_path settles text o e =
      then_does (target a.main s.request text) (λ t. Done (page_at a s code (shown_seen shown) t)) vars (target_text a.main s.request vars text) (settles a.main s.request vars text)
      ∙ ap (λ t. (Done (page_at a s code (shown_seen shown) t), vars)) (ap (λ m. target_text m s.request vars text) h.of_main ∙ ap (λ r. target_text main r vars text) h.of_request ∙ e)

  inside_next : (o : Option Target) (step : PageStep) → IsInside o shown step → page_at a s code (shown_seen shown) o ≡ page_next a s code (Some step)
  inside_next None step i = absurd i
  inside_next (Some t) step i = ap (λ x. page_next a s code (Some x)) (sym i)

  pub goes_inside : TargetSettles → (text : Text) (step : PageStep) → IsInside (target_text main request vars text) shown step →
      settled (error_page a s code (shown_seen shown) (AtPath text)) vars ≡ (Done (page_next a s code (Some step)), vars)
  goes_inside settles text step i =
      at_path settles text (target_text main request vars text) refl ∙ ap (λ n. (Done n, vars)) (inside_next (target_text main request vars text) step i)

  pub inside_too_long : TargetSettles → (text : Text) → target_text main request vars text ≡ None →
      settled (error_page a s code (shown_seen shown) (AtPath text)) vars ≡ (Done (too_long_next a s code), vars)
  inside_too_long settles text e = at_path settles text None e

  -- a page at another address
  at_url : FitValueSettles → (text : Text) (o : Option (List ℕ)) → fit (value_text main request vars text) ≡ o →
      settled (error_page a s code (shown_seen shown) (AtUrl text)) vars ≡ (Done (page_moved a s code (shown_seen shown) o), vars)
  unfolding error_page settled
  at_url settles text o e =
      then_does (fit_value a.main s.request text) (λ to. Done (page_moved a s code (shown_seen shown) to)) vars (fit (value_text a.main s.request vars text)) (settles a.main s.request vars text)
      ∙ ap (λ to. (Done (page_moved a s code (shown_seen shown) to), vars)) (ap (λ m. fit (value_text m s.request vars text)) h.of_main ∙ ap (λ r. fit (value_text main r vars text)) h.of_request ∙ e)

  away_next : (o : Option (List ℕ)) (step : PageStep) → IsAway o shown step → page_moved a s code (shown_seen shown) o ≡ page_next a s code (Some step)
  away_next None step i = absurd i
  away_next (Some to) step i = ap (λ x. page_next a s code (Some x)) (sym i)

  pub goes_away : FitValueSettles → (text : Text) (step : PageStep) → IsAway (fit (value_text main request vars text)) shown step →
      settled (error_page a s code (shown_seen shown) (AtUrl text)) vars ≡ (Done (page_next a s code (Some step)), vars)
  goes_away settles text step i =
      at_url settles text (fit (value_text main request vars text)) refl ∙ ap (λ n. (Done n, vars)) (away_next (fit (value_text main request vars text)) step i)

  pub away_too_long : FitValueSettles → (text : Text) → fit (value_text main request vars text) ≡ None →
      settled (error_page a s code (shown_seen shown) (AtUrl text)) vars ≡ (Done (too_long_next a s code), vars)
  away_too_long settles text e = at_url settles text None e

  -- a page in a location `@name`
  pub goes_to_named : (name copy : List ℕ) → copy ≡ name → settled (error_page a s code (shown_seen shown) (AtLocation name)) vars ≡ (Done (page_next a s code (Some (Named copy shown))), vars)
  unfolding error_page settled
  goes_to_named name copy e = ap (λ n. (Done (Changed s (page_named a s code (shown_seen shown) n)), vars)) (sym e)

module _ (main : Main) (request : Request) (rules : List PageRule) (code left : ℕ) (used recursive : Bool) (a : Asked) (s : Standing) (f : IsFor main request rules used recursive a s) where
  pub failed_is : failed left a s code ≡ by_rule a s code (cond (applies left used recursive) (rule_for rules code) None)
  unfolding failed
  failed_is = cc (f.by_rules, f.is_used, f.is_recursive)

  fails_by : (rule : Option PageRule) → applies left used recursive ≡ true → rule_for rules code ≡ rule → failed left a s code ≡ by_rule a s code rule
  fails_by rule e g = failed_is ∙ ap (λ b. by_rule a s code (cond b (rule_for rules code) None)) e ∙ ap (by_rule a s code) g

  pub fails_closed : (vars : Vars) → applies left used recursive ≡ false → settled (failed left a s code) vars ≡ (Done (page_next a s code None), vars)
  unfolding settled
  fails_closed vars e = ap (λ m. settled m vars) (failed_is ∙ ap (λ b. by_rule a s code (cond b (rule_for rules code) None)) e)

  pub fails_unnamed : (vars : Vars) → applies left used recursive ≡ true → rule_for rules code ≡ None → settled (failed left a s code) vars ≡ (Done (page_next a s code None), vars)
  unfolding settled
  fails_unnamed vars e g = ap (λ m. settled m vars) (fails_by None e g)

  pub fails_named : (vars : Vars) (r : PageRule) (next : Serving Next × Vars) → applies left used recursive ≡ true → rule_for rules code ≡ Some r →
      settled (error_page a s code r.shown r.target) vars ≡ next → settled (failed left a s code) vars ≡ next
  fails_named vars r next e g h = ap (λ m. settled m vars) (fails_by (Some r) e g) ∙ h

-- ---- steps

pub or_empty : (o : Option (List ℕ)) (e : List ℕ) → e ≡ [] → unwrap_or o e ≡ or_none o
or_empty None e h = h
or_empty (Some a) e h = refl

pub inside_by : (shown : Shown) (o : Option Target) (t : Target) (step : PageStep) → o ≡ Some t → step ≡ Inside t.path (or_none t.args) shown → IsInside o shown step
inside_by shown o t step e i = subst (λ o. IsInside o shown step) (sym e) i

pub away_by : (shown : Shown) (o : Option (List ℕ)) (to : List ℕ) (step : PageStep) → o ≡ Some to → step ≡ Url (url_code (shown_seen shown)) to → IsAway o shown step
away_by shown o to step e i = subst (λ o. IsAway o shown step) (sym e) i

pub fits : (text : List ℕ) → is_too_long text ≡ false → fit text ≡ Some text
fits text e = cond-false (is_too_long text) None (Some text) e

pub unfit : (text : List ℕ) → is_too_long text ≡ true → fit text ≡ None
unfit text e = cond-true (is_too_long text) None (Some text) e
