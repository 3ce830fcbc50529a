-- What becomes of what phases decide.
use Rattle.std.proofs.Common.{◌≡◌, ℕ, Bool, true, List, Option, None, Some, is_some, refl, sym, ◌∙◌, ap}
use Rattle.acts.specs.Vars.{Vars}
use Rattle.acts.specs.Act.{Done, ◌>>=◌, settled}
use Rattle.site_model.specs.Levels.{raw_level}
use Rattle.site_model.specs.declared.site.Level.{Level}
use Rattle.site_model.specs.declared.site.Site.{Site}
use Rattle.site_model.specs.declared.values.Shown.{Shown}
use Rattle.request_meaning.specs.site_views.Values.{PageRule}
use Rattle.try_index.specs.site_whole.Whole.{values_seen, pages_at}
use Rattle.request_meaning.specs.Serving.{World, Serving, Asked, Standing, Prepared}
use Rattle.request_meaning.specs.Answering.{page, page_to, page_answer}
use Rattle.request_meaning.specs.Errors.{Outcome, Next, outcome_next, failed}
use Rattle.request_meaning.specs.Phases.{until}
use Rattle.error_pages.specs.Pages.{IsFor, page_next, too_long_next}
use Rattle.error_pages.specs.declared.page.PageStep.{PageStep}
use Rattle.error_pages.specs.declared.page.PageStep.TheVariants as pages
use Rattle.rewrite_code.specs.Places.{standing_seen}
use Rattle.request_phases.specs.Rounds.{decision_seen, asked_in, prepared_as, handled_seen}
use Rattle.request_phases.specs.Nexts.{last_in, last_outcome, last_phases, next_in, closed_by, paged}
use Rattle.request_phases.specs.declared.state.Handled.{Handled}
use Rattle.request_phases.specs.declared.state.Phases.{Phases}
use Rattle.request_phases.specs.declared.state.Decision.{Decision}
use Rattle.request_phases.specs.declared.state.Decision.TheVariants as decisions
use Rattle.request_phases.specs.declared.state.Conclusion.TheVariants as outcomes
use Rattle.request_phases.specs.declared.state.From.TheVariants as begins
use Rattle.request_phases.specs.declared.decide.Next.{Next as CodeNext}
use Rattle.request_phases.specs.declared.decide.Next.TheVariants.{Answers, Changed}
use Rattle.request_phases.proofs.Acts.{then_does}

-- where no change is left
pub last_is : (w : World) (site : Site) (p : Phases) (bytes : List ℕ) (vars : Vars) (d : Decision) →
    settled (last_in w (asked_in p) (standing_seen site p.at) (decision_seen bytes d)) vars
    ≡ (Done (prepared_as w (asked_in (last_phases p d)) (standing_seen site (last_phases p d).at) bytes (last_outcome d)), vars)
unfolding outcome_next failed ◌>>=◌ settled page page_to page_answer
last_is w site p bytes vars (decisions.Text code text) = refl
last_is w site p bytes vars (decisions.File len date) = refl
last_is w site p bytes vars (decisions.Error code) = refl
last_is w site p bytes vars (decisions.Page code) = refl
last_is w site p bytes vars (decisions.Redirect code to) = refl
last_is w site p bytes vars decisions.Close = refl
last_is w site p bytes vars decisions.Seek = refl
last_is w site p bytes vars (decisions.Inside path args) = refl
last_is w site p bytes vars (decisions.Named name) = refl

is_used : (o : Option Handled) → is_some (handled_seen o) ≡ is_some o
is_used None = refl
is_used (Some h) = refl

module _ (site : Site) (p : Phases) where
  abbrev here : Standing
  here = standing_seen site p.at

  -- an error of this request, as `page_for` is asked for it
  pub is_for : (l : Level) (rules : List PageRule) (used : Bool) → l ≡ raw_level site p.at.level → rules ≡ pages_at site l.pages → used ≡ is_some p.error →
      IsFor p.main p.at.request rules used l.recursive (asked_in p) here
  unfolding values_seen
  is_for l rules used e is u = record {
    error = record { of_main = refl; of_request = refl };
    by_rules = ap (λ (l : Level). pages_at site l.pages) (sym e) ∙ sym is;
    is_used = is_used p.error ∙ sym u;
    is_recursive = ap (λ (l : Level). l.recursive) (sym e);
  }

  module _ (w : World) (bytes : List ℕ) (vars : Vars) (k : Asked → Serving Prepared) (code : ℕ) where
    abbrev after : Serving Next → Serving Prepared
    after m = m >>= until (λ s b. k b)

    becomes : (n : ℕ) (next : Next) → settled (failed n (asked_in p) here code) vars ≡ (Done next, vars) →
        settled (after (failed n (asked_in p) here code)) vars ≡ settled (until (λ s b. k b) next) vars
    becomes n next e = then_does (failed n (asked_in p) here code) (until (λ s b. k b)) vars next e

    abbrev fails_as : ℕ → Option PageStep → Type 0
    fails_as n step = settled (failed n (asked_in p) here code) vars ≡ (Done (page_next (asked_in p) here code step), vars)

    pub unpaged : (n : ℕ) → fails_as n None → settled (after (failed n (asked_in p) here code)) vars ≡ settled (next_in w site bytes p k (Answers (outcomes.Page code))) vars
    unpaged n e = becomes n (page_next (asked_in p) here code None) e

    pub goes_inside : (n : ℕ) (path args : List ℕ) (shown : Shown) → fails_as n (Some (pages.Inside path args shown)) →
        settled (after (failed n (asked_in p) here code)) vars ≡ settled (next_in w site bytes (paged p code shown path args) k (Changed begins.Start)) vars
    goes_inside n path args shown e = becomes n (page_next (asked_in p) here code (Some (pages.Inside path args shown))) e

    abbrev named_as : Shown → Phases
    named_as shown = record (closed_by p code) { at = record (p.at) { inside = true }; error = Some (record { code = code; shown = shown }) }

    pub goes_named : (n : ℕ) (name : List ℕ) (shown : Shown) → fails_as n (Some (pages.Named name shown)) →
        settled (after (failed n (asked_in p) here code)) vars ≡ settled (next_in w site bytes (named_as shown) k (Changed (begins.Named name))) vars
    goes_named n name shown e = becomes n (page_next (asked_in p) here code (Some (pages.Named name shown))) e

    pub goes_away : (n moved : ℕ) (to : List ℕ) → fails_as n (Some (pages.Url moved to)) →
        settled (after (failed n (asked_in p) here code)) vars ≡ settled (next_in w site bytes (closed_by p code) k (Answers (outcomes.Redirect moved (Some to)))) vars
    goes_away n moved to e = becomes n (page_next (asked_in p) here code (Some (pages.Url moved to))) e

    pub is_unfit : (n : ℕ) → settled (failed n (asked_in p) here code) vars ≡ (Done (too_long_next (asked_in p) here code), vars) →
        settled (after (failed n (asked_in p) here code)) vars ≡ settled (next_in w site bytes (closed_by p code) k (Answers (outcomes.Page 500))) vars
    is_unfit n e = becomes n (too_long_next (asked_in p) here code) e

  -- other decisions, where a change is left
  module _ (w : World) (bytes : List ℕ) (vars : Vars) (k : Asked → Serving Prepared) where
    abbrev nexts : ℕ → Outcome → Phases → CodeNext → Type 0
    nexts n outcome now next = settled (outcome_next w n (asked_in p) here outcome >>= until (λ s b. k b)) vars ≡ settled (next_in w site bytes now k next) vars

    pub text_next : (n code : ℕ) (text : List ℕ) → nexts n (Outcome.Text code text) p (Answers (outcomes.Text code text))
    unfolding outcome_next ◌>>=◌
    text_next n code text = refl

    pub file_next : (n len date : ℕ) → nexts n (Outcome.File bytes date) p (Answers (outcomes.File len date))
    unfolding outcome_next ◌>>=◌
    file_next n len date = refl

    pub page_is_next : (n code : ℕ) → nexts n (Outcome.Gives code) p (Answers (outcomes.Page code))
    unfolding outcome_next ◌>>=◌
    page_is_next n code = refl

    pub redirect_next : (n code : ℕ) (to : Option (List ℕ)) → nexts n (Outcome.Moves code to) p (Answers (outcomes.Redirect code to))
    unfolding outcome_next ◌>>=◌
    redirect_next n code to = refl

    pub close_next : (n : ℕ) → nexts n Outcome.Closes p (Answers outcomes.Close)
    unfolding outcome_next ◌>>=◌
    close_next n = refl

    pub seek_next : (n : ℕ) → nexts n Outcome.Seeks p (Changed begins.Find)
    unfolding outcome_next ◌>>=◌
    seek_next n = refl

    pub inside_next : (n : ℕ) (path args : List ℕ) → nexts n (Outcome.GoesTo path args) (record p { at = record (p.at) { request = record (p.at.request) { path = path; args = args }; inside = true } }) (Changed begins.Start)
    unfolding outcome_next ◌>>=◌
    inside_next n path args = refl

    pub named_next : (n : ℕ) (name : List ℕ) → nexts n (Outcome.GoesToNamed name) (record p { at = record (p.at) { inside = true } }) (Changed (begins.Named name))
    unfolding outcome_next ◌>>=◌
    named_next n name = refl

    pub error_next : {x : Serving Prepared × Vars} (n code : ℕ) → settled (failed n (asked_in p) here code >>= until (λ s b. k b)) vars ≡ x →
        settled (outcome_next w n (asked_in p) here (Outcome.Fails code) >>= until (λ s b. k b)) vars ≡ x
    unfolding outcome_next
    error_next n code h = h
