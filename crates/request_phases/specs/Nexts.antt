-- What becomes of what phases decide.
use Rattle.std.specs.Prelude.{◌≡◌, ℕ, ◌&&◌, ◌||◌, true, List, Some, if◌then◌else◌}
use Rattle.acts.specs.Vars.{Vars}
use Rattle.acts.specs.Act.{Done, ◌>>=◌, settled}
use Rattle.filter_api.specs.Members.{Member}
use Rattle.ngx_pattern.specs.Pattern.{Pattern as SetPattern}
use Rattle.site_model.specs.declared.site.Site.{Site}
use Rattle.site_model.specs.declared.values.Shown.{Shown}
use Rattle.request_meaning.specs.Serving.{World, Serving, Asked, Standing, Prepared, is_main, is_main_role}
use Rattle.request_meaning.specs.Answering.{is_closing, page}
use Rattle.request_meaning.specs.Errors.{Outcome, Next, outcome_next, page_method}
use Rattle.request_meaning.specs.Phases.{until}
use Rattle.rewrite_code.specs.Places.{standing_seen}
use Rattle.request_phases.specs.Rounds.{world_in, from_seen, asked_from, asked_in, prepared_as}
use Rattle.request_phases.specs.declared.ground.Ground.{Ground}
use Rattle.request_phases.specs.declared.state.Phases.{Phases}
use Rattle.request_phases.specs.declared.state.Decision.{Decision}
use Rattle.request_phases.specs.declared.state.Decision.TheVariants as decisions
use Rattle.request_phases.specs.declared.state.Conclusion.{Conclusion}
use Rattle.request_phases.specs.declared.state.Conclusion.TheVariants as outcomes
use Rattle.request_phases.specs.declared.decide.Next.{Next as CodeNext}
use Rattle.request_phases.specs.declared.decide.Next.TheVariants.{Answers, Changed}

-- what is answered where no change is left
abbrev pub last_in : World → Asked → Standing → Outcome → Serving Prepared
last_in w a s outcome = outcome_next w 0 a s outcome >>= until (λ s b. Done (page b s 500))

-- the answer of a decision where no change is left: for a change the built-in page of 500
abbrev pub last_outcome : Decision → Conclusion
last_outcome (decisions.Text code text) = outcomes.Text code text
last_outcome (decisions.File len date) = outcomes.File len date
last_outcome (decisions.Error code) = outcomes.Page code
last_outcome (decisions.Page code) = outcomes.Page code
last_outcome (decisions.Redirect code to) = outcomes.Redirect code to
last_outcome decisions.Close = outcomes.Close
last_outcome decisions.Seek = outcomes.Page 500
last_outcome (decisions.Inside path args) = outcomes.Page 500
last_outcome (decisions.Named name) = outcomes.Page 500

-- a change that can't be made begins a round as well, by which an error closes or not
abbrev pub with_own_role : Phases → Phases
with_own_role p = record p { role = p.at.request.role }

abbrev pub last_phases : Phases → Decision → Phases
last_phases p (decisions.Text code text) = p
last_phases p (decisions.File len date) = p
last_phases p (decisions.Error code) = p
last_phases p (decisions.Page code) = p
last_phases p (decisions.Redirect code to) = p
last_phases p decisions.Close = p
last_phases p decisions.Seek = with_own_role p
last_phases p (decisions.Inside path args) = with_own_role p
last_phases p (decisions.Named name) = with_own_role p

-- an answer, or what the rounds from a change on come to
abbrev pub next_in : World → Site → List ℕ → Phases → (Asked → Serving Prepared) → CodeNext → Serving Prepared
next_in w site bytes p k (Answers outcome) = Done (prepared_as w (asked_in p) (standing_seen site p.at) bytes outcome)
next_in w site bytes p k (Changed from) = k (asked_from p (from_seen site p.at from))

-- An act settles as what became of a decision, whatever the rounds after a change come to.
abbrev pub NextIs : List SetPattern → Ground → (World → Serving Next) → Vars → List ℕ → Phases → CodeNext → Type 0
NextIs patterns g act vars bytes p next = (members : List Member) (k : Asked → Serving Prepared) →
    let w = world_in patterns g members in
    settled (act w >>= until (λ s b. k b)) vars ≡ settled (next_in w g.site.now bytes p k next) vars

-- an error closes the connection, where it is one that does
abbrev pub closed_by : Phases → ℕ → Phases
closed_by p code = record p { closes = p.closes || (is_main_role p.role && is_closing code) }

-- the request goes to the page of an error
abbrev pub paged : Phases → ℕ → Shown → List ℕ → List ℕ → Phases
paged p code shown path args =
    record (closed_by p code) {
      main = if is_main p.at.request then record (p.main) { method = page_method p.at.request.method } else p.main;
      at = record (p.at) {
        request = record (p.at.request) { method = page_method p.at.request.method; path = path; args = args };
        inside = true;
      };
      error = Some (record { code = code; shown = shown });
    }
