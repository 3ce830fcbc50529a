-- What went on, and what ran.
use Rattle.std.proofs.Common.{◌≡◌, ℕ, ◌+◌, ◌*◌, ◌<◌, ◌≤◌, Bool, true, subst, arith}
use Rattle.request_flow.specs.Flows.{asking_most, flow_most}
use Rattle.request_flow.specs.Pages.{IfAsks, IfPage}
use Rattle.request_flow.specs.declared.page.AccessStart.{AccessStart}
use Rattle.request_flow.specs.declared.page.PageStart.{PageStart}
use Rattle.request_flow.specs.declared.page.Went.{Went}
use Rattle.request_flow.specs.declared.page.Went.TheVariants as wents
use Rattle.response_flow.specs.Continues.{IfOn}
use Rattle.response_flow.specs.Flights.{flight_tree}
use Rattle.response_flow.specs.declared.flight.Ran.{Ran}
use Rattle.response_flow.specs.declared.flight.Ran.TheVariants as runs

pub both_page : (went : Went) (P Q : PageStart → Type 0) → IfPage went P → IfPage went Q → IfPage went (λ p. P p × Q p)
both_page (wents.On o) P Q a b = tt
both_page (wents.Asks s) P Q a b = tt
both_page (wents.Page p) P Q a b = (a, b)

pub first_of_asks : (went : Went) (P Q : AccessStart → Type 0) → IfAsks went (λ a. P a × Q a) → IfAsks went P
first_of_asks (wents.On o) P Q h = tt
first_of_asks (wents.Asks a) P Q h = h.0
first_of_asks (wents.Page p) P Q h = tt

pub second_of_asks : (went : Went) (P Q : AccessStart → Type 0) → IfAsks went (λ a. P a × Q a) → IfAsks went Q
second_of_asks (wents.On o) P Q h = tt
second_of_asks (wents.Asks a) P Q h = h.1
second_of_asks (wents.Page p) P Q h = tt

few_questions : (q : ℕ) → q < 4294967295 → flow_most + 2 * q + 2 < asking_most
unfolding asking_most
few_questions q h = omega (arith, h)

pub asks_few : (went : Went) (P : AccessStart → Type 0) → IfAsks went (λ a. P a × (a.request.value.questions < 4294967295)) → IfAsks went (λ a. flow_most + 2 * a.request.value.questions + 2 < asking_most)
asks_few (wents.On o) P h = tt
asks_few (wents.Asks a) P h = few_questions a.request.value.questions h.1
asks_few (wents.Page p) P h = tt

pub closes_on : (ran : Ran) (closing : Bool) → closing ≡ true → IfOn ran (λ o. o.closing ≡ closing) → IfOn ran (λ o. o.closing ≡ true)
closes_on ran closing e h = subst (λ c. IfOn ran (λ o. o.closing ≡ c)) e h

pub closes_when : (ran : Ran) (closing : Bool) → (closing ≡ true → IfOn ran (λ o. o.closing ≡ true)) → IfOn ran (λ o. closing ≡ true → o.closing ≡ true)
closes_when (runs.On o) closing h = h
closes_when runs.TooMany closing h = tt

pub tree_below : (ran : Ran) (a b : ℕ) → a ≤ b → IfOn ran (λ o. flight_tree o.flight ≤ a) → IfOn ran (λ o. flight_tree o.flight ≤ b)
tree_below (runs.On o) a b h l = omega (arith, h, l)
tree_below runs.TooMany a b h l = tt
