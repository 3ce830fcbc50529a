-- In what the bytes end that are kept once a response is over.
use Rattle.std.proofs.Common.{◌≡◌, ℕ, true, List, Option, None, Some, refl, sym, ◌∙◌, subst, append-nil, arith}
use Rattle.std.specs.Prelude.{is_some, option_map}
use Rattle.std.specs.Global.{Box}
use Rattle.page_response.specs.Pages.{EndsIn}
use Rattle.access_flow.specs.declared.flow.AccessFlow.{AccessFlow}
use Rattle.request_flow.specs.declared.flow.Flow.{Flow}
use Rattle.response_flow.specs.Continues.{IfOn}
use Rattle.response_flow.specs.Flights.{TailFits, TailIn}
use Rattle.response_flow.specs.declared.flight.Flight.{Flight}
use Rattle.response_flow.specs.declared.flight.Flight.TheVariants.{Alone, Asking, Page}
use Rattle.response_flow.specs.declared.flight.PageFlow.{PageFlow}
use Rattle.response_flow.specs.declared.flight.Ran.{Ran}
use Rattle.response_flow.specs.declared.flight.Ran.TheVariants as runs

-- a body that isn't in chunks has none
pub plain_ends : (out : List ℕ) → EndsIn None 0 out
plain_ends out = record { front = out; block = None; kind = refl; few = omega arith; ends = sym (append-nil out); size = refl }

pub alone_tail : (flow : Option (Box Flow)) (out : List ℕ) → TailIn None (option_map (λ f. Alone f) flow) 0 out
alone_tail None out = plain_ends out
alone_tail (Some flow) out = refl

-- the tail of a body of one kind
pub kind_ends : (before block : Option (List ℕ)) (tail : ℕ) (out : List ℕ) → is_some block ≡ is_some before → EndsIn block tail out → EndsIn before tail out
kind_ends before block tail out kind e = record { front = e.front; block = e.block; kind = e.kind ∙ kind; few = e.few; ends = e.ends; size = e.size }

-- a page that is over
pub over_tail : (before block : Option (List ℕ)) (flight : Option Flight) (tail : ℕ) (out : List ℕ) → is_some block ≡ is_some before → flight ≡ None → EndsIn block tail out → TailIn before flight tail out
over_tail before block flight tail out kind none e = subst (λ f. TailIn before f tail out) (sym none) (kind_ends before block tail out kind e)

-- what went on after a page was in flight, or after none was
pub page_fits : (p : PageFlow) (is : Option Flight) (tail : ℕ) (out : List ℕ) → TailIn p.pages.value.outgoing.block is tail out → TailFits (Some (Page p)) is tail out
page_fits p None tail out e = e
page_fits p (Some flight) tail out e = e

pub none_fits : (before : Option (List ℕ)) (is : Option Flight) (tail : ℕ) (out : List ℕ) → TailIn before is tail out → TailFits None is tail out
none_fits before None tail out e = (before, e)
none_fits before (Some flight) tail out e = e

-- what went on after a request was in flight that is no page
pub alone_fits : (flow : Box Flow) (before : Option (List ℕ)) (is : Option Flight) (tail : ℕ) (out : List ℕ) → TailIn before is tail out → TailFits (Some (Alone flow)) is tail out
alone_fits flow before None tail out e = (before, e)
alone_fits flow before (Some flight) tail out e = e

pub some_fits : (is : Option Flight) (tail : ℕ) (out : List ℕ) → is_some is ≡ true → tail ≡ 0 → TailFits None is tail out
some_fits None tail out h e = cc
some_fits (Some flight) tail out h e = e

-- the same of what ran
pub ran_page : (p : PageFlow) (ran : Ran) (out : List ℕ) → IfOn ran (λ o. TailIn p.pages.value.outgoing.block o.flight o.tail out) → IfOn ran (λ o. TailFits (Some (Page p)) o.flight o.tail out)
ran_page p (runs.On o) out e = page_fits p o.flight o.tail out e
ran_page p runs.TooMany out e = tt

pub ran_none : (before : Option (List ℕ)) (ran : Ran) (out : List ℕ) → IfOn ran (λ o. TailIn before o.flight o.tail out) → IfOn ran (λ o. TailFits None o.flight o.tail out)
ran_none before (runs.On o) out e = none_fits before o.flight o.tail out e
ran_none before runs.TooMany out e = tt

alone_as : (flow : Box Flow) (is : Option Flight) (tail : ℕ) (out : List ℕ) → TailFits None is tail out → TailFits (Some (Alone flow)) is tail out
alone_as flow None tail out e = e
alone_as flow (Some flight) tail out e = e

asking_as : (flow : Box AccessFlow) (is : Option Flight) (tail : ℕ) (out : List ℕ) → TailFits None is tail out → TailFits (Some (Asking flow)) is tail out
asking_as flow None tail out e = e
asking_as flow (Some flight) tail out e = e

pub ran_alone : (flow : Box Flow) (ran : Ran) (out : List ℕ) → IfOn ran (λ o. TailFits None o.flight o.tail out) → IfOn ran (λ o. TailFits (Some (Alone flow)) o.flight o.tail out)
ran_alone flow (runs.On o) out e = alone_as flow o.flight o.tail out e
ran_alone flow runs.TooMany out e = tt

pub ran_asking : (flow : Box AccessFlow) (ran : Ran) (out : List ℕ) → IfOn ran (λ o. TailFits None o.flight o.tail out) → IfOn ran (λ o. TailFits (Some (Asking flow)) o.flight o.tail out)
ran_asking flow (runs.On o) out e = asking_as flow o.flight o.tail out e
ran_asking flow runs.TooMany out e = tt

-- a page whose kind was kept
pub page_as : (p q : PageFlow) (is : Option Flight) (tail : ℕ) (out : List ℕ) → is_some q.pages.value.outgoing.block ≡ is_some p.pages.value.outgoing.block → TailFits (Some (Page q)) is tail out → TailFits (Some (Page p)) is tail out
page_as p q None tail out kind e = kind_ends p.pages.value.outgoing.block q.pages.value.outgoing.block tail out kind e
page_as p q (Some flight) tail out kind e = e

pub ran_page_as : (p q : PageFlow) (ran : Ran) (out : List ℕ) → is_some q.pages.value.outgoing.block ≡ is_some p.pages.value.outgoing.block → IfOn ran (λ o. TailFits (Some (Page q)) o.flight o.tail out) → IfOn ran (λ o. TailFits (Some (Page p)) o.flight o.tail out)
ran_page_as p q (runs.On o) out kind e = page_as p q o.flight o.tail out kind e
ran_page_as p q runs.TooMany out kind e = tt
