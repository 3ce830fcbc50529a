-- What becomes of a response in flight.
use Rattle.std.specs.Prelude.{◌≡◌, ℕ, nat_lt, true, Bool, List, ◌++◌, Option, None, Some}
use Rattle.file_tree.specs.Tree.{Trees}
use Rattle.ngx_outside.specs.Views.{Log}
use Rattle.ngx_pattern.specs.Pattern.{Pattern as SetPattern}
use Rattle.request_meaning.specs.Counts.{most_subs}
use Rattle.request_meaning.specs.Serving.{World}
use Rattle.site_model.specs.declared.site.Site.{Site}
use Rattle.request_flow.specs.Rests.{Rest, closes_after, logged_by, values_by}
use Rattle.subrequests.specs.declared.family.Ran.{Ran as FamilyRan}
use Rattle.subrequests.specs.declared.family.Ran.TheVariants as family
use Rattle.response_flow.specs.Flights.{flight_rest}
use Rattle.response_flow.specs.declared.flight.Onward.{Onward}
use Rattle.response_flow.specs.declared.flight.Flight.{Flight}
use Rattle.response_flow.specs.declared.flight.Passed.{Passed}
use Rattle.response_flow.specs.declared.flight.Passed.TheVariants as passes
use Rattle.response_flow.specs.declared.flight.Ran.{Ran}
use Rattle.response_flow.specs.declared.flight.Ran.TheVariants.{On, TooMany}

-- more subrequests are asked for than are opened for one response
abbrev pub is_over : Rest → Bool
is_over r = nat_lt most_subs r.subs

-- It goes on: what is kept for the peer and what is still to come stay the same, and so does whether the connection closes after
-- it; what is logged now and what will be is what was to be; the level of which the number is told is the one that answers; and
-- whether it asks for too many subrequests stays the same.
pub record Continues (site : Site) (before after : Rest) (out out' : List ℕ) (closing closing' : Bool) (log : Option Log) (number : Option ℕ) : Type 0 where
  pub bytes : out' ++ after.bytes ≡ out ++ before.bytes
  pub closes : closes_after after closing' ≡ closes_after before closing
  pub logged : logged_by log ++ after.logs ≡ before.logs
  pub level : values_by site number after.values ≡ before.values
  pub heavy : is_over after ≡ is_over before

-- It goes on where no variable is named; or it asks for too many subrequests.
abbrev pub RunsOn : World → List SetPattern → Site → Trees → Rest → (out out' : List ℕ) → (closing : Bool) → Ran → Type 0
RunsOn w patterns site trees before out out' closing (On o) = Continues site before (flight_rest w patterns site o.flight trees) out out' closing o.closing o.log o.level
RunsOn w patterns site trees before out out' closing TooMany = is_over before ≡ true

abbrev pub IfOn : Ran → (Onward → Type 0) → Type 0
IfOn (On o) P = P o
IfOn TooMany P = Unit {0}

-- what ran in its place, with the flight that is there then
abbrev pub ran_in : Option Flight → Passed → Ran
ran_in flight (passes.On closing log level tail) = On (record { flight = flight; closing = closing; log = log; level = level; tail = tail })
ran_in flight passes.TooMany = TooMany

-- a node of a page that ran in its place: whether that ends the page; none where it asks for too many subrequests
abbrev pub ran_as : Option Bool → FamilyRan
ran_as (Some over) = family.Rests
ran_as None = family.TooMany
