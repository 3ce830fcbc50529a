-- The events that a core was given, beside what its links, its files and its clock answered.
use Rattle.std.specs.Prelude.{◌≡◌, ℕ, Bool, if◌then◌else◌, List, [], ◌∷◌, ◌++◌, flat_map, Option, None, Some}
use Rattle.ngx_outside.specs.Records.{Given, LinkAnswer, FileAnswer, beside_link, of_links, of_files, of_clock}

-- a list that is told now was told before, and is longer by this
pub record Grew {A : Type 0} (before : Option (List A)) (now since : List A) : Type 0 where
  pub earlier : List A
  pub told : before ≡ Some earlier
  pub longer : now ≡ earlier ++ since

-- The events that were given and the answers since an earlier moment: those of the events that come
-- of the answers are those that are beside them, in their order.
pub record Matched {A B : Type 0} (come_of : Given → List B) (beside : A → List B)
    (events_before : Option (List Given)) (answers_before : Option (List A)) (given : List Given)
    (answered : List A) : Type 0 where
  pub events_since : List Given
  pub answers_since : List A
  pub events : Grew events_before given events_since
  pub answers : Grew answers_before answered answers_since
  pub same : flat_map come_of events_since ≡ flat_map beside answers_since

-- From a moment to a later one: where the events of a core and the answers of one thing around it
-- are told at the later one, they were told at the earlier one, and what came since matches.
pub record Beside {A B : Type 0} (come_of : Given → List B) (beside : A → List B)
    (events events' : Option (List Given)) (answers answers' : Option (List A)) : Type 0 where
  pub matched : (given : List Given) (answered : List A) → events' ≡ Some given →
      answers' ≡ Some answered → Matched come_of beside events answers given answered

-- the event, if it comes of the links
abbrev pub of_link : Given → List Given
of_link event = if of_links event then event ∷ [] else []

abbrev pub alone : {A : Type 0} → A → List A
alone a = a ∷ []

-- the moments of a clock, where it tells them
abbrev pub moments_told : Bool → List ℕ → Option (List ℕ)
moments_told tells told = if tells then Some told else None

-- The events of a core are beside what its links answered, what its files answered, and what its
-- clock told: of each, as far as both are told. No other events were given than these, and runs,
-- trees and closings.
pub record StandBeside (events events' : Option (List Given))
    (links links' : Option (List LinkAnswer)) (files files' : Option (List FileAnswer))
    (clock clock' : Option (List ℕ)) : Type 0 where
  pub links_beside : Beside of_link beside_link events events' links links'
  pub files_beside : Beside of_files alone events events' files files'
  pub clock_beside : Beside of_clock alone events events' clock clock'
