-- Events that are kept.
use Rattle.std.proofs.Common.{◌≡◌, Bool, true, false, List, [], ◌∷◌, ◌++◌, subst}
use Rattle.std.specs.Prelude.{Option}
use Rattle.ngx_outside.specs.Records.{Adds, Given}
use Rattle.memory_outside.specs.Answered.{told_by}
use Rattle.memory_outside.proofs.Kept.{added, stopped}
use Rattle.telling_core.specs.declared.event.GivenEvent.{GivenEvent}
use Rattle.telling_core.specs.Events.{given_event}

pub event_added : (a : GivenEvent) (b : Given) (whole whole' : Bool) (kept kept' : List GivenEvent) → given_event a ≡ b →
    (whole' ≡ true → (whole ≡ true) × (kept' ≡ kept ++ a ∷ [])) → Adds b (told_by given_event whole kept) (told_by given_event whole' kept')
event_added a b whole whole' kept kept' e h =
    subst (λ (c : Given). Adds c (told_by given_event whole kept) (told_by given_event whole' kept')) e (added given_event a whole whole' kept kept' h)

-- nothing is told any more
pub events_stopped : (b : Given) (old : Option (List Given)) (whole : Bool) (kept : List GivenEvent) → whole ≡ false → Adds b old (told_by given_event whole kept)
events_stopped = stopped given_event
