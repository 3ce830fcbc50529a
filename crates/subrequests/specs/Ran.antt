-- What becomes of a node that runs.
use Rattle.std.specs.Prelude.{◌≡◌, ℕ, false, List, slice_get}
use Rattle.ngx_pattern.specs.Pattern.{Pattern as SetPattern}
use Rattle.node_line.specs.request_phases.declared.ground.Ground.{Ground}
use Rattle.subrequests.specs.Moved.{IsWhole, OverrunsBy, Steps}
use Rattle.family_nodes.specs.Runs.{runs_at}
use Rattle.subrequests.specs.Wants.{is_among, ready_of}
use Rattle.subrequests.specs.declared.family.Family.{Family}
use Rattle.subrequests.specs.declared.family.Ran.{Ran}
use Rattle.subrequests.specs.declared.family.Ran.TheVariants as ran
use Rattle.subrequests.specs.declared.family.Stepped.{Stepped}
use Rattle.subrequests.specs.declared.family.Stepped.TheVariants.{On, Rests, TooMany}

-- Its family took steps and is whole.
pub record Moves (patterns : List SetPattern) (g : Ground) (old new : Family) : Type 0 where
  pub steps : Steps patterns g old new
  pub whole : IsWhole new

-- It goes on; or can't run any more; or asked for one subrequest more than are opened.
abbrev pub StepsTo : List SetPattern → Ground → (old new : Family) → (at : ℕ) → Stepped → Type 0
StepsTo patterns g old new at On = Moves patterns g old new
StepsTo patterns g old new at Rests = Moves patterns g old new × (runs_at new.order at (slice_get new.nodes at) ≡ false)
StepsTo patterns g old new at TooMany = OverrunsBy patterns g old

abbrev pub RunsTo : List SetPattern → Ground → (old new : Family) → (at : ℕ) → Ran → Type 0
RunsTo patterns g old new at ran.Rests = Moves patterns g old new × (is_among at (ready_of new) ≡ false)
RunsTo patterns g old new at ran.TooMany = OverrunsBy patterns g old
