-- What a run has done to a connection, between two lines.
use Rattle.std.specs.Prelude.{◌≡◌, ℕ, Bool, true, false, List, [], ◌++◌, None, Some}
use Rattle.http_types.specs.declared.words.Addr.{Addr}
use Rattle.ngx_outside.specs.Views.{ConnView, Course}
use Rattle.ngx_outside.specs.Runs.{Tracked}
use Rattle.replay_run.specs.declared.lane.InputEnd.{InputEnd}
use Rattle.replay_run.specs.declared.lane.InputEnd.TheVariants as input
use Rattle.replay_run.specs.declared.lane.LinkEnds.{LinkEnds}
use Rattle.replay_run.specs.Told.{Told}
use Rattle.replay_run.specs.Scene.{Lane, Stage}

-- the core was told that the input has ended
abbrev pub is_given : InputEnd → Bool
is_given input.Open = false
is_given input.Due = false
is_given input.Given = true

-- Of the bytes that were sent on a connection some have come, and the others wait. One that isn't
-- open has no ends and has come to nothing; on one that is, its input has ended exactly where the
-- core was told so, and what came and went since its opening at the ends that its lane keeps is
-- tracked.
pub data Standing (fresh : Addr → Addr → Course) (told : Told) (v : ConnView) (lane : Lane)
    (sent : List ℕ) : Type 0 where
  Unopened : v.held ≡ false → lane.ends ≡ None → is_given lane.tail ≡ false → lane.went ≡ [] →
      sent ≡ lane.queue → Standing fresh told v lane sent
  Opened : (ends : LinkEnds) (came : List ℕ) → v.held ≡ true → lane.ends ≡ Some ends →
      v.ended ≡ is_given lane.tail → sent ≡ came ++ lane.queue →
      Tracked (fresh ends.local ends.peer) told.trees told.newest v came lane.went →
      Standing fresh told v lane sent

-- so of each connection, by what the files tell
abbrev pub AllStanding : (Addr → Addr → Course) → Told → Stage → (ℕ → List ℕ) → Type 0
AllStanding fresh told s sent = (c : ℕ) → Standing fresh told (s.view c) (s.lanes c) (sent c)
