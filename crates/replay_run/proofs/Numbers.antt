-- Which lines change the number of the tree.
use Rattle.std.proofs.Common.{◌≡◌, ℕ, List, ◌∙◌}
use Rattle.http_types.specs.declared.words.Addr.{Addr}
use Rattle.ngx_outside.specs.Views.{ConnView, Course, Start}
use Rattle.ngx_outside.specs.declared.event.Event.{Event}
use Rattle.ngx_outside.specs.declared.event.Event.TheVariants as ev
use Rattle.ngx_outside.specs.declared.event.StepAnswer.{StepAnswer}
use Rattle.ngx_outside.specs.declared.event.Want.{Want}
use Rattle.ngx_outside.specs.declared.event.Want.TheVariants as want
use Rattle.replay_run.specs.declared.lane.LinkEnds.{LinkEnds}
use Rattle.replay_run.specs.Told.{Told}
use Rattle.replay_run.specs.Scene.{Lane, Stage, Gives, IsArrival, Offers, EndsIfDue, Ends, Waits, OpensLine, SendsLine, Reads, Offered, Ending, Serves, AnswersJob, Answers, Fails, Unasked}

pub offers_now : (fresh : Addr → Addr → Course) (c : ℕ) (queue : List ℕ) (a : StepAnswer) (view : ℕ → ConnView) (now : Start) (view' : ℕ → ConnView) (now' : Start) → Offers fresh c queue a view now view' now' → now' ≡ now
offers_now fresh c queue a view now view' now' o = go o.event o.arrival o.gives
  where
    go : (e : Event) → IsArrival e c queue → Gives fresh e a view now view' now' → now' ≡ now
    go (ev.Arrived conn bytes) is g = g.moment
    go (ev.Opened conn local peer) is g = absurd is
    go (ev.Ended conn) is g = absurd is
    go (ev.Wrote conn count) is g = absurd is
    go (ev.LinkFailed conn) is g = absurd is
    go (ev.FileDone conn node answer) is g = absurd is
    go (ev.JobFailed conn node) is g = absurd is
    go (ev.Run conn node) is g = absurd is
    go (ev.Tick moment) is g = absurd is
    go (ev.Tree to) is g = absurd is
    go (ev.Gone conn) is g = absurd is

pub ends_now : (fresh : Addr → Addr → Course) (c : ℕ) (l l' : Lane) (a : StepAnswer) (view : ℕ → ConnView) (now : Start) (view' : ℕ → ConnView) (now' : Start) → EndsIfDue fresh c l l' a view now view' now' → now' ≡ now
ends_now fresh c l l' a view now view' now' (Ends is g e) = g.moment
ends_now fresh c l l' a view now view' now' (Waits is none v n e) = n

pub opens_now : (fresh : Addr → Addr → Course) (c : ℕ) (ends : LinkEnds) (a : StepAnswer) (old new : Stage) → OpensLine fresh c ends a old new → new.now ≡ old.now
opens_now fresh c ends a old new s = s.does.gives.moment

pub sends_now : (fresh : Addr → Addr → Course) (c : ℕ) (bytes : List ℕ) (a : StepAnswer) (old new : Stage) → SendsLine fresh c bytes a old new → new.now ≡ old.now
sends_now fresh c bytes a old new s =
    ends_now fresh c _ s.last s.does.second s.does.mid_view s.does.mid_now new.view new.now s.does.ends
    ∙ offers_now fresh c _ s.does.first old.view old.now s.does.mid_view s.does.mid_now s.does.offers

job_now : (fresh : Addr → Addr → Course) (told : Told) (c node : ℕ) (a : StepAnswer) (view : ℕ → ConnView) (now : Start) (view' : ℕ → ConnView) (now' : Start) → AnswersJob fresh told c node a view now view' now' → now' ≡ now
job_now fresh told c node a view now view' now' (Answers ask answer waits known from g) = g.moment
job_now fresh told c node a view now view' now' (Fails ask waits none g) = g.moment
job_now fresh told c node a view now view' now' (Unasked none skipped v n) = n

pub serves_now : (fresh : Addr → Addr → Course) (told : Told) (w : Want) (old new : Stage) → Serves fresh told w old new → new.now ≡ old.now
serves_now fresh told (want.Read conn room) old new s = go s.1.last s.1.does
  where
    go : (last : Lane) → Reads fresh conn s.0 old.view old.now new.view new.now (old.lanes conn) last → new.now ≡ old.now
    go last (Offered some o e) = offers_now fresh conn (old.lanes conn).queue s.0 old.view old.now new.view new.now o
    go last (Ending none e) = ends_now fresh conn (old.lanes conn) last s.0 old.view old.now new.view new.now e
serves_now fresh told (want.Run conn node) old new s = (s.1).gives.moment
serves_now fresh told (want.Job conn node) old new s = job_now fresh told conn node s.0 old.view old.now new.view new.now (s.1).0
serves_now fresh told (want.Write conn) old new s = (s.1).does.gives.moment
serves_now fresh told (want.Close conn) old new s = absurd s
