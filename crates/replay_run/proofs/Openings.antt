-- Only lines that open a connection change its ends.
use Rattle.std.proofs.Common.{◌≡◌, ℕ, ◌⊎◌, inl, inr, List, [], ◌∷◌, Some, refl, sym, ap, ◌∙◌, subst}
use Rattle.std.specs.List.{Contains}
use Rattle.std.proofs.lemmas.List.Elements.{Contains-append_left, Contains-append_right, Contains-push}
use Rattle.std.proofs.lemmas.Bool.{cases_eq}
use Rattle.http_types.specs.declared.words.Addr.{Addr}
use Rattle.ngx_outside.specs.Seen.{Terms}
use Rattle.ngx_outside.specs.Views.{ConnView, Course, Start}
use Rattle.ngx_outside.specs.declared.event.StepAnswer.{StepAnswer}
use Rattle.ngx_outside.specs.declared.event.StepAnswer.TheVariants.{Done, Skipped, OutOfMemory}
use Rattle.ngx_outside.specs.declared.event.Want.{Want}
use Rattle.ngx_outside.specs.declared.event.Want.TheVariants as want
use Rattle.replay_text.specs.declared.parts.EventLine.{EventLine}
use Rattle.replay_text.specs.declared.parts.EventLine.TheVariants as line
use Rattle.replay_run.specs.declared.lane.LinkEnds.{LinkEnds}
use Rattle.replay_run.specs.Told.{Told, told_after}
use Rattle.replay_run.specs.Scene.{Lane, Stage, EndsIfDue, Ends, Waits, OnLane, OpensLine, SendsLine, EndsLine, WritesLine, JobLine, Reads, Offered, Ending, Serves, Drained, Begun, Then, ends_after}
use Rattle.replay_run.specs.Plays.{LineDoes, Plays, Over, Line, AreOpenedBy}

-- no ends change
abbrev SameEnds : Stage → Stage → Type 0
SameEnds old new = (c : ℕ) → (new.lanes c).ends ≡ (old.lanes c).ends

lane_ends : (c : ℕ) (Does : Lane → Lane → Type 0) (old new : ℕ → Lane) → ((last : Lane) → Does (old c) last → last.ends ≡ (old c).ends) → OnLane c Does old new → (d : ℕ) → (new d).ends ≡ (old d).ends
lane_ends c Does old new keeps on d = go (cases_eq d c)
  where
    go : (d ≡ c) ⊎ (d ≡ c → ⊥) → (new d).ends ≡ (old d).ends
    go (inl e) = subst (λ k. (new k).ends ≡ (old k).ends) (sym e) (ap (λ (l : Lane). l.ends) on.lanes.own ∙ keeps on.last on.does)
    go (inr ne) = ap (λ (l : Lane). l.ends) (on.lanes.others d ne)

due_ends : (fresh : Addr → Addr → Course) (c : ℕ) (l l' : Lane) (a : StepAnswer) (view : ℕ → ConnView) (now : Start) (view' : ℕ → ConnView) (now' : Start) → EndsIfDue fresh c l l' a view now view' now' → l'.ends ≡ l.ends
due_ends fresh c l l' a view now view' now' (Ends is g e) = ap (λ (x : Lane). x.ends) e
due_ends fresh c l l' a view now view' now' (Waits is none v n e) = ap (λ (x : Lane). x.ends) e

reads_ends : (fresh : Addr → Addr → Course) (c : ℕ) (l l' : Lane) (a : StepAnswer) (view : ℕ → ConnView) (now : Start) (view' : ℕ → ConnView) (now' : Start) → Reads fresh c a view now view' now' l l' → l'.ends ≡ l.ends
reads_ends fresh c l l' a view now view' now' (Offered some o e) = ap (λ (x : Lane). x.ends) e
reads_ends fresh c l l' a view now view' now' (Ending none e) = due_ends fresh c l l' a view now view' now' e

sends_ends : (fresh : Addr → Addr → Course) (c : ℕ) (bytes : List ℕ) (a : StepAnswer) (old new : Stage) → SendsLine fresh c bytes a old new → SameEnds old new
sends_ends fresh c bytes a old new s = lane_ends c _ old.lanes new.lanes (λ last d. due_ends fresh c _ last d.second d.mid_view d.mid_now new.view new.now d.ends) s

closes_ends : (fresh : Addr → Addr → Course) (c : ℕ) (a : StepAnswer) (old new : Stage) → EndsLine fresh c a old new → SameEnds old new
closes_ends fresh c a old new s = lane_ends c _ old.lanes new.lanes (λ last d. due_ends fresh c _ last a old.view old.now new.view new.now d) s

writes_ends : (fresh : Addr → Addr → Course) (c most : ℕ) (a : StepAnswer) (old new : Stage) → WritesLine fresh c most a old new → SameEnds old new
writes_ends fresh c most a old new s = lane_ends c _ old.lanes new.lanes (λ last d. ap (λ (l : Lane). l.ends) d.emits) s

job_ends : (fresh : Addr → Addr → Course) (told : Told) (c node : ℕ) (a : StepAnswer) (old new : Stage) → JobLine fresh told c node a old new → SameEnds old new
job_ends fresh told c node a old new s d = ap (λ (l : Lane). l.ends) (s.1 d)

serves_ends : (fresh : Addr → Addr → Course) (told : Told) (w : Want) (old new : Stage) → Serves fresh told w old new → SameEnds old new
serves_ends fresh told (want.Read conn room) old new s = lane_ends conn _ old.lanes new.lanes (λ last r. reads_ends fresh conn (old.lanes conn) last s.0 old.view old.now new.view new.now r) s.1
serves_ends fresh told (want.Run conn node) old new s = λ d. ap (λ (l : Lane). l.ends) ((s.1).lanes d)
serves_ends fresh told (want.Job conn node) old new s = job_ends fresh told conn node s.0 old new s.1
serves_ends fresh told (want.Write conn) old new s = writes_ends fresh conn _ s.0 old new s.1
serves_ends fresh told (want.Close conn) old new s = absurd s

drained_ends : (fresh : Addr → Addr → Course) (told : Told) (old new : Stage) → Drained fresh told old new → SameEnds old new
drained_ends fresh told old new Begun d = refl
drained_ends fresh told old new (Then mid last conns w path held first s) d = serves_ends fresh told w mid last s d ∙ drained_ends fresh told old mid path d

-- what a line does to the ends: they stay, or it opens the connection at these
abbrev Opened : EventLine → Stage → Stage → Type 0
Opened l old new = (c : ℕ) (ends : LinkEnds) → (new.lanes c).ends ≡ Some ends → ((old.lanes c).ends ≡ Some ends) ⊎ (l ≡ line.Open c ends.local ends.peer)

kept : (l : EventLine) (old new : Stage) → SameEnds old new → Opened l old new
kept l old new same c ends e = inl (sym (same c) ∙ e)

opens : (fresh : Addr → Addr → Course) (conn : ℕ) (local peer : Addr) (a : StepAnswer) (old new : Stage) → OpensLine fresh conn (record { local = local; peer = peer }) a old new → Opened (line.Open conn local peer) old new
opens fresh conn local peer a old new s c ends e = go (cases_eq c conn)
  where
    given : LinkEnds
    given = record { local = local; peer = peer }

    answered : (b : StepAnswer) → ends_after given b (old.lanes conn).ends ≡ Some ends → c ≡ conn → ((old.lanes c).ends ≡ Some ends) ⊎ (line.Open conn local peer ≡ line.Open c ends.local ends.peer)
    answered (Done taken) f same = inr (let g : given ≡ ends = cc in ap (λ k. line.Open k local peer) (sym same) ∙ ap (λ (x : LinkEnds). line.Open c x.local x.peer) g)
    answered Skipped f same = inl (ap (λ k. (old.lanes k).ends) same ∙ f)
    answered OutOfMemory f same = inl (ap (λ k. (old.lanes k).ends) same ∙ f)

    go : (c ≡ conn) ⊎ (c ≡ conn → ⊥) → ((old.lanes c).ends ≡ Some ends) ⊎ (line.Open conn local peer ≡ line.Open c ends.local ends.peer)
    go (inl same) = answered a (sym (ap (λ (l : Lane). l.ends) (s.lanes.own ∙ s.does.keeps)) ∙ ap (λ k. (new.lanes k).ends) (sym same) ∙ e) same
    go (inr ne) = inl (sym (ap (λ (l : Lane). l.ends) (s.lanes.others c ne)) ∙ e)

line_opens : (terms : Terms) (told : Told) (l : EventLine) (a : StepAnswer) (old new : Stage) → LineDoes terms told l a old new → Opened l old new
line_opens terms told (line.Open conn local peer) a old new s = opens terms.fresh conn local peer a old new s.0
line_opens terms told (line.Bytes conn bytes) a old new s = kept _ old new (sends_ends terms.fresh conn bytes a old new s)
line_opens terms told (line.End conn) a old new s = kept _ old new (closes_ends terms.fresh conn a old new s)
line_opens terms told (line.Room conn count) a old new s = kept _ old new (writes_ends terms.fresh conn count a old new s)
line_opens terms told (line.File conn node) a old new s = kept _ old new (job_ends terms.fresh told conn node a old new s)
line_opens terms told (line.FileFails conn node) a old new s = kept _ old new (λ d. ap (λ (l : Lane). l.ends) (s.lanes d))
line_opens terms told (line.Run conn node) a old new s = kept _ old new (λ d. ap (λ (l : Lane). l.ends) (s.lanes d))
line_opens terms told (line.Tick now) a old new s = kept _ old new (λ d. ap (λ (l : Lane). l.ends) (s.lanes d))
line_opens terms told (line.Tree change) a old new s = kept _ old new (λ d. ap (λ (l : Lane). l.ends) (s.lanes d))
line_opens terms told (line.TreeGone path) a old new s = kept _ old new (λ d. ap (λ (l : Lane). l.ends) (s.lanes d))
line_opens terms told line.Drain a old new s = kept _ old new (drained_ends terms.fresh told old new (s.1).path)

pub plays_open : (terms : Terms) (told : Told) (lines : List EventLine) (old new : Stage) (k r k' r' : ℕ) → Plays terms lines told old k r new k' r' → AreOpenedBy lines old.lanes new.lanes
plays_open terms told [] old new k r k' r' (Over t s skipped refused) c ends e = inl e
plays_open terms told (l ∷ lines) old new k r k' r' (Line m ms a t o mid last skipped refused skipped' refused' d p) c ends e = go (plays_open terms (told_after l told) lines mid new _ _ k' r' p c ends e)
  where
    this : EventLine
    this = line.Open c ends.local ends.peer

    first : ((old.lanes c).ends ≡ Some ends) ⊎ (l ≡ this) → ((old.lanes c).ends ≡ Some ends) ⊎ Contains (l ∷ lines) this
    first (inl e) = inl e
    first (inr is) = inr (Contains-append_left (l ∷ []) lines this (subst (λ x. Contains (x ∷ []) this) (sym is) (Contains-push [] this)))

    go : ((mid.lanes c).ends ≡ Some ends) ⊎ Contains lines this → ((old.lanes c).ends ≡ Some ends) ⊎ Contains (l ∷ lines) this
    go (inl e) = first (line_opens terms told l a old mid d c ends e)
    go (inr there) = inr (Contains-append_right (l ∷ []) lines this there)
