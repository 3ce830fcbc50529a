-- What is known of all connections, and what is left to do, at the end of a turn.
use Rattle.std.specs.Prelude.{◌≡◌, ◌≢◌, ◌⊎◌, ℕ, ◌+◌, ◌-◌, ◌^◌, min, ◌<◌, ◌≤◌, Bool, true, false, [], Option, Some, None}
use Rattle.ngx_outside.specs.Linked.{LinkView}
use Rattle.ngx_outside.specs.Views.{ConnView}
use Rattle.ready_loop.specs.Ids.{has}
use Rattle.ngx_outside.specs.Causes.{next_count}
use Rattle.link_service.specs.Seen.{Elsewhere, Tick}
use Rattle.ready_loop.specs.declared.hear.Heard.{Heard}
use Rattle.ready_loop.specs.declared.hear.Heard.TheVariants as heard
use Rattle.ready_loop.specs.declared.ticks.Told.{Told}
use Rattle.ready_loop.specs.declared.service.Ending.{Ending}
use Rattle.ready_loop.specs.declared.service.Ending.TheVariants as ending
use Rattle.ready_loop.specs.declared.ids.Ids.{Ids}

-- A connection has nothing left to do: no node can run, no job waits, and its link isn't to be
-- closed; where it reads, its link isn't due; and where bytes are pending, its link is full. What
-- is due and full is known where the links tell.
pub record AtRest (heard tells : Type 0) (v : ConnView) (l : LinkView) : Type 0 where
  pub ready : v.ready ≡ []
  pub jobs : v.jobs ≡ []
  pub shut : v.shut ≡ false
  pub read : heard → v.room ≢ None → l.due ≡ false
  pub written : tells → v.pending ≢ [] → l.full ≡ true

-- each connection that is held rests
abbrev pub AllRest : (heard tells : Type 0) → (ℕ → ConnView) → (ℕ → LinkView) → Type 0
AllRest heard tells view link = (c : ℕ) → (view c).held ≡ true →
    AtRest heard tells (view c) (link c)

-- no deadline is earlier than this moment
abbrev pub IsQuiet : ℕ → (ℕ → ConnView) → Type 0
IsQuiet until view = (c due : ℕ) → (view c).deadline ≡ Some due → until ≤ due

-- each link that is due is remembered as unread
abbrev pub IsHeard : (ℕ → Bool) → (ℕ → LinkView) → Ids → Type 0
IsHeard is_open link unread = (c : ℕ) → is_open c ≡ true → (link c).due ≡ true → has unread c ≡ true

-- or is this one, of which it is known
abbrev pub IsHeardBut : ℕ → Bool → (ℕ → Bool) → (ℕ → LinkView) → Ids → Type 0
IsHeardBut conn due is_open link unread = (c : ℕ) → is_open c ≡ true → (link c).due ≡ true →
    (has unread c ≡ true) ⊎ ((c ≡ conn) × (due ≡ true))

-- so after a notice
abbrev pub HeardAs : Heard → (ℕ → Bool) → (ℕ → LinkView) → Ids → Type 0
HeardAs (heard.At conn due) is_open link unread = IsHeardBut conn due is_open link unread
HeardAs heard.Nothing is_open link unread = IsHeard is_open link unread
HeardAs heard.Ended is_open link unread = IsHeard is_open link unread
HeardAs heard.Failed is_open link unread = IsHeard is_open link unread

-- the tick that was told
abbrev pub tick_at : Told → Tick
tick_at told = record { moment = told.moment; tree = told.tree }

-- how many notices the links have told after one more, where one was heard
abbrev pub HeardCounts : Heard → (before after : ℕ) → Type 0
HeardCounts (heard.At conn due) before after = after ≡ next_count before
HeardCounts heard.Nothing before after = after ≡ next_count before
HeardCounts heard.Ended before after = after ≡ before
HeardCounts heard.Failed before after = after ≡ before

-- all rest but the connection of which something was heard
abbrev pub RestsBut : Heard → (heard tells : Type 0) → (ℕ → ConnView) → (ℕ → LinkView) → Type 0
RestsBut (heard.At conn due) known tells view link = (c : ℕ) → c ≢ conn → (view c).held ≡ true →
    AtRest known tells (view c) (link c)
RestsBut heard.Nothing known tells view link = AllRest known tells view link
RestsBut heard.Ended known tells view link = AllRest known tells view link
RestsBut heard.Failed known tells view link = AllRest known tells view link

-- nothing changed but at the connection of which something was heard
abbrev pub ChangedAs : {V : Type 0} → Heard → (ℕ → V) → (ℕ → V) → Type 0
ChangedAs (heard.At conn due) old new = Elsewhere conn old new
ChangedAs heard.Nothing old new = (c : ℕ) → new c ≡ old c
ChangedAs heard.Ended old new = (c : ℕ) → new c ≡ old c
ChangedAs heard.Failed old new = (c : ℕ) → new c ≡ old c

-- how serving ends where this was heard, if it does
abbrev pub ending_of : Heard → Option Ending
ending_of (heard.At conn due) = None
ending_of heard.Nothing = None
ending_of heard.Ended = Some ending.Ended
ending_of heard.Failed = Some ending.NextFault

-- How many turns there were, by how many notices the links had told before and after: each turn
-- handles one. At Ended and where the call for the next one failed there were fewer.
abbrev pub TurnsTaken : Ending → (turns before after : ℕ) → Type 0
TurnsTaken ending.Ended turns before after = (before ≤ after) × (after < before + turns)
TurnsTaken ending.TurnsUsed turns before after = after ≡ min (before + turns) (2 ^ 64 - 1)
TurnsTaken ending.ListenFault turns before after = after ≡ before
TurnsTaken ending.NextFault turns before after = (before ≤ after) × (after < before + turns)
