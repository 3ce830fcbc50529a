-- What a loop sees of its core, its links, its files and its clock.
use Rattle.std.specs.Prelude.{◌≡◌, ◌≢◌, ℕ, ◌+◌, ◌≤◌, true, false, List, [], ◌∷◌, ◌++◌, map, Some}
use Rattle.http_types.specs.declared.words.Addr.{Addr}
use Rattle.ngx_outside.specs.Linked.{Updated, Marked, begun}
use Rattle.ngx_outside.specs.Outside.{Grow}
use Rattle.ngx_outside.specs.Seen.{LinksSeen, FilesSeen, ClockSeen}
use Rattle.ngx_outside.specs.Views.{Start, kept_moment}

-- nothing changes but at one number
abbrev pub Elsewhere : {V : Type 0} → ℕ → (ℕ → V) → (ℕ → V) → Type 0
Elsewhere c old new = (d : ℕ) → d ≢ c → new d ≡ old d

-- A tick: the moment that the clock told, and the number of the tree that the files told as the
-- newest right after.
pub record Tick : Type 0 where
  pub moment : ℕ
  pub tree : ℕ

-- when a request starts that is started after a tick, before the next
abbrev pub start_at : Tick → Start
start_at tick = record { moment = kept_moment tick.moment; tree = tick.tree }

-- when one starts after the last of these ticks; before any, at moment 0 and with the first tree
unfoldable pub last_start : List Tick → Start
last_start [] = record { moment = 0; tree = 0 }
last_start (t ∷ []) = start_at t
last_start (t ∷ u ∷ ticks) = last_start (u ∷ ticks)

-- Requests start at ticks, in their order: there is a tick, or a request starts at the last one.
pub data Dated : List Tick → List Start → Type 0 where
  Begun : (tick : Tick) → Dated (tick ∷ []) []
  Later : (ticks : List Tick) (starts : List Start) (tick : Tick) → Dated ticks starts →
      Dated (ticks ++ tick ∷ []) starts
  Started : (ticks : List Tick) (starts : List Start) (tick : Tick) (start : Start) →
      start ≡ start_at tick → Dated (ticks ++ tick ∷ []) starts →
      Dated (ticks ++ tick ∷ []) (starts ++ start ∷ [])

-- some ticks were before, and the requests started from the next one on
pub record IsDated (ticks : List Tick) (starts : List Start) : Type 0 where
  pub before : List Tick
  pub since : List Tick
  pub last : Tick
  pub all : ticks ≡ before ++ (since ++ last ∷ [])
  pub dated : Dated (since ++ last ∷ []) starts

-- there was a tick
abbrev pub HasTicked : List Tick → Type 0
HasTicked ticks = (before : List Tick) × (tick : Tick) × (ticks ≡ before ++ tick ∷ [])

-- From a moment to a later one these ticks were: their moments are what the clock told meanwhile,
-- and their trees are what the files told as the newest, each where it is told.
pub record AreTold (ticks : List Tick) (clock clock' : ClockSeen)
    (files files' : FilesSeen) : Type 0 where
  pub moments : clock.tells ≡ true → clock'.told ≡ clock.told ++ map (λ t. t.moment) ticks
  pub trees : (told : List ℕ) → files'.versions ≡ Some told → (before : List ℕ) ×
      (files.versions ≡ Some before) × (told ≡ before ++ map (λ t. t.tree) ticks)

-- the files tell more trees, and may have failed
pub record Grown (old new : FilesSeen) : Type 0 where
  pub trees : Grow old.newest new.newest old.trees new.trees
  pub faults : old.faults ≤ new.faults

-- a link was opened, and its id was never used before
pub record OpenedAt (id : ℕ) (local peer : Addr) (old new : LinksSeen) : Type 0 where
  pub linked : Updated id (begun local peer old.crowd) old.link new.link
  pub unused : old.used id ≡ false
  pub marked : Marked id true old.used new.used
  pub shut : old.is_open id ≡ false
  pub opened : Marked id true old.is_open new.is_open
  pub later : (c : ℕ) → old.link_faults c ≤ new.link_faults c
  pub crowd : new.crowd ≡ old.crowd + 1
