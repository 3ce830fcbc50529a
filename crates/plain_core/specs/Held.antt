-- What the core shows of all connections.
use Rattle.std.specs.Prelude.{◌≡◌, ℕ, ◌==◌, ◌+◌, ◌≤◌, Bool, true, false, List, [], ◌∷◌, Option, None, Some, if◌then◌else◌}
use Rattle.http_types.specs.declared.words.Addr.{Addr}
use Rattle.ngx_outside.specs.Causes.{Rose}
use Rattle.ngx_outside.specs.Views.{ConnView, Course, Start, Fresh, nobody}
use Rattle.ngx_outside.specs.Wants.{wants_at}
use Rattle.ngx_outside.specs.declared.event.StepAnswer.{StepAnswer}
use Rattle.ngx_outside.specs.declared.event.StepAnswer.TheVariants.{Done, Skipped, OutOfMemory}
use Rattle.ngx_outside.specs.declared.event.Want.{Want}
use Rattle.ngx_outside.specs.declared.event.Want.TheVariants as want
use Rattle.plain_core.specs.declared.state.State.{State}
use Rattle.plain_core.specs.Lines.{course_of}
use Rattle.plain_core.specs.Shown.{shown, work_of, price_of, is_absent_at}

-- one connection, and nobody elsewhere
abbrev pub at_conn : ℕ → ConnView → ℕ → ConnView
at_conn n v c = if c == n then v else nobody

abbrev pub view_of : State → ℕ → ConnView
view_of s = at_conn s.number (shown s.conn)

abbrev pub conns_at : ℕ → ConnView → List ℕ
conns_at n v = if v.held then n ∷ [] else []

abbrev pub conns_of : State → List ℕ
conns_of s = conns_at s.number (shown s.conn)

abbrev pub now_of : State → Start
now_of s = record { moment = s.moment; tree = s.tree }

-- on each connection that is opened the same text is to come for each line
abbrev pub fresh_of : State → Addr → Addr → Course
fresh_of s local peer = course_of s.conn.reply [] [] []

abbrev pub opens_of : State → ℕ → Addr → Bool
opens_of s conn local = is_absent_at s.conn.life

abbrev pub left_of : State → ℕ
left_of s = work_of s.conn

abbrev pub price_at : State → ℕ
price_at s = price_of s.conn.reply

abbrev pub refused_of : State → ℕ
refused_of s = s.refused

-- what an opening does
abbrev pub Begins : Course → StepAnswer → ConnView → ConnView → Type 0
Begins course (Done taken) old new = (old.held ≡ false) × Fresh course new
Begins course Skipped old new = new ≡ old
Begins course OutOfMemory old new = new ≡ old

abbrev pub LeftBegun : ℕ → StepAnswer → ℕ → ℕ → Type 0
LeftBegun price (Done taken) old new = new ≤ old + price
LeftBegun price Skipped old new = new ≡ old
LeftBegun price OutOfMemory old new = new ≡ old

-- the input of each connection has ended where it had before
abbrev pub KeepsEnds : (ℕ → ConnView) → (ℕ → ConnView) → Type 0
KeepsEnds old new = (c : ℕ) → (new c).ended ≡ (old c).ended

-- an event that is done says so of the input of its connection, and nothing of another's
abbrev pub Ending : ℕ → Bool → StepAnswer → (ℕ → ConnView) → (ℕ → ConnView) → Type 0
Ending conn ended (Done taken) old new = (c : ℕ) →
    (new c).ended ≡ (if c == conn then ended else (old c).ended)
Ending conn ended Skipped old new = KeepsEnds old new
Ending conn ended OutOfMemory old new = KeepsEnds old new

-- a refused event is counted, and no other
abbrev pub RefusedBy : StepAnswer → ℕ → ℕ → Type 0
RefusedBy (Done taken) old new = new ≡ old
RefusedBy Skipped old new = new ≡ old
RefusedBy OutOfMemory old new = Rose old new

-- what the core wants of its connection, by what it is
abbrev pub wants_of_state : State → List Want
wants_of_state s = wants_at s.number (shown s.conn)

-- the first of these wants that is there: a read of at most 4096 bytes, a run of node 0, a write,
-- the close
abbrev pub first_of : ℕ → (reads runs writes shut : Bool) → Option Want
first_of n true runs writes shut = Some (want.Read n 4096)
first_of n false true writes shut = Some (want.Run n 0)
first_of n false false true shut = Some (want.Write n)
first_of n false false false true = Some (want.Close n)
first_of n false false false false = None
