-- What the core shows of its connection.
use Rattle.std.specs.Prelude.{◌≡◌, ◌≢◌, ℕ, ◌+◌, ◌*◌, ◌<◌, ◌≤◌, Bool, true, false, ◌&&◌, not, List, [], ◌∷◌, length, take, map, Contains, None, Some, if◌then◌else◌}
use Rattle.ngx_outside.specs.Views.{ConnView, Start, Log, Always, Went, Stopped, Unmoved, Takes, Refused, Ran, nobody, no_bytes, is_live}
use Rattle.ngx_outside.specs.declared.event.StepAnswer.{StepAnswer}
use Rattle.ngx_outside.specs.declared.event.StepAnswer.TheVariants.{Done, Skipped, OutOfMemory}
use Rattle.ngx_outside.specs.declared.event.StopCause.TheVariants as stop
use Rattle.plain_core.specs.declared.conn.Life.{Life}
use Rattle.plain_core.specs.declared.conn.Life.TheVariants as life
use Rattle.plain_core.specs.declared.conn.Conn.{Conn}
use Rattle.plain_core.specs.declared.conn.Request.{Request}
use Rattle.plain_core.specs.Lines.{has_line, course_of}

abbrev pub is_live_at : Life → Bool
is_live_at life.Absent = false
is_live_at life.Live = true
is_live_at (life.Stopped cause) = false

abbrev pub is_absent_at : Life → Bool
is_absent_at life.Absent = true
is_absent_at life.Live = false
is_absent_at (life.Stopped cause) = false

-- it takes bytes
abbrev pub reads_at : Life → Bool → Bool
reads_at l ended = is_live_at l && not ended

-- a request can start: a line is there, and the response before it has gone
abbrev pub can_run_at : Life → List ℕ → List ℕ → Bool
can_run_at l input output = is_live_at l && no_bytes output && has_line input

-- all that was asked is answered, and the answers have gone
abbrev pub is_quiet_at : List ℕ → List ℕ → Bool
is_quiet_at input output = no_bytes output && not (has_line input)

-- and the peer has ended
abbrev pub is_over : List ℕ → List ℕ → Bool → Bool
is_over input output ended = ended && is_quiet_at input output

-- when the requests started that were answered
abbrev pub starts_in : List Request → List Start
starts_in journal = map (λ (r : Request). record { moment = r.moment; tree = r.tree }) journal

-- and what is logged of them
abbrev pub logs_in : List Request → List Log
logs_in journal = map (λ (r : Request). r.log) journal

abbrev pub shown_at : List ℕ → Life → List ℕ → List ℕ → List Request → Bool → ℕ → ConnView
shown_at reply life.Absent input output journal ended due = nobody
shown_at reply (life.Stopped cause) input output journal ended due =
    record {
      held = true;
      cause = Some cause;
      pending = [];
      starts = starts_in journal;
      logs = map (λ l. Some l) (logs_in journal);
      course = nobody.course;
      room = None;
      ready = [];
      jobs = [];
      shut = true;
      ended = ended;
      raceless = true;
      deadline = None;
    }
shown_at reply life.Live input output journal ended due =
    record {
      held = true;
      cause = None;
      pending = output;
      starts = starts_in journal;
      logs = map (λ l. Some l) (logs_in journal);
      course = course_of reply (logs_in journal) input output;
      room = if ended then None else Some 4096;
      ready = if no_bytes output && has_line input then 0 ∷ [] else [];
      jobs = [];
      shut = is_over input output ended;
      ended = ended;
      raceless = true;
      deadline = Some due;
    }

abbrev pub shown : Conn → ConnView
shown c = shown_at c.reply c.life c.input c.output c.journal.items c.ended c.due

-- how many connections are held, by what this one is
abbrev pub crowd_of : Life → ℕ
crowd_of life.Absent = 0
crowd_of life.Live = 1
crowd_of (life.Stopped cause) = 1

-- one that goes isn't held any more
abbrev pub Leaves : StepAnswer → ℕ → ℕ → Type 0
Leaves (Done taken) old new = old ≡ new + 1
Leaves Skipped old new = new ≡ old
Leaves OutOfMemory old new = new ≡ old

-- one that is opened is held from then on
abbrev pub Joins : StepAnswer → ℕ → ℕ → Type 0
Joins (Done taken) old new = new ≡ old + 1
Joins Skipped old new = new ≡ old
Joins OutOfMemory old new = new ≡ old

-- its input has ended where it had before
abbrev pub KeepsEnd : ConnView → ConnView → Type 0
KeepsEnd old new = new.ended ≡ old.ended

-- it ends by an event that is done
abbrev pub EndsBy : StepAnswer → ConnView → ConnView → Type 0
EndsBy (Done taken) old new = new.ended ≡ true
EndsBy Skipped old new = new.ended ≡ old.ended
EndsBy OutOfMemory old new = ⊥

-- no bytes are taken
abbrev pub TakesNo : StepAnswer → Type 0
TakesNo (Done taken) = taken ≡ 0
TakesNo Skipped = Unit {0}
TakesNo OutOfMemory = Unit {0}

abbrev pub is_shut_at : Life → List ℕ → List ℕ → Bool → Bool
is_shut_at life.Absent input output ended = false
is_shut_at life.Live input output ended = is_over input output ended
is_shut_at (life.Stopped cause) input output ended = true

-- the work that is left: each byte to be written, each byte that may have to be answered, the stop
-- and the close
abbrev pub price_of : List ℕ → ℕ
price_of reply = length reply + 2

abbrev pub work_at : List ℕ → Life → List ℕ → List ℕ → ℕ
work_at reply life.Absent input output = 0
work_at reply life.Live input output = 2 + length output + price_of reply * length input
work_at reply (life.Stopped cause) input output = 1

abbrev pub work_of : Conn → ℕ
work_of c = work_at c.reply c.life c.input c.output

-- what each event does to a connection, by the answer
abbrev pub Arrives : Start → List ℕ → StepAnswer → ConnView → ConnView → Type 0
Arrives now bytes (Done taken) old new = Takes old.room bytes taken ×
    Went Always old new (take taken bytes) [] []
Arrives now bytes Skipped old new = Unmoved old new ((room : ℕ) → old.room ≡ Some room → bytes ≡ [])
Arrives now bytes OutOfMemory old new = Refused now old new

abbrev pub Ends : StepAnswer → ConnView → ConnView → Type 0
Ends (Done taken) old new = (old.room ≢ None) × (new.room ≡ None) × Went Always old new [] [] []
Ends Skipped old new = Unmoved old new (old.room ≡ None)
Ends OutOfMemory old new = ⊥

abbrev pub Writes : ℕ → StepAnswer → ConnView → ConnView → Type 0
Writes count (Done taken) old new = (0 < count) × (count ≤ length old.pending) ×
    Went Always old new [] (take count old.pending) []
Writes count Skipped old new = Unmoved old new (0 < count → length old.pending < count)
Writes count OutOfMemory old new = ⊥

abbrev pub Fails : StepAnswer → ConnView → ConnView → Type 0
Fails (Done taken) old new = Stopped stop.LinkFault old new []
Fails Skipped old new = Unmoved old new (is_live old ≡ false)
Fails OutOfMemory old new = ⊥

abbrev pub Runs : Start → ℕ → StepAnswer → ConnView → ConnView → Type 0
Runs now node (Done taken) old new = Contains old.ready node × Ran now old new
Runs now node Skipped old new = Unmoved old new (¬ Contains old.ready node)
Runs now node OutOfMemory old new = Refused now old new

abbrev pub Goes : StepAnswer → ConnView → ConnView → Type 0
Goes (Done taken) old new = (old.shut ≡ true) × (new ≡ nobody)
Goes Skipped old new = Unmoved old new (old.shut ≡ false)
Goes OutOfMemory old new = ⊥

-- how each event changes the work that is left
abbrev pub LeftTaken : ℕ → StepAnswer → ℕ → ℕ → Type 0
LeftTaken price (Done taken) old new = new ≤ old + price * taken
LeftTaken price Skipped old new = new ≡ old
LeftTaken price OutOfMemory old new = new < old

abbrev pub LeftLower : StepAnswer → ℕ → ℕ → Type 0
LeftLower (Done taken) old new = new < old
LeftLower Skipped old new = new ≡ old
LeftLower OutOfMemory old new = new < old

abbrev pub LeftKept : StepAnswer → ℕ → ℕ → Type 0
LeftKept (Done taken) old new = new ≤ old
LeftKept Skipped old new = new ≡ old
LeftKept OutOfMemory old new = new < old
