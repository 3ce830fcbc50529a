-- What links tell, by id.
use Rattle.std.specs.Prelude.{◌≡◌, ◌≢◌, ℕ, ◌+◌, ◌<◌, ◌≤◌, Bool, true, false, List, [], ◌++◌, take, if◌then◌else◌}
use Rattle.http_types.specs.declared.words.Addr.{Addr}
use Rattle.ngx_outside.specs.Causes.{Rose, next_count}
use Rattle.ngx_outside.specs.declared.links.Notice.{Notice}
use Rattle.ngx_outside.specs.declared.links.Notice.TheVariants.{Opened, Readable, Writable, Nothing, Ended, Failed}
use Rattle.ngx_outside.specs.declared.links.Input.{Input}
use Rattle.ngx_outside.specs.declared.links.Input.TheVariants as input
use Rattle.ngx_outside.specs.declared.links.Output.{Output}
use Rattle.ngx_outside.specs.declared.links.Output.TheVariants as output

-- A link: its two ends, how many others were open when it was reported, what was read of it and
-- written to it, whether it was reported readable and not read since, whether its last write found
-- no room and no room was reported since, and whether a read found the end of its input.
pub record LinkView : Type 0 where
  pub local : Addr
  pub peer : Addr
  pub among : ℕ
  pub taken : List ℕ
  pub sent : List ℕ
  pub due : Bool
  pub full : Bool
  pub ended : Bool

-- one link changes so, and no other
pub record Updated (c : ℕ) (f : LinkView → LinkView) (old new : ℕ → LinkView) : Type 0 where
  pub own : new c ≡ f (old c)
  pub others : (d : ℕ) → d ≢ c → new d ≡ old d

abbrev pub begun : Addr → Addr → ℕ → LinkView → LinkView
begun local peer among v = record {
  local = local;
  peer = peer;
  among = among;
  taken = [];
  sent = [];
  due = false;
  full = false;
  ended = false;
}

abbrev pub set_due : Bool → LinkView → LinkView
set_due b v = record {
  local = v.local;
  peer = v.peer;
  among = v.among;
  taken = v.taken;
  sent = v.sent;
  due = b;
  full = v.full;
  ended = v.ended;
}

abbrev pub set_full : Bool → LinkView → LinkView
set_full b v = record {
  local = v.local;
  peer = v.peer;
  among = v.among;
  taken = v.taken;
  sent = v.sent;
  due = v.due;
  full = b;
  ended = v.ended;
}

abbrev pub got : List ℕ → LinkView → LinkView
got bytes v = record {
  local = v.local;
  peer = v.peer;
  among = v.among;
  taken = v.taken
      ++ bytes;
  sent = v.sent;
  due = false;
  full = v.full;
  ended = v.ended;
}

abbrev pub put : List ℕ → LinkView → LinkView
put bytes v = record {
  local = v.local;
  peer = v.peer;
  among = v.among;
  taken = v.taken;
  sent = v.sent
      ++ bytes;
  due = v.due;
  full = v.full;
  ended = v.ended;
}

abbrev pub set_ended : LinkView → LinkView
set_ended v = record {
  local = v.local;
  peer = v.peer;
  among = v.among;
  taken = v.taken;
  sent = v.sent;
  due = false;
  full = v.full;
  ended = true;
}

abbrev pub Unchanged : (ℕ → LinkView) → (ℕ → LinkView) → Type 0
Unchanged old new = (c : ℕ) → new c ≡ old c

-- what a notice says of the links, of which this many are open
abbrev pub Noticed : Notice → ℕ → (ℕ → LinkView) → (ℕ → LinkView) → Type 0
Noticed (Opened id local peer) crowd old new = Updated id (begun local peer crowd) old new
Noticed (Readable id) crowd old new = Updated id (set_due true) old new
Noticed (Writable id) crowd old new = Updated id (set_full false) old new
Noticed Nothing crowd old new = Unchanged old new
Noticed Ended crowd old new = Unchanged old new
Noticed Failed crowd old new = Unchanged old new

-- how many links are open after a notice
abbrev pub crowd_after : Notice → ℕ → ℕ
crowd_after (Opened id local peer) crowd = crowd + 1
crowd_after (Readable id) crowd = crowd
crowd_after (Writable id) crowd = crowd
crowd_after Nothing crowd = crowd
crowd_after Ended crowd = crowd
crowd_after Failed crowd = crowd

-- how many are open after a close, of one that was open or not
abbrev pub CrowdCloses : Bool → ℕ → ℕ → Type 0
CrowdCloses was_open old new = old ≡ (if was_open then new + 1 else new)

-- how many notices were told: none is where no notice will come any more, or where the call failed
abbrev pub notices_after : Notice → ℕ → ℕ
notices_after (Opened id local peer) n = next_count n
notices_after (Readable id) n = next_count n
notices_after (Writable id) n = next_count n
notices_after Nothing n = next_count n
notices_after Ended n = n
notices_after Failed n = n

-- a test of ids that changes at one
pub record Marked (id : ℕ) (b : Bool) (old new : ℕ → Bool) : Type 0 where
  pub own : new id ≡ b
  pub others : (d : ℕ) → d ≢ id → new d ≡ old d

abbrev pub Same : (ℕ → Bool) → (ℕ → Bool) → Type 0
Same old new = (d : ℕ) → new d ≡ old d

-- An id is reported once. Of an id that isn't open nothing else is reported.
abbrev pub Opens : Notice → (ℕ → Bool) → (ℕ → Bool) → (ℕ → Bool) → (ℕ → Bool) → Type 0
Opens (Opened id local peer) used used' is_open is_open' = (used id ≡ false) ×
    Marked id true used used' × (is_open id ≡ false) × Marked id true is_open is_open'
Opens (Readable id) used used' is_open is_open' = (is_open id ≡ true) × Same used used' ×
    Same is_open is_open'
Opens (Writable id) used used' is_open is_open' = (is_open id ≡ true) × Same used used' ×
    Same is_open is_open'
Opens n used used' is_open is_open' = Same used used' × Same is_open is_open'

abbrev pub HasRead : ℕ → Input → List ℕ → (ℕ → LinkView) → (ℕ → LinkView) → Type 0
HasRead id (input.Got count) buf old new = Updated id (got (take count buf)) old new
HasRead id input.NotYet buf old new = Updated id (set_due false) old new
HasRead id input.End buf old new = Updated id set_ended old new
HasRead id input.Failed buf old new = Updated id (set_due false) old new

abbrev pub HasWritten : ℕ → Output → List ℕ → (ℕ → LinkView) → (ℕ → LinkView) → Type 0
HasWritten id (output.Put count) bytes old new = Updated id (put (take count bytes)) old new
HasWritten id output.NotYet bytes old new = Updated id (set_full true) old new
HasWritten id output.Failed bytes old new = Unchanged old new

-- what was got is at most what the buffer holds, and is something
abbrev pub GotWithin : Input → ℕ → Type 0
GotWithin (input.Got count) size = (0 < count) × (count ≤ size)
GotWithin input.NotYet size = Unit {0}
GotWithin input.End size = Unit {0}
GotWithin input.Failed size = Unit {0}

-- what was put is at most the piece
abbrev pub PutWithin : Output → ℕ → Type 0
PutWithin (output.Put count) size = count ≤ size
PutWithin output.NotYet size = Unit {0}
PutWithin output.Failed size = Unit {0}

-- that nothing of a piece was put, which isn't empty, is a fault
abbrev pub PutsNothing : Output → List ℕ → ℕ → ℕ → Type 0
PutsNothing (output.Put count) bytes faults faults' = count ≡ 0 → bytes ≢ [] → Rose faults faults'
PutsNothing output.NotYet bytes faults faults' = Unit {0}
PutsNothing output.Failed bytes faults faults' = Unit {0}
