-- A main request and its subrequests as one line: the bytes that are placed and the nodes that go on, in the order of the
-- response (https://nginx.org/en/docs/dev/development_guide.html#http_subrequests). A subrequest comes right before its
-- parent. One whose body goes elsewhere, to a variable or nowhere, has a line of its own.
use Rattle.std.specs.Prelude.{ℕ, ◌-◌, Bool, true, false, List, [], ◌++◌, length, drop, Option, None, Some}
use Rattle.file_tree.specs.Tree.{Tree}
use Rattle.acts.specs.Vars.{Vars}
use Rattle.acts.specs.Act.{Done, Get, Put, Stat, Call, Write, Inner}
use Rattle.request_meaning.specs.Serving.{World, Serving, Child, Reply, Answer}
use Rattle.request_meaning.specs.Replies.{run, reply, script, or_stub}

pub data Line : Type 0 where
  Nil : Line
  -- bytes that wait
  Bytes : (bytes : List ℕ) → Line → Line
  -- a node that goes on, by its number; its subrequests may nest this deep
  Gives : (node : ℕ) → (left : ℕ) → Serving Answer → Line → Line
  -- a node that waits for the reply of a subrequest, which has its own line
  Waits : (node : ℕ) → (own : Line) → (left : ℕ) → (Reply → Serving Answer) → Line → Line
  -- a subrequest with a stub, of which it isn't known yet which of the two is put here; its own line
  Stubs : (own : Line) → (stub : List ℕ) → Line → Line

-- what a line comes to: the answer of its last node, its bytes, and the variables
pub record Left : Type 0 where
  pub answer : Option Answer
  pub body : List ℕ
  pub vars : Vars

abbrev pub before : List ℕ → Left → Left
before bytes left = record { answer = left.answer; body = bytes ++ left.body; vars = left.vars }

-- a line with no node replies nothing
abbrev pub nothing : Vars → Left
nothing vars = record { answer = None; body = []; vars = vars }

abbrev pub reply_of : Answer → List ℕ → Reply
reply_of answer body = record { answer = answer; body = body }

abbrev pub status_of : Option Answer → ℕ
status_of None = 0
status_of (Some answer) = answer.status

-- What is still to come of a line where its nodes run one by one, each in its place: `last` is the answer of the node before.
unfoldable pub rest : World → Tree → Line → (last : Option Answer) → Vars → Left
rest w tree Nil last vars = record { answer = last; body = []; vars = vars }
rest w tree (Bytes bytes line) last vars = before bytes (rest w tree line last vars)
rest w tree (Gives node left m line) last vars =
    let r = run tree (reply w tree left) m vars in
    before r.body (rest w tree line (Some r.result) r.vars)
rest w tree (Waits node own left k line) last vars =
    let r = rest w tree own None vars in
    elim r.answer [
      | None ↦ rest w tree line None r.vars
      | Some answer ↦ let q = run tree (reply w tree left) (k (reply_of answer r.body)) r.vars in
          before q.body (rest w tree line (Some q.result) q.vars)
    ]
rest w tree (Stubs own stub line) last vars =
    let r = rest w tree own None vars in
    before (or_stub (Some stub) (status_of r.answer) r.body) (rest w tree line r.answer r.vars)

-- one line before another
unfoldable pub joined : Line → Line → Line
joined Nil other = other
joined (Bytes bytes line) other = Bytes bytes (joined line other)
joined (Gives node left m line) other = Gives node left m (joined line other)
joined (Waits node own left k line) other = Waits node own left k (joined line other)
joined (Stubs own stub line) other = Stubs own stub (joined line other)

-- where a subrequest begins: in the line before its parent, or with a stub apart
abbrev pub with_stub : Option (List ℕ) → Line → Line → Line
with_stub None own line = joined own line
with_stub (Some stub) own line = Stubs own stub line

abbrev pub begun : World → (node : ℕ) → (left : ℕ) → Child → Line
begun w node left c = Gives node left (script w left c) Nil

abbrev pub opened : World → (node : ℕ) → (left : ℕ) → Child → Line → Line
opened w node left c line = with_stub c.stub (begun w node left c) line

-- a node is in the line
unfoldable pub has_node : Line → Bool
has_node Nil = false
has_node (Bytes bytes line) = has_node line
has_node (Gives node left m line) = true
has_node (Waits node own left k line) = true
has_node (Stubs own stub line) = true

-- The reply of a line of which every node is over; none of another line.
abbrev pub with_bytes : List ℕ → Option Reply → Option Reply
with_bytes bytes None = None
with_bytes bytes (Some r) = Some (reply_of r.answer (bytes ++ r.body))

abbrev pub some_reply : Option Answer → Option Reply
some_reply None = None
some_reply (Some answer) = Some (reply_of answer [])

abbrev pub done_of : Serving Answer → Option Answer
done_of (Done answer) = Some answer
done_of (Get name k) = None
done_of (Put name value m) = None
done_of (Stat path k) = None
done_of (Call child k) = None
done_of (Write bytes m) = None
done_of (Inner child m) = None

unfoldable pub ended : Line → (last : Option Answer) → Option Reply
ended Nil last = some_reply last
ended (Bytes bytes line) last = with_bytes bytes (ended line last)
ended (Gives node left m line) last = elim (done_of m) [
  | None ↦ None
  | Some answer ↦ ended line (Some answer)
]
ended (Waits node own left k line) last = None
ended (Stubs own stub line) last = None

-- the bytes that wait before every node: they may leave
unfoldable pub front : Line → List ℕ
front Nil = []
front (Bytes bytes line) = bytes ++ front line
front (Gives node left m line) = []
front (Waits node own left k line) = []
front (Stubs own stub line) = []

-- the line without this many of them
unfoldable pub used : (count : ℕ) → Line → Line
used count Nil = Nil
used count (Bytes bytes line) = Bytes (drop count bytes) (used (count - length bytes) line)
used count (Gives node left m line) = Gives node left m line
used count (Waits node own left k line) = Waits node own left k line
used count (Stubs own stub line) = Stubs own stub line
