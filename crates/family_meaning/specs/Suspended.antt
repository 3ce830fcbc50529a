-- Where one request may be while it waits, and what it still does from there: the acts of serving from that place on.
use Rattle.std.specs.Prelude.{ℕ, zero, suc, Bool, true, false, List, ◌++◌, map, Option, if◌then◌else◌}
use Rattle.acts.specs.Vars.{Vars}
use Rattle.acts.specs.Act.{Done, Stat, Call, ◌>>=◌, ◌>>◌}
use Rattle.file_tree.specs.Tree.{node_of}
use Rattle.request_meaning.specs.filter_api.Members.{Machine}
use Rattle.request_meaning.specs.filter_api.Chains.{still}
use Rattle.request_meaning.specs.filter_api.declared.stage.Stage.{Stage}
use Rattle.request_meaning.specs.static_content.Content.{content_for}
use Rattle.request_meaning.specs.ssi_text.Marks.{Mark, Byte}
use Rattle.request_meaning.specs.site_views.Values.{Values, Text, IndexName, LastTry}
use Rattle.request_meaning.specs.site_views.Rewrites.{FileTest, Program}
use Rattle.request_meaning.specs.site_views.Rewrites.FileTest.{IsFolder}
use Rattle.request_meaning.specs.Serving.{World, Serving, Child, Reply, Answer, Prepared, Asked, Standing, writes}
use Rattle.request_meaning.specs.Rewriting.{Passed, on, if_step, says, passes, rewritten}
use Rattle.request_meaning.specs.Answering.{page}
use Rattle.request_meaning.specs.Errors.{Decided, decided, Next, outcome_next}
use Rattle.request_meaning.specs.Errors.Outcome.{Seeks}
use Rattle.request_meaning.specs.Access.{Verdict, fit_verdict, status_verdict, sets, auth_child}
use Rattle.request_meaning.specs.Contents.{fails, content_outcome, try_at, tried, index_at, indexed}
use Rattle.request_meaning.specs.Phases.{after_program, find_config, access, by_verdict, until, rounds}
use Rattle.request_meaning.specs.Documents.{Doc}
use Rattle.request_meaning.specs.Commands.{captured}
use Rattle.request_meaning.specs.Bodies.{body, written}

-- ---- in the phases

-- What a request waits for in its phases: a file test of the server's program or of a location's, with the directives after
-- it; the reply of an auth subrequest; what is at a name of `try_files` or of `index`, with the names after it; whether a
-- folder without an index is there; what is at its path.
pub data Wait : Type 0 where
  AtTest : (path : List ℕ) → (test : FileTest) → (negated : Bool) → (block : ℕ) → (values : Option Values) → (later : Program) → Passed → (at_server : Bool) → Wait
  AtAuth : (path : List ℕ) → Standing → Wait
  AtTry : (path name : List ℕ) → (names : List Text) → (last : LastTry) → Standing → Wait
  AtIndex : (path name : List ℕ) → (names : List IndexName) → Standing → Wait
  AtFolder : (path : List ℕ) → Standing → Wait
  AtFile : (path : List ℕ) → Standing → Wait

-- what follows a program that came to its end
abbrev pub follows : World → Asked → (at_server : Bool) → Passed → Serving Decided
follows w a true p = find_config w a p.at
follows w a false p = if p.seeks then Done (decided p.at Seeks) else access a p.at

-- the verdict by an auth subrequest's reply
unfoldable pub heard_verdict : Asked → Standing → Reply → Serving Verdict
heard_verdict a s reply = do
  fit ← sets a.main reply.answer.request s.values.auth_sets
  Done (fit_verdict fit (status_verdict reply.answer.status))

-- the phases of this round from there on
unfoldable pub wait_rest : World → Asked → Wait → Serving Decided
wait_rest w a (AtTest path test negated block values later p at_server) = Stat path (λ item. (do
  r ← on (if_step negated block values p (says (passes test item))) (λ skip q. rewritten w a.main false skip later q)
  after_program at_server r (follows w a at_server)))
wait_rest w a (AtAuth path s) = Call (auth_child a.main path) (λ reply. (do
  v ← heard_verdict a s reply
  by_verdict a s v))
wait_rest w a (AtTry path name names last s) = Stat path (λ item. try_at a.main s name item (tried a.main s names last))
wait_rest w a (AtIndex path name names s) = Stat path (λ item. index_at s (s.request.path ++ name) item (indexed a.main s names))
wait_rest w a (AtFolder path s) = Stat path (λ item. fails s (if passes IsFolder item then 403 else 404))
wait_rest w a (AtFile path s) =
    Stat path (λ item. Done (decided s (content_outcome s.request item (content_for (node_of item) s.request.method false))))

-- the rounds after a change, where this many are left before it
abbrev pub again : World → (left : ℕ) → Standing → Asked → Serving Prepared
again w zero s b = Done (page b s 500)
again w (suc left) s b = rounds w left b

-- what this round decides, and the rounds after it
unfoldable pub round_rest : World → (left : ℕ) → Asked → Serving Decided → Serving Next
round_rest w left a m = do
  d ← m
  outcome_next w left a d.at d.outcome

unfoldable pub rounds_rest : World → (left : ℕ) → Asked → Serving Decided → Serving Prepared
rounds_rest w left a m = do
  next ← round_rest w left a m
  until (again w left) next

-- and the body: all that the request still does
unfoldable pub phases_rest : World → (left depth : ℕ) → Vars → Asked → Serving Decided → Serving Answer
phases_rest w left depth ssi a m = do
  p ← rounds_rest w left a m
  written w depth ssi p.answer p.body
  Done p.answer

-- ---- in the body

-- bytes that no filter acts on
unfoldable pub plain_rest : Answer → List ℕ → Serving Answer
plain_rest answer bytes = do
  writes bytes
  Done answer

-- A document: the parts that the filters gave and that aren't served yet, and what the filters still make of the bytes of the
-- file that aren't read yet.
unfoldable pub document_rest : World → Answer → Doc → List Mark → List Machine → List Stage → List ℕ → Serving Answer
document_rest w answer doc parts machines stages bytes = do
  body w doc (parts ++ still machines stages (map Byte bytes))
  Done answer

-- one that waits for a body that goes into a variable
unfoldable pub capture_rest : World → Answer → Doc → (name : List ℕ) → Child → List Mark → List Machine → List Stage → List ℕ → Serving Answer
capture_rest w answer doc name child parts machines stages bytes = Call child (λ reply. (do
  doc' ← captured doc name reply.body
  document_rest w answer doc' parts machines stages bytes))

-- ---- all of it

-- Where a request is. (The table that an act reads and writes is the family's.)
pub data Suspended : Type 0 where
  InPhases : (left depth : ℕ) → (ssi : Vars) → Asked → Wait → Suspended
  InPlain : Answer → (bytes : List ℕ) → Suspended
  InDocument : Answer → Doc → (parts : List Mark) → (machines : List Machine) → (stages : List Stage) → (bytes : List ℕ) → Suspended
  InCapture : Answer → Doc → (name : List ℕ) → Child → (parts : List Mark) → (machines : List Machine) → (stages : List Stage) → (bytes : List ℕ) → Suspended
  AtEnd : Answer → Suspended

-- what it still does
unfoldable pub rest_of : World → Suspended → Serving Answer
rest_of w (InPhases left depth ssi a wait) = phases_rest w left depth ssi a (wait_rest w a wait)
rest_of w (InPlain answer bytes) = plain_rest answer bytes
rest_of w (InDocument answer doc parts machines stages bytes) = document_rest w answer doc parts machines stages bytes
rest_of w (InCapture answer doc name child parts machines stages bytes) = capture_rest w answer doc name child parts machines stages bytes
rest_of w (AtEnd answer) = Done answer
