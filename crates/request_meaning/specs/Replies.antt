-- The reply to a request: the acts of serving it, run over a whole tree of files, with each subrequest's own reply in its place.
use Rattle.std.specs.Prelude.{ℕ, zero, suc, nat_le, true, false, List, [], ◌∷◌, ◌++◌, Option, None, Some, if◌then◌else◌}
use Rattle.file_tree.specs.Tree.{Tree}
use Rattle.acts.specs.Vars.{Vars, look, set}
use Rattle.acts.specs.Act.{Done, Get, Put, Stat, Call, Write, Inner, ◌>>=◌, ◌>>◌}
use Rattle.http_types.specs.declared.words.Method.TheVariants.{Get as GetMethod}
use Rattle.file_path.specs.ngx_variables.declared.request.Main.{Main}
use Rattle.file_path.specs.ngx_variables.declared.request.Request.{Request}
use Rattle.request_meaning.specs.Serving.{World, Serving, Child, Reply, Answer, Asked}
use Rattle.request_meaning.specs.Serving.From.{Start}
use Rattle.request_meaning.specs.Phases.{rounds, standing}
use Rattle.request_meaning.specs.Answering.{page}
use Rattle.request_meaning.specs.Bodies.{written}

-- ---- scripts: what serving a request does

-- ten changes are made at most
abbrev pub most_changes : ℕ
most_changes = 10

-- subrequests nest at most this deep
abbrev pub most_depth : ℕ
most_depth = 50

-- a request is served: the phases up to its answer, and then the body
unfoldable pub served : World → (left : ℕ) → Vars → Asked → Serving Answer
served w left ssi a = do
  p ← rounds w most_changes a
  written w left ssi p.answer p.body
  Done p.answer

-- a main request comes from outside
abbrev pub outside : Main → Request → Asked
outside main request = record { main = main; request = request; from = Start; inside = false; error = None; closes = false }

-- a subrequest is inside, and is asked with GET
abbrev pub child_request : Child → Request
child_request c = record { method = GetMethod; path = c.path; args = c.args; groups = []; place = None; role = c.role }

abbrev pub child_asked : Child → Asked
child_asked c = record { main = c.main; request = child_request c; from = Start; inside = true; error = None; closes = false }

unfoldable pub main_script : World → Main → Request → Serving Answer
main_script w main request = served w most_depth [] (outside main request)

unfoldable pub script : World → (left : ℕ) → Child → Serving Answer
script w left c = served w left c.ssi (child_asked c)

-- ---- running them

-- what an act comes to: its result, the bytes of the body, and the table of variables
pub record Came (A : Type 0) : Type 0 where
  pub result : A
  pub body : List ℕ
  pub vars : Vars

abbrev pub after_bytes : {A : Type 0} → List ℕ → Came A → Came A
after_bytes bytes came = record { result = came.result; body = bytes ++ came.body; vars = came.vars }

-- An act is run over a tree: each question is answered at once, each subrequest, of which `inner` says what it comes to, is
-- served in its place, depth first.
unfoldable pub run : {A : Type 0} → Tree → (Child → Vars → Came Answer) → Serving A → Vars → Came A
run tree inner (Done a) vars = record { result = a; body = []; vars = vars }
run tree inner (Get name k) vars = run tree inner (k (look vars name)) vars
run tree inner (Put name value m) vars = run tree inner m (set name value vars)
run tree inner (Stat path k) vars = run tree inner (k (tree path)) vars
run tree inner (Call child k) vars =
    let r = inner child vars in
    run tree inner (k (record { answer = r.result; body = r.body })) r.vars
run tree inner (Write bytes m) vars = after_bytes bytes (run tree inner m vars)
run tree inner (Inner child m) vars =
    let r = inner child vars in
    after_bytes r.body (run tree inner m r.vars)

-- the block of a `stub` takes the place of a body whose status is 400 or more, or that is empty
abbrev pub or_stub : Option (List ℕ) → (status : ℕ) → List ℕ → List ℕ
or_stub None status body = body
or_stub (Some stub) status [] = stub
or_stub (Some stub) status (b ∷ body) = if nat_le 400 status then stub else b ∷ body

abbrev pub stubbed : Child → Came Answer → Came Answer
stubbed c came = record { result = came.result; body = or_stub c.stub came.result.status came.body; vars = came.vars }

-- no script asks for a subrequest where no level is left
unfoldable pub no_reply : World → Child → Vars → Came Answer
no_reply w c vars = record { result = (page (child_asked c) (standing (child_asked c) w.server.level.values) 500).answer; body = []; vars = vars }

-- what a subrequest comes to, which may open one level of subrequests less than this
unfoldable pub reply : World → Tree → (left : ℕ) → Child → Vars → Came Answer
reply w tree zero c vars = no_reply w c vars
reply w tree (suc left) c vars = stubbed c (run tree (reply w tree left) (script w left c) vars)

-- what a main request comes to, where no variable is set yet
unfoldable pub main_came : World → Tree → Main → Request → Came Answer
main_came w tree main request = run tree (reply w tree most_depth) (main_script w main request) []

abbrev pub reply_with : Came Answer → Reply
reply_with came = record { answer = came.result; body = came.body }

-- The reply to a main request.
unfoldable pub main_reply : World → Tree → Main → Request → Reply
main_reply w tree main request = reply_with (main_came w tree main request)
