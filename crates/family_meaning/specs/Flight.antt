-- A request in flight on a connection: what is still to come of its response, and what will be logged of it.
use Rattle.std.specs.Prelude.{◌≡◌, ℕ, ◌+◌, nat_lt, Bool, true, List, [], ◌∷◌, ◌++◌, length, Option, None, Some, if◌then◌else◌}
use Rattle.file_tree.specs.Tree.{Tree}
use Rattle.acts.specs.Vars.{Vars}
use Rattle.http_types.specs.declared.words.Version.{Version}
use Rattle.request_meaning.specs.ngx_variables.declared.request.Main.{Main}
use Rattle.request_meaning.specs.ngx_variables.declared.request.Request.{Request}
use Rattle.request_meaning.specs.Serving.{World, Answer, Reply}
use Rattle.request_meaning.specs.Replies.{main_script, most_depth, main_reply}
use Rattle.request_meaning.specs.Counts.{most_subs}
use Rattle.request_meaning.specs.Responses.{response, content_sent, keeps, log_of}
use Rattle.family_meaning.specs.Line.{Line, Left, rest, reply_of}
use Rattle.family_meaning.specs.Line.Line.{Nil, Gives}
use Rattle.family_meaning.specs.Left.{subs_left}

-- What a response is asked with: its moment, the version, whether no body is sent (HEAD), how many requests came before on the
-- connection, and whether the request's head lets the connection stay open.
pub record Terms : Type 0 where
  pub moment : ℕ
  pub version : Version
  pub no_body : Bool
  pub before : ℕ
  pub head_keeps : Bool

-- A request in flight: its family; its answer, once the head is made; the bytes of the head that aren't put yet; the bytes of
-- the body that have left the line, how many, and which of them make the block that isn't whole yet; and how many subrequests
-- were started.
pub record Flight : Type 0 where
  pub terms : Terms
  pub line : Line
  pub vars : Vars
  pub made : Option Answer
  pub head : List ℕ
  pub gone_by : ℕ
  pub block : List ℕ
  pub started : ℕ

-- how one starts
unfoldable pub begun : World → Main → Request → Terms → Flight
begun w main request terms =
    record {
      terms = terms;
      line = Gives 0 most_depth (main_script w main request) Nil;
      vars = [];
      made = None;
      head = [];
      gone_by = 0;
      block = [];
      started = 0;
    }

-- What is still to come of a response: bytes, whether the connection stays open after it, and what is logged of it, if it
-- isn't yet.
pub record Rest : Type 0 where
  pub bytes : List ℕ
  pub stays : Bool
  pub logs : List (ℕ × ℕ)

abbrev pub no_rest : Rest
no_rest = record { bytes = []; stays = true; logs = [] }

abbrev pub stays_after : Terms → Answer → Bool
stays_after t a = keeps t.before t.head_keeps t.version a

-- the whole response
unfoldable pub whole_rest : Terms → Reply → Rest
whole_rest t r =
    record {
      bytes = response r t.moment t.version t.no_body (stays_after t r.answer);
      stays = stays_after t r.answer;
      logs = log_of r t.no_body ∷ [];
    }

-- after a head that is made: what is left of it, and the body, with the block that isn't whole before it
unfoldable pub made_rest : Flight → Answer → List ℕ → Rest
made_rest f a body =
    record {
      bytes = f.head ++ content_sent a f.terms.version f.terms.no_body (f.block ++ body);
      stays = stays_after f.terms a;
      logs = (a.status, if f.terms.no_body then 0 else f.gone_by + length body) ∷ [];
    }

abbrev pub unmade_rest : Flight → Option Answer → List ℕ → Rest
unmade_rest f None body = no_rest
unmade_rest f (Some a) body = whole_rest f.terms (reply_of a body)

abbrev pub rest_by : Flight → Option Answer → Left → Rest
rest_by f (Some a) r = made_rest f a r.body
rest_by f None r = unmade_rest f r.answer r.body

-- what is still to come of a request in flight, if there is one
unfoldable pub flight_rest : World → Tree → Flight → Rest
flight_rest w tree f = rest_by f f.made (rest w tree f.line f.made f.vars)

abbrev pub rest_of : World → Tree → Option Flight → Rest
rest_of w tree None = no_rest
rest_of w tree (Some f) = flight_rest w tree f

-- more subrequests than this many are asked for, those that were started among them
unfoldable pub asks_over : (most : ℕ) → World → Tree → Flight → Bool
asks_over most w tree f = nat_lt most (f.started + subs_left w tree f.line f.vars)

-- more are asked for than are started for one request
abbrev pub is_heavy : World → Tree → Flight → Bool
is_heavy w tree f = asks_over most_subs w tree f

-- What is still to come at the start is the response that the recursive meaning gives.
abbrev pub BeginsWhole : Type 0
BeginsWhole = (w : World) (tree : Tree) (main : Main) (request : Request) (terms : Terms) → flight_rest w tree (begun w main request terms) ≡ whole_rest terms (main_reply w tree main request)
