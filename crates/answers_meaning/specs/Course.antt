-- What is still to come on a connection: of the request in flight, and of those after it.
use Rattle.std.specs.Prelude.{ℕ, Bool, false, not, ◌||◌, List, [], ◌++◌, drop, Option, None, Some, if◌then◌else◌}
use Rattle.file_tree.specs.Tree.{Tree, Trees}
use Rattle.body_frame.specs.Outcome.{BodyOutcome, Whole, Short, Broken}
use Rattle.body_frame.specs.State.{rest_body}
use Rattle.body_frame.specs.declared.state.BodyState.{BodyState}
use Rattle.ngx_outside.specs.Views.{Start, Log, Course}
use Rattle.family_meaning.specs.request_meaning.Serving.{World}
use Rattle.family_meaning.specs.Flight.{Flight, Rest, no_rest, flight_rest, is_heavy}
use Rattle.answers_meaning.specs.Asking.{Service}
use Rattle.answers_meaning.specs.Answers.{Answer, then_closes, responses, bytes_in, logs_in, close_in, heavy_in}

-- A request in flight with what it is served by, the number of the tree of its start, and what it is for that tree: what a
-- node still does holds the bytes of a file that aren't read yet, which the tree has.
pub record InFlight : Type 0 where
  pub world : World
  pub tree : ℕ
  pub flight : Tree → Flight

abbrev pub rest_at : Option InFlight → Trees → Rest
rest_at None trees = no_rest
rest_at (Some f) trees = flight_rest f.world (trees f.tree) (f.flight (trees f.tree))

abbrev pub heavy_at : Option InFlight → Trees → Bool
heavy_at None trees = false
heavy_at (Some f) trees = is_heavy f.world (trees f.tree) (f.flight (trees f.tree))

-- A connection: what it is served, the bytes for its peer that aren't written yet, the request in flight, how many were
-- started, what is logged of those that are over, whether it closes after what is in flight, the body that is dropped, and
-- the bytes that are buffered.
pub record ConnState : Type 0 where
  pub service : Service
  pub out : List ℕ
  pub flight : Option InFlight
  pub started : ℕ
  pub logs : List Log
  pub closing : Bool
  pub body : Option BodyState
  pub buffered : List ℕ

-- what comes after the body that is dropped: nothing yet where it isn't whole, and the connection closes where it is broken
abbrev pub after_outcome : BodyOutcome → List ℕ → (List ℕ → List Answer) → List Answer
after_outcome (Whole count) bytes following = following (drop count bytes)
after_outcome Short bytes following = []
after_outcome Broken bytes following = then_closes

abbrev pub past_body : Option BodyState → List ℕ → (List ℕ → List Answer) → List Answer
past_body None bytes following = following bytes
past_body (Some state) bytes following = after_outcome (rest_body state bytes) bytes following

-- the answers after the one in flight, unless the connection closes after it
unfoldable pub later_responses : ConnState → Trees → List ℕ → List Start → List Answer
later_responses c trees more later =
    if c.closing || not (rest_at c.flight trees).stays then then_closes
    else past_body c.body (c.buffered ++ more) (λ input. responses c.service c.started trees input later)

-- What is still to come: the bytes for the peer, the rest of the response in flight, and the answers after it; whether the
-- connection closes after them; and whether a request asks for more subrequests than are started for one. There are no deadlines.
unfoldable pub course : (raceless : Bool) → ConnState → Course
course raceless c =
    record {
      bytes = λ trees more later. c.out ++ ((rest_at c.flight trees).bytes ++ bytes_in (later_responses c trees more later));
      logs = λ trees more later. c.logs ++ ((rest_at c.flight trees).logs ++ logs_in (later_responses c trees more later));
      closes = λ trees more later. close_in (later_responses c trees more later);
      heavy = λ trees more later. heavy_at c.flight trees || heavy_in (later_responses c trees more later);
      raceless = raceless;
      timed = false;
    }
