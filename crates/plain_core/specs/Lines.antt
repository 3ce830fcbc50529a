-- Requests of one line, each answered by one text.
use Rattle.std.specs.Prelude.{ℕ, ◌==◌, Bool, true, false, List, [], ◌∷◌, ◌++◌, length, map, flat_map, if◌then◌else◌}
use Rattle.ngx_outside.specs.Views.{Start, Log, Course}

-- a line ends within
unfoldable pub has_line : List ℕ → Bool
has_line [] = false
has_line (b ∷ bytes) = if b == 10 then true else has_line bytes

-- what comes after the first line
unfoldable pub after_line : List ℕ → List ℕ
after_line [] = []
after_line (b ∷ bytes) = if b == 10 then bytes else after_line bytes

-- the requests of an input: one for each line, as long as requests start
unfoldable pub requests : List ℕ → List Start → List Start
requests input [] = []
requests input (now ∷ later) = if has_line input then now ∷ requests
    (after_line input) later else []

-- each is answered by the text
abbrev pub answers : List ℕ → List Start → List ℕ
answers reply asked = flat_map (λ now. reply) asked

-- and is logged with status 200 and the text's length
abbrev pub logs : List ℕ → List Start → List Log
logs reply asked = map (λ now. (200, length reply)) asked

-- What comes of a connection: what is pending, then the answers to what is held and to what
-- arrives; the logs of those that are past, then the logs of these.
abbrev pub course_of : List ℕ → List Log → List ℕ → List ℕ → Course
course_of reply past held pending =
    record {
      bytes = λ trees more later. pending ++ answers reply (requests (held ++ more) later);
      logs = λ trees more later. past ++ logs reply (requests (held ++ more) later);
      closes = λ trees more later. false;
      heavy = λ trees more later. false;
      raceless = true;
      timed = true;
    }
