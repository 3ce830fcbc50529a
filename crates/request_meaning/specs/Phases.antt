-- The phases of a request (https://nginx.org/en/docs/dev/development_guide.html#http_phases): server-rewrite, find-config,
-- rewrite and post-rewrite, access, precontent and content; and their rounds.
use Rattle.std.specs.Prelude.{ℕ, zero, suc, ◌&&◌, nat_le, nat_lt, Bool, true, false, not, List, [], Option, None, Some, if◌then◌else◌}
use Rattle.acts.specs.Act.{Done, ◌>>=◌}
use Rattle.file_path.specs.ngx_variables.declared.request.Request.{Request}
use Rattle.site_views.specs.Values.{Values}
use Rattle.site_views.specs.Views.{LevelView}
use Rattle.site_views.specs.Search.{Found, search, named}
use Rattle.request_meaning.specs.Serving.{World, Serving, Asked, Standing, From, Prepared, is_main}
use Rattle.request_meaning.specs.Serving.From.{Start, Find, Named}
use Rattle.request_meaning.specs.Rewriting.{Ran, Passed, program_run, with_groups, in_level}
use Rattle.request_meaning.specs.Rewriting.Ran.{Ends, Returns, Redirects, Drops, Breaks}
use Rattle.request_meaning.specs.Answering.{page}
use Rattle.request_meaning.specs.Errors.{Decided, decided, Outcome, Next, outcome_next}
use Rattle.request_meaning.specs.Errors.Outcome.{Text, Fails, Gives, Moves, Closes, Seeks}
use Rattle.request_meaning.specs.Errors.Next.{Answered, Changed}
use Rattle.request_meaning.specs.Access.{Verdict, verdict}
use Rattle.request_meaning.specs.Access.Verdict.{LetsIn, Denies}
use Rattle.request_meaning.specs.Contents.{precontent}

-- ---- what a program's end means

-- a code from 400 on without a text is an error; any other sends the text, or nothing
abbrev pub return_outcome : ℕ → Option (List ℕ) → Outcome
return_outcome code (Some text) = Text code text
return_outcome code None = if nat_le 400 code then Fails code else Text code []

-- a text that is too long in the `set`s that begin the server's program is answered by the built-in page
abbrev pub fail_outcome : (at_server first : Bool) → Outcome
fail_outcome at_server first = if at_server && first then Gives 500 else Fails 500

-- k goes on where the program came to its end
abbrev pub after_program : (at_server : Bool) → Ran → (Passed → Serving Decided) → Serving Decided
after_program at_server (Ends p) k = k p
after_program at_server (Returns s code text) k = Done (decided s (return_outcome code text))
after_program at_server (Redirects s code to) k = Done (decided s (Moves code to))
after_program at_server (Drops s) k = Done (decided s Closes)
after_program at_server (Breaks s first) k = Done (decided s (fail_outcome at_server first))

-- ---- access and what follows

abbrev pub by_verdict : Asked → Standing → Verdict → Serving Decided
by_verdict a s LetsIn = precontent a.main s
by_verdict a s (Denies code) = Done (decided s (Fails code))

-- subrequests skip the access phase
unfoldable pub access : Asked → Standing → Serving Decided
access a s =
    if is_main s.request
    then (do
      v ← verdict a.main s.values
      by_verdict a s v)
    else precontent a.main s

-- ---- locations

-- a location's program; where it changed the path, a location is sought again
unfoldable pub in_location : World → Asked → LevelView → Standing → Serving Decided
in_location w a level s = do
  r ← program_run w a.main level.program (in_level level.values s)
  after_program false r (λ p. if p.seeks then Done (decided p.at Seeks) else access a p.at)

-- the main request's own body is longer than the level allows
abbrev pub is_too_large : World → Request → Values → Bool
is_too_large w request values = is_main request && nat_lt 0 values.body_most && nat_lt values.body_most w.length

-- an `internal` location is not there from outside; a request whose body is too large is refused
unfoldable pub entered : World → Asked → Values → Standing → Serving Decided → Serving Decided
entered w a values s k =
    if values.internal && not s.inside then Done (decided (in_level values s) (Fails 404))
    else (if is_too_large w s.request values then Done (decided (in_level values s) (Fails 413)) else k)

-- the server's own level, whose program isn't run again, or a location
unfoldable pub located : World → Asked → Standing → Option Found → Serving Decided
located w a s None =
    entered w a w.server.level.values s (access a (in_level w.server.level.values s))
located w a s (Some found) =
    let s' = record s { request = with_groups found.groups s.request } in
    entered w a found.level.values s' (in_location w a found.level s')

unfoldable pub find_config : World → Asked → Standing → Serving Decided
find_config w a s = located w a s (search w.finds w.server.locations s.request.path)

-- ---- where a round begins

abbrev pub standing : Asked → Values → Standing
standing a values = in_level values (record { request = a.request; values = values; inside = a.inside })

-- a location `@name`; a name that no location has is an error of the level that it was asked from
abbrev pub at_named : World → Asked → Values → Option LevelView → Serving Decided
at_named w a values None = Done (decided (standing a values) (Fails 500))
at_named w a values (Some level) = in_location w a level (standing a values)

unfoldable pub phases_from : World → Asked → From → Serving Decided
phases_from w a Start = do
  r ← program_run w a.main w.server.level.program (standing a w.server.level.values)
  after_program true r (λ p. find_config w a p.at)
phases_from w a Find = find_config w a (standing a w.server.level.values)
phases_from w a (Named values name) = at_named w a values (named w.server name)

-- a round of phases, with this many changes left after it
unfoldable pub round : World → (left : ℕ) → Asked → Serving Next
round w left a = do
  d ← phases_from w a a.from
  outcome_next w left a d.at d.outcome

abbrev pub until : (Standing → Asked → Serving Prepared) → Next → Serving Prepared
until again (Answered p) = Done p
until again (Changed s a) = again s a

-- Rounds of phases, up to an answer. Where no change is left, one more is an error with the built-in page
-- (https://nginx.org/en/docs/dev/development_guide.html#http_phases: no more than ten).
unfoldable pub rounds : World → (left : ℕ) → Asked → Serving Prepared
rounds w zero a = do
  next ← round w 0 a
  until (λ s b. Done (page b s 500)) next
rounds w (suc left) a = do
  next ← round w (suc left) a
  until (λ s b. rounds w left b) next
