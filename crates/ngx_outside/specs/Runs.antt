-- What has come and gone on a connection since it was opened.
use Rattle.std.specs.Prelude.{◌≡◌, ℕ, ◌≤◌, true, false, ◌||◌, List, [], ◌++◌, map, Some}
use Rattle.file_tree.specs.Tree.{Trees}
use Rattle.ngx_outside.specs.Outside.{Grow}
use Rattle.ngx_outside.specs.Views.{ConnView, Course, Start, Ground, Holds, Fresh, Went, Stopped, Logged, is_live, is_idle, IsSound}
use Rattle.ngx_outside.specs.declared.event.StopCause.{StopCause}

abbrev pub IsPrefixOf : List ℕ → List ℕ → Type 0
IsPrefixOf xs ys = (rest : List ℕ) × (ys ≡ xs ++ rest)

-- trees that say what was told of each number up to the newest
pub record Agree (told : Trees) (newest : ℕ) (trees : Trees) : Type 0 where
  pub same : (of : ℕ) → of ≤ newest → (path : List ℕ) → trees of path ≡ told of path

-- On a connection on which `whole` was to come at its opening these bytes came and those went.
-- Whether the order of steps can't change the bytes is known from its opening, and so is whether it
-- may be given up. Where it can't, for all trees that agree with what was told: what went is the
-- beginning of what was to come; while the connection is live, what went and what is still to come
-- is all that was to come, however it goes on, and the answers end it where they did; what is
-- logged of its requests are the logs of the responses that were to come; and what is foreseen of
-- subrequests now was foreseen at its opening.
pub record Tracked (whole : Course) (told : Trees) (newest : ℕ) (v : ConnView)
    (came went : List ℕ) : Type 0 where
  pub raceless : v.raceless ≡ whole.raceless
  pub timed : is_live v ≡ true → v.course.timed ≡ whole.timed
  pub front : whole.raceless ≡ true → (trees : Trees) → Agree told newest trees →
      IsPrefixOf went (whole.bytes trees came v.starts)
  pub on : is_live v ≡ true → whole.raceless ≡ true → (trees : Trees) → Agree told newest trees →
      (more : List ℕ) (later : List Start) →
      whole.bytes trees (came ++ more) (v.starts ++ later) ≡ went ++ v.course.bytes trees more later
  pub logged : whole.raceless ≡ true → (trees : Trees) → Agree told newest trees →
      Logged v.logs (whole.logs trees came v.starts)
  pub shown : is_live v ≡ true → (trees : Trees) (more : List ℕ) (later : List Start) →
      Logged v.logs (v.course.logs trees more later)
  pub logs : is_live v ≡ true → whole.raceless ≡ true → (trees : Trees) → Agree told newest trees →
      (more : List ℕ) (later : List Start) →
      whole.logs trees (came ++ more) (v.starts ++ later) ≡ v.course.logs trees more later
  pub closes : is_live v ≡ true → whole.raceless ≡ true → (trees : Trees) →
      Agree told newest trees → (more : List ℕ) (later : List Start) →
      whole.closes trees (came ++ more) (v.starts ++ later) ≡ v.course.closes trees more later
  pub heavy : is_live v ≡ true → whole.raceless ≡ true → (trees : Trees) → Agree told newest trees →
      (more : List ℕ) (later : List Start) →
      v.course.heavy trees more later ≡ true →
      whole.heavy trees (came ++ more) (v.starts ++ later) ≡ true

-- a connection that is opened is tracked, with nothing come and gone
abbrev pub TracksBegin : Type 0
TracksBegin = (whole : Course) (told : Trees) (newest : ℕ) (v : ConnView) → Fresh whole v →
    Tracked whole told newest v [] []

-- it stays so at each step that it goes on by, where the step's ground holds for all trees that
-- agree with what was told
abbrev pub StepsKeepTrack : Type 0
StepsKeepTrack =
    (whole : Course) (told : Trees) (newest : ℕ) (ground : Ground) (old new : ConnView)
    (came went came' went' : List ℕ) (started : List Start) →
    (old.raceless ≡ true → (trees : Trees) → Agree told newest trees → Holds ground trees) →
    Tracked whole told newest old came went → Went ground old new came' went' started →
    Tracked whole told newest new (came ++ came') (went ++ went')

-- and at its stop, whatever more bytes are said to have come
abbrev pub StopsKeepTrack : Type 0
StopsKeepTrack =
    (whole : Course) (told : Trees) (newest : ℕ) (cause : StopCause) (old new : ConnView)
    (came went more : List ℕ) (started : List Start) →
    Tracked whole told newest old came went → Stopped cause old new started →
    Tracked whole told newest new (came ++ more) went

-- and while the files tell more trees
abbrev pub TracksNarrow : Type 0
TracksNarrow =
    (whole : Course) (told told' : Trees) (newest newest' : ℕ) (v : ConnView) (came went : List ℕ) →
    Grow newest newest' told told' → Tracked whole told newest v came went →
    Tracked whole told' newest' v came went

-- where a connection is idle all has gone that was to come, whatever starts later
abbrev pub AllIsSentWhenIdle : Type 0
AllIsSentWhenIdle =
    (whole : Course) (told : Trees) (newest : ℕ) (v : ConnView) (came went : List ℕ) →
    Tracked whole told newest v came went → IsSound v → is_idle v ≡ true → whole.raceless ≡ true →
    (trees : Trees) → Agree told newest trees → (later : List Start) →
    whole.bytes trees came (v.starts ++ later) ≡ went

-- where a live connection is to be closed, all has gone that was to come; and where its input
-- hasn't ended, that is so whatever else would arrive
abbrev pub AllIsSentWhenShut : Type 0
AllIsSentWhenShut =
    (whole : Course) (told : Trees) (newest : ℕ) (v : ConnView) (came went : List ℕ) →
    Tracked whole told newest v came went → IsSound v → is_live v ≡ true → v.shut ≡ true →
    v.ended ≡ false → whole.raceless ≡ true →
    (trees : Trees) → Agree told newest trees → (more : List ℕ) (later : List Start) →
    whole.bytes trees (came ++ more) (v.starts ++ later) ≡ went

-- an idle connection is to be closed exactly where its input has ended or the answers to what came
-- end it
abbrev pub ShutIsExact : Type 0
ShutIsExact =
    (whole : Course) (told : Trees) (newest : ℕ) (v : ConnView) (came went : List ℕ) →
    Tracked whole told newest v came went → IsSound v → is_idle v ≡ true → whole.raceless ≡ true →
    (trees : Trees) → Agree told newest trees → (later : List Start) →
    v.shut ≡ (v.ended || whole.closes trees came (v.starts ++ later))

-- where a connection is idle each of its requests is over, and logged
abbrev pub AllIsLoggedWhenIdle : Type 0
AllIsLoggedWhenIdle =
    (whole : Course) (told : Trees) (newest : ℕ) (v : ConnView) (came went : List ℕ) →
    Tracked whole told newest v came went → IsSound v → is_idle v ≡ true → whole.raceless ≡ true →
    (trees : Trees) → Agree told newest trees → (later : List Start) →
    v.logs ≡ map (λ l. Some l) (whole.logs trees came (v.starts ++ later))
