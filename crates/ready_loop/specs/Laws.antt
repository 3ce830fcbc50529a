-- What the account of a connection comes to.
use Rattle.std.specs.Prelude.{◌≡◌, ℕ, Bool, true, false, List, [], ◌++◌, length, None}
use Rattle.std.specs.List.{All, Contains}
use Rattle.file_tree.specs.Tree.{Trees}
use Rattle.ngx_outside.specs.Seen.{CoreSeen, LinksSeen, FilesSeen}
use Rattle.ngx_outside.specs.Views.{ConnView, Course, Start, IsSound}
use Rattle.ngx_outside.specs.Runs.{Agree}
use Rattle.link_service.specs.Seen.{Tick, IsDated, start_at, last_start}
use Rattle.link_service.specs.Standing.{Account, Marks, Kept}

-- what is so at the beginning
abbrev pub marks_of : CoreSeen → LinksSeen → FilesSeen → Marks
marks_of core links files = record
    { link = links.link_faults; files = files.faults; refused = core.refused; terms = core.terms }

abbrev pub KeptBegins : Type 0
KeptBegins =
    (core : CoreSeen) (links : LinksSeen) (files : FilesSeen) →
    ((c : ℕ) → (core.view c).held ≡ false) → ((c : ℕ) → links.is_open c ≡ false) →
    ((c : ℕ) → links.used c ≡ false) →
    length core.conns ≡ links.crowd → core.now ≡ last_start [] →
    Kept (marks_of core links files) (λ c. core.terms.fresh) core links files []

-- where it was known at the opening that the order of steps can't change the bytes, and the trees
-- agree with what the files tell
abbrev pub ClosedUnstoppedSentAll : Type 0
ClosedUnstoppedSentAll =
    (whole : Course) (files : FilesSeen) (ticks : List Tick) (last : ConnView) (came went : List ℕ)
    (found_end : Bool) →
    Account (Unit {0}) (Unit {0}) (Unit {0}) whole files ticks last came went found_end →
    IsSound last → last.shut ≡ true → last.cause ≡ None → whole.raceless ≡ true →
    (trees : Trees) → Agree files.trees files.newest trees → (later : List Start) →
    whole.bytes trees came (last.starts ++ later) ≡ went

-- And where no read found the end of the input, that is so whatever else would have arrived:
-- nothing that could still come was cut off.
abbrev pub ClosedUnendedSentAll : Type 0
ClosedUnendedSentAll =
    (whole : Course) (files : FilesSeen) (ticks : List Tick) (last : ConnView)
    (came went : List ℕ) →
    Account (Unit {0}) (Unit {0}) (Unit {0}) whole files ticks last came went false → IsSound last →
    last.shut ≡ true → last.cause ≡ None → whole.raceless ≡ true →
    (trees : Trees) → Agree files.trees files.newest trees → (more : List ℕ) (later : List Start) →
    whole.bytes trees (came ++ more) (last.starts ++ later) ≡ went

-- each request starts at one of the ticks
abbrev pub StartsWereTold : Type 0
StartsWereTold = (ticks : List Tick) (starts : List Start) → IsDated ticks starts →
    All (λ (s : Start). (tick : Tick) × Contains ticks tick × (s ≡ start_at tick)) starts
