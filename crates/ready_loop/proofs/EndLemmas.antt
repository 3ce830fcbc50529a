-- How serving ends by what was heard, and how many notices that were.
use Rattle.std.proofs.Common.{◌≡◌, ◌≢◌, ℕ, ◌+◌, ◌-◌, ◌^◌, ◌<◌, ◌≤◌, min, None, Some, Result, Ok, arith}
use Rattle.ready_loop.specs.Turns.{TurnsTaken, HeardCounts, ending_of}
use Rattle.ready_loop.specs.declared.hear.Heard.{Heard}
use Rattle.ready_loop.specs.declared.hear.Heard.TheVariants as heard
use Rattle.ready_loop.specs.declared.service.Ending.{Ending}
use Rattle.ready_loop.specs.declared.service.Ending.TheVariants as ending

some_is : {A : Type 0} {x y : A} → Some x ≡ Some y → x ≡ y
some_is e = cc

pub ok_is : {E : Type 0} {x y : Ending} → (let r : Result Ending E = Ok x in r) ≡ Ok y → x ≡ y
ok_is e = cc

pub never_listened : (h : Heard) (e : Ending) → ending_of h ≡ Some e → e ≢ ending.ListenFault
never_listened (heard.At conn due) e is = cc
never_listened heard.Nothing e is = cc
never_listened heard.Ended e is = λ f. (let g : ending.Ended ≡ e = some_is is in cc)
never_listened heard.Failed e is = λ f. (let g : ending.NextFault ≡ e = some_is is in cc)

pub is_ended : (h : Heard) (e : Ending) → ending_of h ≡ Some e → e ≡ ending.Ended → h ≡ heard.Ended
is_ended (heard.At conn due) e is f = cc
is_ended heard.Nothing e is f = cc
is_ended heard.Ended e is f = cc
is_ended heard.Failed e is f = absurd (let g : ending.NextFault ≡ e = some_is is in cc)

pub is_failed : (h : Heard) (e : Ending) → ending_of h ≡ Some e → e ≡ ending.NextFault → h ≡ heard.Failed
is_failed (heard.At conn due) e is f = cc
is_failed heard.Nothing e is f = cc
is_failed heard.Ended e is f = absurd (let g : ending.Ended ≡ e = some_is is in cc)
is_failed heard.Failed e is f = cc

-- one notice more was handled
pub counted_one : (h : Heard) (turn before mid after : ℕ) → ending_of h ≡ None → mid ≡ min (before + turn) (2 ^ 64 - 1) → HeardCounts h mid after → after ≡ min (before + (turn + 1)) (2 ^ 64 - 1)
counted_one (heard.At conn due) turn before mid after is m n = omega (arith, m, n)
counted_one heard.Nothing turn before mid after is m n = omega (arith, m, n)
counted_one heard.Ended turn before mid after is m n = cc
counted_one heard.Failed turn before mid after is m n = cc

-- fewer were, where it ended
pub ended_turns : (h : Heard) (e : Ending) (turns turn before mid after : ℕ) → ending_of h ≡ Some e → turn < turns → before ≤ 2 ^ 64 - 1 → mid ≡ min (before + turn) (2 ^ 64 - 1) → HeardCounts h mid after → TurnsTaken e turns before after
ended_turns (heard.At conn due) e turns turn before mid after is less small m n = cc
ended_turns heard.Nothing e turns turn before mid after is less small m n = cc
ended_turns heard.Ended e turns turn before mid after is less small m n = by_end e (some_is is)
  where
    by_end : (x : Ending) → ending.Ended ≡ x → TurnsTaken x turns before after
    by_end ending.Ended f = (omega (arith, m, n, small), omega (arith, m, n, less))
    by_end ending.TurnsUsed f = cc
    by_end ending.ListenFault f = cc
    by_end ending.NextFault f = cc
ended_turns heard.Failed e turns turn before mid after is less small m n = by_end e (some_is is)
  where
    by_end : (x : Ending) → ending.NextFault ≡ x → TurnsTaken x turns before after
    by_end ending.NextFault f = (omega (arith, m, n, small), omega (arith, m, n, less))
    by_end ending.Ended f = cc
    by_end ending.TurnsUsed f = cc
    by_end ending.ListenFault f = cc
