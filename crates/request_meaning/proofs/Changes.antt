-- The changes that are left.
use Rattle.std.proofs.Common.{◌≡◌, ℕ, zero, suc, refl}
use Rattle.acts.specs.Act.{Done, ◌>>=◌}
use Rattle.request_meaning.specs.Serving.{World, Asked, Standing}
use Rattle.request_meaning.specs.Answering.{page}
use Rattle.request_meaning.specs.Errors.{failed}
use Rattle.request_meaning.specs.Errors.Next.{Answered}
use Rattle.request_meaning.specs.Phases.{round, rounds, until}
use Rattle.request_meaning.specs.Laws.{ChangesFall}

some : (w : World) (left : ℕ) (a : Asked) → rounds w (suc left) a ≡ (round w (suc left) a >>= until (λ s b. rounds w left b))
unfolding rounds
some w left a = refl

none : (w : World) (a : Asked) → rounds w zero a ≡ (round w zero a >>= until (λ s b. Done (page b s 500)))
unfolding rounds
none w a = refl

no_page : (a : Asked) (s : Standing) (code : ℕ) → failed zero a s code ≡ Done (Answered (page a s code))
unfolding failed
no_page a s code = refl

pub fall : ChangesFall
fall = record { some = some; none = none; no_page = no_page }
