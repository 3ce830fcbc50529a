-- In what the bytes end that a connection keeps for its peer.
use Rattle.std.specs.Prelude.{◌≡◌, ◌⊎◌, ◌++◌, ℕ, true, is_some, List, Option, None, Some, length}
use Rattle.response_flow.specs.page_response.Pages.{EndsIn}
use Rattle.response_flow.specs.Flights.{EndsChunk, HasTail}
use Rattle.response_flow.specs.declared.flight.Flight.{Flight}

-- What is kept is what is left of bytes that end in a tail of this length: the others went before.
abbrev pub LeftOf : (tail : ℕ) → (out : List ℕ) → Type 0
LeftOf tail out = (gone : List ℕ) × HasTail tail (gone ++ out)

-- Once a response is over, what is kept is left of bytes that end in a tail of this length. While one is in flight nothing is a
-- tail yet.
abbrev pub KeepsTail : Option Flight → (tail : ℕ) → (out : List ℕ) → Type 0
KeepsTail None tail out = ∥ LeftOf tail out ∥₁
KeepsTail (Some flight) tail out = tail ≡ 0

-- What is kept of a response that is over is left of bytes that end in the tail of its body, of this length. Where the body is in
-- chunks, what is pending is all that is kept, or ends where a chunk ends, by the lengths.
pub record PendsWhole (tail : ℕ) (out pending : List ℕ) : Type 0 where
  pub gone : List ℕ
  pub before : Option (List ℕ)
  pub ends : EndsIn before tail (gone ++ out)
  pub whole : is_some before ≡ true → (pending ≡ out) ⊎ EndsChunk (length pending) tail (length out)
