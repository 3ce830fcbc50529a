-- What becomes of a response of which bytes are written.
use Rattle.std.specs.Prelude.{◌≡◌, List, ℕ, ◌++◌}
use Rattle.request_flow.specs.Rests.{Rest}

-- What is kept for the peer and what is still to come is without these bytes what it was, and the rest is the same.
pub record Writes (before after : Rest) (out out' bytes : List ℕ) : Type 0 where
  pub bytes_are : out ++ before.bytes ≡ bytes ++ (out' ++ after.bytes)
  pub stays : after.stays ≡ before.stays
  pub logs : after.logs ≡ before.logs
  pub values : after.values ≡ before.values
  pub subs : after.subs ≡ before.subs

-- with these bytes before all that is still to come
abbrev pub with_bytes : List ℕ → Rest → Rest
with_bytes bytes r = record { bytes = bytes ++ r.bytes; stays = r.stays; logs = r.logs; values = r.values; subs = r.subs }
