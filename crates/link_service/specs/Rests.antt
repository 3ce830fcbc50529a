-- What is left to do on a connection.
use Rattle.std.specs.Prelude.{◌≡◌, ◌≢◌, ℕ, ◌+◌, ◌*◌, Bool, true, false, if◌then◌else◌, None, Some}
use Rattle.std.specs.List.{All, Contains}
use Rattle.ngx_outside.specs.Linked.{LinkView}
use Rattle.ngx_outside.specs.Views.{ConnView, ask_in, no_bytes}
use Rattle.ngx_outside.specs.Wants.{wants_at, doable}
use Rattle.ngx_outside.specs.declared.event.Want.{Want}
use Rattle.ngx_outside.specs.declared.event.Want.TheVariants.{Read, Run, Job, Write, Close}

-- the measure of what is left: a read may raise what the core has left by so much at most
abbrev pub work : ℕ → ℕ → Bool → Bool → ℕ → ℕ
work price size due full left = left + (if due then price * size + 1 else 0) +
    (if full then 0 else 1)

-- what a want says of its connection
abbrev pub IsWanted : ConnView → ℕ → Want → Type 0
IsWanted v c (Read conn room) = (conn ≡ c) × (v.room ≡ Some room)
IsWanted v c (Run conn node) = (conn ≡ c) × Contains v.ready node
IsWanted v c (Job conn node) = (conn ≡ c) × (ask_in v.jobs node ≢ None)
IsWanted v c (Write conn) = (conn ≡ c) × (no_bytes v.pending ≡ false)
IsWanted v c (Close conn) = (conn ≡ c) × (v.shut ≡ true)

-- A connection rests: none of its wants can be served, by what is remembered of its link; it is
-- remembered as full only where it is, as far as the links tell.
pub record IsRested (tells : Type 0) (due : Bool) (c : ℕ) (v : ConnView)
    (l : LinkView) : Type 0 where
  pub full : Bool
  pub told : tells → full ≡ true → l.full ≡ true
  pub none : All (λ w. doable due full w ≡ false) (wants_at c v)
