-- A moment before which a connection isn't given up.
use Rattle.std.proofs.Common.{◌≡◌, ℕ, ◌+◌, ◌-◌, ◌^◌, ◌≤◌, true, false, cond, eqb, min, None, Some, arith}
use Rattle.std.specs.Prelude.{max}
use Rattle.http_connection.specs.declared.times.Pace.{Pace}
use Rattle.http_connection.specs.declared.times.Times.{Times}
use Rattle.http_connection.specs.declared.times.Awaited.{Awaited}
use Rattle.http_connection.specs.declared.times.Awaited.TheVariants.{Nothing, Room, First, Head, Further}
use Rattle.http_connection.specs.Times.{seconds_in, after, due_of, soonest, NoneShorter}

pub shortest_of : (head : ℕ) (pace : Pace) (send wait idle two all : ℕ) → send ≡ soonest (after 0 (seconds_in pace.send)) → wait ≡ soonest (after 0 head) → idle ≡ seconds_in pace.idle → two ≡ min send wait → all ≡ min two idle → NoneShorter head pace all
shortest_of head pace send wait idle two all s h i t a = (omega (arith, s, t, a), (omega (arith, h, t, a), omega (arith, i, t, a)))

-- a wait that begins at this moment or later
after_least : (mark begins wait least sum : ℕ) → mark ≤ begins → least ≤ soonest (after 0 wait) → sum ≡ min (mark + least) (2 ^ 64 - 1) → sum ≤ soonest (after begins wait)
after_least mark begins wait least sum l h s =
    elim (eqb wait 0) as (λ b. least ≤ soonest (cond b None (Some (0 + wait))) → sum ≤ soonest (cond b None (Some (begins + wait)))) [
      | true ↦ λ k. omega (arith, s)
      | false ↦ λ k. omega (arith, s, k, l)
    ] h

no_earlier : (a b : ℕ) → a ≤ max a b
no_earlier a b = omega arith

pub least_of : (times : Times) (awaited : Awaited) (least sum : ℕ) → NoneShorter times.head times.pace least → sum ≡ min (times.mark + least) (2 ^ 64 - 1) → sum ≤ soonest (due_of awaited times)
least_of times Nothing least sum n s = omega (arith, s)
least_of times Room least sum n s = after_least times.mark (max times.mark times.wrote) (seconds_in times.pace.send) least sum (no_earlier times.mark times.wrote) n.0 s
least_of times First least sum n s = after_least times.mark times.mark times.head least sum (omega arith) n.1.0 s
least_of times Head least sum n s = after_least times.mark (max times.mark times.filled) times.head least sum (no_earlier times.mark times.filled) n.1.0 s
least_of times Further least sum n s = (let i = n.1.1 in omega (arith, s, i))
