-- The first want of a connection that can be served, by what it shows.
use Rattle.std.specs.Prelude.{ℕ, Bool, true, false, Option, None, Some}
use Rattle.ngx_outside.specs.declared.event.Want.{Want}
use Rattle.ngx_outside.specs.declared.event.Want.TheVariants as want

-- how many bytes are read, where the link is due
abbrev pub room_if : Bool → Option ℕ → Option ℕ
room_if true room = room
room_if false room = None

-- the first that is there: a read, a run of a node, a job, a write, the close
abbrev pub first_of : ℕ → (room runs waits : Option ℕ) → (writes shut : Bool) → Option Want
first_of c (Some room) runs waits writes shut = Some (want.Read c room)
first_of c None (Some node) waits writes shut = Some (want.Run c node)
first_of c None None (Some node) writes shut = Some (want.Job c node)
first_of c None None None true shut = Some (want.Write c)
first_of c None None None false true = Some (want.Close c)
first_of c None None None false false = None
