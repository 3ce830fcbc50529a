-- What is to be done next, by connection.
use Rattle.std.specs.Prelude.{ℕ, Bool, true, not, List, [], ◌∷◌, ◌++◌, map, flat_map, Option, None, Some, if◌then◌else◌}
use Rattle.ngx_outside.specs.declared.event.Want.{Want}
use Rattle.ngx_outside.specs.declared.event.Want.TheVariants as want
use Rattle.ngx_outside.specs.Views.{ConnView, no_bytes}

abbrev pub read_want : ℕ → Option ℕ → List Want
read_want conn None = []
read_want conn (Some room) = want.Read conn room ∷ []

-- the wants of a connection: what it reads, the nodes that can run, the jobs that wait, whether it
-- writes, whether it is to be closed
unfoldable pub wants_at : ℕ → ConnView → List Want
wants_at conn v =
    read_want conn v.room ++ map (λ node. want.Run conn node) v.ready ++ map
    (λ job. want.Job conn job.node) v.jobs
    ++ (if no_bytes v.pending then [] else want.Write conn ∷ []) ++
    (if v.shut then want.Close conn ∷ [] else [])

-- those of all connections that are held, by number
abbrev pub wants_in : List ℕ → (ℕ → ConnView) → List Want
wants_in conns view = flat_map (λ conn. wants_at conn (view conn)) conns

-- whether a want can be served at once, where its link is due to be read, or is full
abbrev pub doable : (due full : Bool) → Want → Bool
doable due full (want.Read conn room) = due
doable due full (want.Run conn node) = true
doable due full (want.Job conn node) = true
doable due full (want.Write conn) = not full
doable due full (want.Close conn) = true

-- the first that can
unfoldable pub first_doable : (due full : Bool) → List Want → Option Want
first_doable due full [] = None
first_doable due full
    (w ∷ wants) = if doable due full w then Some w else first_doable due full wants
