-- What heads of one status and one second begin with.
use Rattle.std.specs.Prelude.{◌≡◌, ℕ, ◌≤◌, List, ◌++◌, length, take, Option}
use Rattle.std.specs.Option.{ForSome}
use Rattle.http_moment.specs.Moment.{date_of}
use Rattle.resp_head.specs.Head.{status_line, field_line, server_field, date_field}
use Rattle.resp_head.specs.declared.head.Front.{Front}

-- the status line, Server and Date
abbrev pub front_lines : ℕ → List ℕ → List ℕ
front_lines status date =
    status_line status ++ (field_line server_field ++ field_line (date_field date))

-- a text begins with the front that is kept of it, if one is
abbrev pub IsFront : Option Front → List ℕ → Type 0
IsFront front text = ForSome front (λ f. (f.len ≤ length text) × (take f.len text ≡ front_lines f.status (date_of f.moment)))
