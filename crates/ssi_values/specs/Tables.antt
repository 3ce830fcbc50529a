-- Tables of names with their values.
use Rattle.std.specs.Prelude.{ℕ, not, List, length, filter, bytes_eq, sum_by}
use Rattle.acts.specs.Vars.{Vars}

-- without a name
abbrev pub without_name : List ℕ → Vars → Vars
without_name name vars = filter (λ (e : List ℕ × List ℕ). not (bytes_eq e.0 name)) vars

-- how many bytes the values of all other names have
abbrev pub bytes_beside : List ℕ → Vars → ℕ
bytes_beside name vars = sum_by (λ (e : List ℕ × List ℕ). length e.1) (without_name name vars)
