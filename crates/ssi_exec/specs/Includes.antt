-- The parts of what an `include` asks.
use Rattle.std.specs.Prelude.{◌≡◌, ℕ, ◌&&◌, not, Bool, true, List, ◌++◌, codes, Option, None, Some, is_some, option_map, if◌then◌else◌}
use Rattle.acts.specs.Vars.{Vars, look}
use Rattle.ngx_variables.specs.Grammar.{begins_with}
use Rattle.ssi_text.specs.declared.part.Param.{Param}
use Rattle.request_meaning.specs.Commands.{folder_of, has, included_name, is_wait, is_waited, param}
use Rattle.ssi_exec.specs.declared.asked.Asked.{Asked}

-- its parameters go together
abbrev pub go_together : List Param → Bool
go_together ps =
    (if has (codes "virtual") ps then not (has (codes "file") ps) else has (codes "file") ps)
    && not (has (codes "stub") ps && has (codes "set") ps)
    && not (has (codes "wait") ps && has (codes "file") ps)
    && is_wait (param (codes "wait") ps)

-- these are what parameters say
pub record Says (asked : Asked) (ps : List Param) : Type 0 where
  pub name : asked.name.now ≡ included_name ps
  pub stub : option_map (λ n. n.now) asked.stub ≡ param (codes "stub") ps
  pub set : option_map (λ n. n.now) asked.set ≡ param (codes "set") ps
  pub waited : asked.waited ≡ is_waited ps

-- the block of a stub is there
abbrev pub is_there : Vars → Option (List ℕ) → Bool
is_there blocks None = true
is_there blocks (Some name) = is_some (look blocks name)

-- the bytes of that block
abbrev pub stub_in : Vars → Option (List ℕ) → Option (List ℕ)
stub_in blocks None = None
stub_in blocks (Some name) = look blocks name

-- a path in the folder of another, where it doesn't begin with a slash
abbrev pub folder_path : List ℕ → List ℕ → List ℕ
folder_path path text = if begins_with 47 text then text else folder_of path ++ text
