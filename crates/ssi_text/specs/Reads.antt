-- What is read of a command with no search for its end.
use Rattle.std.specs.Prelude.{◌≡◌, ℕ, ◌+◌, ◌-◌, ◌≤◌, List, Option, Some, length, take, drop}
use Rattle.ssi_text.specs.declared.part.Param.{Param}
use Rattle.ssi_text.specs.declared.part.Part.{Part}
use Rattle.ssi_text.specs.Commands.{Outside, size, param_at, params, made}

-- a parameter of `used` bytes is at the front, and the command goes on after it
pub record ReadParam (param : Param) (used : ℕ) (bytes : List ℕ) : Type 0 where
  pub within : used ≤ length bytes
  pub value : Some (param, used) ≡ param_at bytes
  pub goes_on : (n : ℕ) → size Outside (drop used bytes) ≡ Some n → size Outside bytes ≡ Some (used + n)

-- the command ends after `used` bytes, which say these parameters
pub record ReadParams (found : List Param) (used : ℕ) (bytes : List ℕ) : Type 0 where
  pub ends : size Outside bytes ≡ Some (used + 3)
  pub value : Some found ≡ params (take used bytes)
  pub within : used + 3 ≤ length bytes

-- the command ends with these `used` bytes, and this is what it says
pub record ReadCommand (part : Part) (used : ℕ) (bytes : List ℕ) : Type 0 where
  pub ends : size Outside bytes ≡ Some used
  pub value : part ≡ made (take (used - 3) bytes)
  pub within : used ≤ length bytes
