-- Texts with variables as the values of directives.
use Rattle.std.specs.Prelude.{ℕ, List, [], Bool, true, false, not, ◌&&◌, Result, Ok, Err}
use Rattle.std.specs.List.{list_all, list_any}
use Rattle.std.specs.Result.{result_unwrap_or}
use Rattle.site_model.specs.ngx_variables.declared.value.Piece.{Piece}
use Rattle.site_model.specs.ngx_variables.declared.value.Piece.TheVariants.{Builtin, Set}
use Rattle.site_model.specs.ngx_variables.declared.fault.ValueFault.{ValueFault}
use Rattle.site_model.specs.ngx_variables.declared.variable.Variable.{Variable}
use Rattle.site_model.specs.ngx_variables.declared.variable.Variable.TheVariants.{DocumentRoot, RequestFilename}
use Rattle.site_model.specs.ngx_variables.Grammar.{compiled}

-- the pieces of a text; a text that is none has no pieces
unfoldable pub pieces_of : List ℕ → List Piece
pieces_of text = result_unwrap_or (compiled text) []

-- a built-in variable, or one of the known names
abbrev pub is_known : (List ℕ → Bool) → Piece → Bool
is_known known (Set name) = known name
is_known known _ = true

-- a variable that tells where the files of a level are
abbrev pub tells_folder : Variable → Bool
tells_folder DocumentRoot = true
tells_folder RequestFilename = true
tells_folder _ = false

abbrev pub tells_place : Piece → Bool
tells_place (Builtin variable) = tells_folder variable
tells_place _ = false

-- a text whose variables are built in or have one of the known names
abbrev pub are_known : (List ℕ → Bool) → Result (List Piece) ValueFault → Bool
are_known known (Ok pieces) = list_all (is_known known) pieces
are_known known (Err fault) = false

unfoldable pub is_text : (List ℕ → Bool) → List ℕ → Bool
is_text known text = are_known known (compiled text)

-- such a text that doesn't tell where the files of a level are
unfoldable pub is_folder_text : (List ℕ → Bool) → List ℕ → Bool
is_folder_text known text = is_text known text && not (list_any tells_place (pieces_of text))
