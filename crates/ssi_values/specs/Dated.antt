-- The texts of variables as a document shows them.
use Rattle.std.specs.Prelude.{ℕ, List, [], ◌∷◌, Option, None, Some}
use Rattle.ngx_variables.specs.declared.eval.FilePaths.{FilePaths}
use Rattle.ngx_variables.specs.declared.request.FileRoot.{FileRoot}
use Rattle.ngx_variables.specs.declared.value.Piece.{Piece}
use Rattle.ngx_variables.specs.declared.value.Piece.TheVariants.{Builtin}
use Rattle.ngx_variables.specs.declared.variable.Variable.TheVariants.{DateGmt, DateLocal, DocumentRoot, RequestFilename}
use Rattle.ngx_variables.specs.Paths.{text_of}
use Rattle.ngx_variables.specs.Texts.{no_paths, paths_by, place_paths, piece_text, pieces_text, value_text}
use Rattle.ssi_values.specs.Known.{Known}
use Rattle.ssi_values.specs.declared.dated.Special.{Special}
use Rattle.ssi_values.specs.declared.dated.Special.TheVariants as special

-- the pieces that a document may show otherwise than its request does
abbrev pub special_of : Piece → Option Special
special_of (Builtin DateGmt) = Some special.Date
special_of (Builtin DateLocal) = Some special.Date
special_of (Builtin DocumentRoot) = Some special.Root
special_of (Builtin RequestFilename) = Some special.File
special_of other = None

abbrev pub piece_value : Known → Piece → List ℕ
piece_value k piece = value_text k.main k.request k.vars (piece ∷ [])

-- a piece of the text of `root` or `alias`
abbrev pub inner_value : Known → Piece → List ℕ
inner_value k piece = piece_text no_paths k.main k.request k.vars piece

abbrev pub inner_values : Known → List Piece → List ℕ
inner_values k pieces = pieces_text no_paths k.main k.request k.vars pieces

abbrev pub root_value : Known → FileRoot → List ℕ
root_value k place = inner_values k (text_of place)

abbrev pub paths_with : Known → FileRoot → List ℕ → FilePaths
paths_with k place root = paths_by place root k.request.path k.main.folder

abbrev pub paths_of : Known → Option FileRoot → FilePaths
paths_of k place = place_paths k.main k.request k.vars place
