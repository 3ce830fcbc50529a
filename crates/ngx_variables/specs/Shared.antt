-- The pieces of a value, its own or shared.
use Rattle.std.specs.Prelude.{List}
use Rattle.ngx_variables.specs.declared.value.Piece.{Piece}
use Rattle.ngx_variables.specs.declared.value.Pieces.{Pieces}
use Rattle.ngx_variables.specs.declared.value.Pieces.TheVariants.{Own, Shared}

abbrev pub pieces_in : Pieces → List Piece
pieces_in (Own pieces) = pieces.items
pieces_in (Shared pieces) = pieces.value.items
