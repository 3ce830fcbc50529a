-- The text of a variable alone.
use Rattle.std.proofs.Common.{◌≡◌, ℕ, List, [], ◌∷◌, unwrap_or, sym}
use Rattle.std.proofs.lemmas.List.{append-nil}
use Rattle.acts.specs.Vars.{Vars, look}
use Rattle.ngx_variables.specs.declared.value.Piece.TheVariants.{Set}
use Rattle.ngx_variables.specs.declared.request.Main.{Main}
use Rattle.ngx_variables.specs.declared.request.Request.{Request}
use Rattle.ngx_variables.specs.Texts.{piece_text, pieces_text, value_text}

pub set_alone : (main : Main) (request : Request) (vars : Vars) (name : List ℕ) → unwrap_or (look vars name) [] ≡ value_text main request vars (Set name ∷ [])
unfolding value_text pieces_text piece_text
set_alone main request vars name = sym (append-nil (unwrap_or (look vars name) []))
