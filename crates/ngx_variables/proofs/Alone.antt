-- The text of a piece alone.
use Rattle.std.proofs.Common.{◌≡◌, false, [], ◌∷◌, Option, Some, None, IfSome, Result, Ok, Err, IfOk, sym, ◌∙◌}
use Rattle.std.proofs.lemmas.List.{append-nil}
use Rattle.acts.specs.Vars.{Vars}
use Rattle.ngx_variables.specs.declared.value.Piece.{Piece}
use Rattle.ngx_variables.specs.declared.request.Main.{Main}
use Rattle.ngx_variables.specs.declared.request.Request.{Request}
use Rattle.ngx_variables.specs.declared.eval.FilePaths.{FilePaths}
use Rattle.ngx_variables.specs.Texts.{piece_text, pieces_text, is_path, place_paths, value_text}
use Rattle.ngx_variables.proofs.Evals.{same_piece}

module _ (main : Main) (request : Request) (vars : Vars) (piece : Piece) where
  pub lone_text : piece_text (place_paths main request vars request.place) main request vars piece ≡ value_text main request vars (piece ∷ [])
  unfolding value_text pieces_text
  lone_text = sym (append-nil (piece_text (place_paths main request vars request.place) main request vars piece))

  -- one that doesn't ask for the root or the file's path has the same text whatever they are
  pub lone_unasked : (paths : FilePaths) → is_path piece ≡ false → piece_text paths main request vars piece ≡ value_text main request vars (piece ∷ [])
  lone_unasked paths h = same_piece main request vars paths (place_paths main request vars request.place) piece h ∙ lone_text

pub some_as : {A : Type 0} (o : Option A) (P Q : A → Type 0) → ((a : A) → P a → Q a) → IfSome o P → IfSome o Q
some_as None P Q f h = tt
some_as (Some a) P Q f h = f a h

pub ok_as : {A E : Type 0} (r : Result A E) (P Q : A → Type 0) → ((a : A) → P a → Q a) → IfOk r P → IfOk r Q
ok_as (Err e) P Q f h = tt
ok_as (Ok a) P Q f h = f a h
