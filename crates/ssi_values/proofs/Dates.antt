-- Which texts of variables a document shows as its request does, and what the others are.
use Rattle.std.proofs.Common.{◌≡◌, ℕ, List, [], ◌∷◌, Some, None, refl, ◌∙◌, append-nil}
use Rattle.acts.specs.Vars.{Vars}
use Rattle.ngx_variables.specs.declared.request.Main.{Main}
use Rattle.ngx_variables.specs.declared.request.Request.{Request}
use Rattle.ngx_variables.specs.declared.value.Piece.{Piece}
use Rattle.ngx_variables.specs.declared.value.Piece.TheVariants.{Builtin}
use Rattle.ngx_variables.specs.declared.variable.Variable.TheVariants.{DateGmt, DateLocal, DocumentRoot, RequestFilename}
use Rattle.ngx_variables.specs.Texts.{line_text, no_paths, place_paths, piece_text, pieces_text, value_text, variable_text}
use Rattle.ssi_values.specs.Known.{Known}
use Rattle.ssi_values.specs.Dated.{special_of, piece_value, inner_value, paths_of}
use Rattle.ssi_values.specs.declared.dated.Special.TheVariants as special

module _ (k : Known) where
  only_piece : (p : Piece) → piece_value k p ≡ piece_text (place_paths k.main k.request k.vars k.request.place) k.main k.request k.vars p
  unfolding value_text pieces_text
  only_piece p = append-nil (piece_text (place_paths k.main k.request k.vars k.request.place) k.main k.request k.vars p)

  date_there : (p : Piece) → special_of p ≡ Some special.Date → piece_text (place_paths k.main k.request k.vars k.request.place) k.main k.request k.vars p ≡ k.main.date
  unfolding piece_text variable_text
  date_there (Builtin DateGmt) e = refl
  date_there (Builtin DateLocal) e = refl
  date_there other e = cc

  pub date_inside : (p : Piece) → special_of p ≡ Some special.Date → inner_value k p ≡ k.main.date
  unfolding piece_text variable_text
  date_inside (Builtin DateGmt) e = refl
  date_inside (Builtin DateLocal) e = refl
  date_inside other e = cc

  pub date_value : (p : Piece) → special_of p ≡ Some special.Date → piece_value k p ≡ k.main.date
  date_value p e = only_piece p ∙ date_there p e

  pub root_inside : (p : Piece) → special_of p ≡ Some special.Root → inner_value k p ≡ []
  unfolding piece_text variable_text
  root_inside (Builtin DocumentRoot) e = refl
  root_inside other e = cc

  pub file_inside : (p : Piece) → special_of p ≡ Some special.File → inner_value k p ≡ []
  unfolding piece_text variable_text
  file_inside (Builtin RequestFilename) e = refl
  file_inside other e = cc

  root_there : (p : Piece) → special_of p ≡ Some special.Root → piece_text (place_paths k.main k.request k.vars k.request.place) k.main k.request k.vars p ≡ (paths_of k k.request.place).root
  unfolding piece_text variable_text
  root_there (Builtin DocumentRoot) e = refl
  root_there other e = cc

  pub root_piece : (p : Piece) → special_of p ≡ Some special.Root → piece_value k p ≡ (paths_of k k.request.place).root
  root_piece p e = only_piece p ∙ root_there p e

  file_there : (p : Piece) → special_of p ≡ Some special.File → piece_text (place_paths k.main k.request k.vars k.request.place) k.main k.request k.vars p ≡ (paths_of k k.request.place).file
  unfolding piece_text variable_text
  file_there (Builtin RequestFilename) e = refl
  file_there other e = cc

  pub file_piece : (p : Piece) → special_of p ≡ Some special.File → piece_value k p ≡ (paths_of k k.request.place).file
  file_piece p e = only_piece p ∙ file_there p e

-- the others don't speak of the date
module _ (main : Main) (date : List ℕ) (request : Request) (vars : Vars) where
  pub undated : (p : Piece) → special_of p ≡ None → value_text main request vars (p ∷ []) ≡ value_text (record main { date = date }) request vars (p ∷ [])
  unfolding value_text pieces_text piece_text variable_text line_text
  undated (Builtin DateGmt) e = cc
  undated (Builtin DateLocal) e = cc
  undated (Builtin DocumentRoot) e = cc
  undated (Builtin RequestFilename) e = cc
  undated other e = refl

  undated_inside : (p : Piece) → special_of p ≡ None → piece_text (place_paths main request vars request.place) main request vars p ≡ piece_text no_paths (record main { date = date }) request vars p
  unfolding piece_text variable_text line_text
  undated_inside (Builtin DateGmt) e = cc
  undated_inside (Builtin DateLocal) e = cc
  undated_inside (Builtin DocumentRoot) e = cc
  undated_inside (Builtin RequestFilename) e = cc
  undated_inside other e = refl

  only : (p : Piece) → value_text main request vars (p ∷ []) ≡ piece_text (place_paths main request vars request.place) main request vars p
  unfolding value_text pieces_text
  only p = append-nil (piece_text (place_paths main request vars request.place) main request vars p)

  pub inner_undated : (p : Piece) → special_of p ≡ None → value_text main request vars (p ∷ []) ≡ piece_text no_paths (record main { date = date }) request vars p
  inner_undated p e = only p ∙ undated_inside p e
