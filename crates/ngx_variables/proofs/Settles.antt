-- The evaluation of a text as acts gives the text, and changes no variable.
use Rattle.std.proofs.Common.{◌≡◌, ℕ, List, [], ◌∷◌, ◌++◌, Option, Some, None, refl, ◌∙◌, ap}
use Rattle.acts.specs.Vars.{Vars}
use Rattle.acts.specs.Act.{Act, Done, ◌>>=◌, settled, settled_then}
use Rattle.acts.proofs.ActLaws.{settles_in_turn}
use Rattle.ngx_variables.specs.declared.variable.Variable.TheVariants.{DocumentRoot, RequestFilename}
use Rattle.ngx_variables.specs.declared.value.Piece.{Piece}
use Rattle.ngx_variables.specs.declared.value.Piece.TheVariants.{Builtin, Set}
use Rattle.ngx_variables.specs.declared.request.Main.{Main}
use Rattle.ngx_variables.specs.declared.request.FileRoot.{FileRoot}
use Rattle.ngx_variables.specs.declared.request.Request.{Request}
use Rattle.ngx_variables.specs.Paths.{text_of}
use Rattle.ngx_variables.specs.Texts.{piece_text, pieces_text, variable_text, no_paths, paths_by, paths_at, place_paths, value_text}
use Rattle.ngx_variables.specs.Acts.{inner_piece, inner_pieces, file_paths, piece, value, ValueSettles, SettlesBehindValue}

-- an act that settles as a value, and what follows
pub then_does : {C R A B : Type 0} (vars : Vars) (m : Act C R A) (k : A → Act C R B) (a : A) → settled m vars ≡ (Done a, vars) → settled (m >>= k) vars ≡ settled (k a) vars
unfolding settled_then
then_does vars m k a e = settles_in_turn m k vars ∙ ap (λ s. settled_then s.0 s.1 k) e

-- two texts, one after the other
pub pair_settles : {C R : Type 0} (vars : Vars) (m n : Act C R (List ℕ)) (a b : List ℕ) → settled m vars ≡ (Done a, vars) → settled n vars ≡ (Done b, vars) → settled (m >>= λ x. n >>= λ y. Done (x ++ y)) vars ≡ (Done (a ++ b), vars)
unfolding settled
pair_settles vars m n a b e f = then_does vars m (λ x. n >>= λ y. Done (x ++ y)) a e ∙ then_does vars n (λ y. Done (a ++ y)) b f

module _ {C R : Type 0} (main : Main) (request : Request) (vars : Vars) where
  inner_settles : (p : Piece) → settled {C = C} {R = R} (inner_piece main request p) vars ≡ (Done (piece_text no_paths main request vars p), vars)
  unfolding settled inner_piece piece_text
  inner_settles (Set name) = refl
  inner_settles other = refl

  inners_settle : (ps : List Piece) → settled {C = C} {R = R} (inner_pieces main request ps) vars ≡ (Done (pieces_text no_paths main request vars ps), vars)
  unfolding settled inner_pieces pieces_text
  inners_settle [] = refl
  inners_settle (p ∷ ps) = pair_settles vars (inner_piece main request p) (inner_pieces main request ps) (piece_text no_paths main request vars p) (pieces_text no_paths main request vars ps) (inner_settles p) (inners_settle ps)

  paths_settle : (place : Option FileRoot) → settled {C = C} {R = R} (file_paths main request place) vars ≡ (Done (place_paths main request vars place), vars)
  unfolding settled file_paths place_paths paths_at
  paths_settle None = refl
  paths_settle (Some place) = then_does vars (inner_pieces main request (text_of place)) (λ text. Done (paths_by place text request.path main.folder)) (pieces_text no_paths main request vars (text_of place)) (inners_settle (text_of place))

  pub piece_settles : (p : Piece) → settled {C = C} {R = R} (piece main request p) vars ≡ (Done (piece_text (place_paths main request vars request.place) main request vars p), vars)
  unfolding settled inner_piece piece piece_text variable_text
  piece_settles (Builtin DocumentRoot) = then_does vars (file_paths main request request.place) (λ paths. Done paths.root) (place_paths main request vars request.place) (paths_settle request.place)
  piece_settles (Builtin RequestFilename) = then_does vars (file_paths main request request.place) (λ paths. Done paths.file) (place_paths main request vars request.place) (paths_settle request.place)
  piece_settles (Set name) = refl
  piece_settles other = refl

  all_settle : (ps : List Piece) → settled {C = C} {R = R} (value main request ps) vars ≡ (Done (pieces_text (place_paths main request vars request.place) main request vars ps), vars)
  unfolding settled value pieces_text
  all_settle [] = refl
  all_settle (p ∷ ps) = pair_settles vars (piece main request p) (value main request ps) (piece_text (place_paths main request vars request.place) main request vars p) (pieces_text (place_paths main request vars request.place) main request vars ps) (piece_settles p) (all_settle ps)

pub value_settles : {C R : Type 0} → ValueSettles C R
unfolding value_text
value_settles {C} {R} main request vars text = all_settle {C = C} {R = R} main request vars text

pub settles_behind_value : {C R A : Type 0} → SettlesBehindValue C R A
settles_behind_value {C} {R} {A} main request vars text k = then_does vars (value main request text) k (value_text main request vars text) (value_settles main request vars text)
