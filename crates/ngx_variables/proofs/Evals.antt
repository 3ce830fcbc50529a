-- Evaluated texts, piece by piece.
use Rattle.std.proofs.Common.{◌≡◌, ℕ, suc, ◌+◌, ◌<◌, ◌≤◌, true, false, ◌||◌, List, [], ◌∷◌, ◌++◌, length, get_or, drop, Some, None, refl, sym, ◌∙◌, ap, arith, add-one, length-append, append_assoc}
use Rattle.std.proofs.Math.Seq.{drop-cons}
use Rattle.std.proofs.lemmas.Bool.{lt-ltb, ltb-true, cond-true, false≢true}
use Rattle.acts.specs.Vars.{Vars}
use Rattle.ngx_variables.specs.declared.variable.Variable.TheVariants.{DocumentRoot, RequestFilename}
use Rattle.ngx_variables.specs.declared.value.Piece.{Piece}
use Rattle.ngx_variables.specs.declared.value.Piece.TheVariants.{Builtin}
use Rattle.ngx_variables.specs.declared.request.Main.{Main}
use Rattle.ngx_variables.specs.declared.request.Request.{Request}
use Rattle.ngx_variables.specs.declared.request.FileRoot.{FileRoot}
use Rattle.ngx_variables.specs.declared.eval.FilePaths.{FilePaths}
use Rattle.ngx_variables.specs.Texts.{piece_text, pieces_text, variable_text, is_too_long, is_path, asks_for_paths, no_paths, paths_at, place_paths, value_text}

module _ (main : Main) (request : Request) (vars : Vars) where
  -- one piece more
  pub text_more : (paths : FilePaths) (pieces : List Piece) (i : ℕ) (piece : Piece) (old now next total : List ℕ) → i < length pieces → piece ≡ get_or pieces i piece → now ++ pieces_text paths main request vars (drop i pieces) ≡ old ++ total → next ≡ now ++ piece_text paths main request vars piece → next ++ pieces_text paths main request vars (drop (i + 1) pieces) ≡ old ++ total
  unfolding pieces_text
  text_more paths pieces i piece old now next total h is so_far one =
      let there : drop i pieces ≡ piece ∷ drop (i + 1) pieces = rw add-one (drop-cons pieces i piece h ∙ ap (λ p. p ∷ drop (suc i) pieces) (sym is)) in
      rw one (simp append_assoc (ap (λ ps. now ++ pieces_text paths main request vars ps) (sym there) ∙ so_far))

  -- more bytes than may be, and further ones
  pub too_long_by : (old now rest total : List ℕ) (start : ℕ) → now ++ rest ≡ old ++ total → start ≡ length old → start + 16384 < length now → is_too_long total ≡ true
  unfolding is_too_long
  too_long_by old now rest total start e s h =
      let lengths : length now + length rest ≡ length old + length total = sym (length-append now rest) ∙ (ap length e ∙ length-append old total) in
      lt-ltb 16384 (length total) (omega arith)

  pub same_piece : (p q : FilePaths) (piece : Piece) → is_path piece ≡ false → piece_text p main request vars piece ≡ piece_text q main request vars piece
  unfolding piece_text variable_text
  same_piece p q (Builtin DocumentRoot) h = absurd (false≢true (sym h))
  same_piece p q (Builtin RequestFilename) h = absurd (false≢true (sym h))
  same_piece p q other h = refl

  -- where no piece asks for the root or the file's path, they don't matter
  pub same_text : (p q : FilePaths) (pieces : List Piece) → asks_for_paths pieces ≡ false → pieces_text p main request vars pieces ≡ pieces_text q main request vars pieces
  unfolding pieces_text asks_for_paths
  same_text p q [] h = refl
  same_text p q (piece ∷ pieces) h =
      elim (is_path piece) as (λ b. is_path piece ≡ b → (b || asks_for_paths pieces) ≡ false → piece_text p main request vars piece ++ pieces_text p main request vars pieces ≡ piece_text q main request vars piece ++ pieces_text q main request vars pieces) [
        | true ↦ λ e k. absurd (false≢true (sym k))
        | false ↦ λ e k. ap (λ t. t ++ pieces_text p main request vars pieces) (same_piece p q piece e) ∙ ap (λ t. piece_text q main request vars piece ++ t) (same_text p q pieces k)
      ] refl h

  path_within : (p : FilePaths) (piece : Piece) → p.file ≡ p.root → is_path piece ≡ true → piece_text p main request vars piece ≡ p.root
  unfolding piece_text variable_text
  path_within p (Builtin DocumentRoot) e h = refl
  path_within p (Builtin RequestFilename) e h = e
  path_within p other e h = absurd (false≢true h)

  root_within : (p : FilePaths) (pieces : List Piece) → p.file ≡ p.root → asks_for_paths pieces ≡ true → length p.root ≤ length (pieces_text p main request vars pieces)
  unfolding pieces_text asks_for_paths
  root_within p [] e h = absurd (false≢true h)
  root_within p (piece ∷ pieces) e h =
      let both = length-append (piece_text p main request vars piece) (pieces_text p main request vars pieces) in
      elim (is_path piece) as (λ b. is_path piece ≡ b → (b || asks_for_paths pieces) ≡ true → length p.root ≤ length (piece_text p main request vars piece ++ pieces_text p main request vars pieces)) [
        | true ↦ λ here k. omega (arith, both, ap length (path_within p piece e here))
        | false ↦ λ there k. omega (arith, both, root_within p pieces e k)
      ] refl h

  -- where the request has no place, or nobody asks for it
  pub value_nowhere : (pieces : List Piece) → request.place ≡ None → pieces_text no_paths main request vars pieces ≡ value_text main request vars pieces
  unfolding value_text place_paths
  value_nowhere pieces e = ap (λ place. pieces_text (place_paths main request vars place) main request vars pieces) (sym e)

  pub value_unasked : (pieces : List Piece) → asks_for_paths pieces ≡ false → pieces_text no_paths main request vars pieces ≡ value_text main request vars pieces
  unfolding value_text
  value_unasked pieces h = same_text no_paths (place_paths main request vars request.place) pieces h

  -- where it has one
  pub value_there : (place : FileRoot) (pieces : List Piece) → request.place ≡ Some place → pieces_text (paths_at main request vars place) main request vars pieces ≡ value_text main request vars pieces
  unfolding value_text place_paths
  value_there place pieces e = ap (λ place. pieces_text (place_paths main request vars place) main request vars pieces) (sym e)

  file_is_root : (place : FileRoot) → is_too_long (paths_at main request vars place).root ≡ true → (paths_at main request vars place).file ≡ (paths_at main request vars place).root
  unfolding paths_at
  file_is_root place h = cond-true _ _ _ h

  longer_too_long : (short long : List ℕ) → length short ≤ length long → is_too_long short ≡ true → is_too_long long ≡ true
  unfolding is_too_long
  longer_too_long short long within h = lt-ltb 16384 (length long) (omega (arith, ltb-true 16384 (length short) h))

  -- a text with a place whose own text is too long
  pub value_too_long : (place : FileRoot) (pieces : List Piece) → request.place ≡ Some place → asks_for_paths pieces ≡ true → is_too_long (paths_at main request vars place).root ≡ true → is_too_long (value_text main request vars pieces) ≡ true
  value_too_long place pieces e asked h =
      longer_too_long (paths_at main request vars place).root (value_text main request vars pieces)
      (omega (arith, root_within (paths_at main request vars place) pieces (file_is_root place h) asked, ap length (value_there place pieces e))) h
