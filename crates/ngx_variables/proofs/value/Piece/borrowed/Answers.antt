use Rattle.std.proofs.Common.{◌≡◌, [], ◌∷◌, ◌∙◌}
use Rattle.ngx_variables.specs.declared.eval.FilePaths.{FilePaths}
use Rattle.ngx_variables.specs.Texts.{piece_text, place_paths, value_text}
use Rattle.ngx_variables.proofs.Alone.{lone_text, some_as}
use Rattle.ngx_variables.proofs.value.Piece.borrowed.Goals as goal

pub returns : goal.returns
returns c =
    let main = c.args.main.now in
    let request = c.args.request.now in
    let vars = c.args.vars.now in
    let piece = c.args.self.now in
    some_as c.borrowed_piece.result
    (λ text. (paths : FilePaths) → text.now ≡ piece_text paths main request vars piece)
    (λ text. text.now ≡ value_text main request vars (piece ∷ []))
    (λ text h. h (place_paths main request vars request.place) ∙ lone_text main request vars piece) c.borrowed_piece.ensures
