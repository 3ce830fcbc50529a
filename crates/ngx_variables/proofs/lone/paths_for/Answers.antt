use Rattle.std.proofs.Common.{◌≡◌, false, [], ◌∷◌, ◌∙◌, ap, sym}
use Rattle.ngx_variables.specs.Texts.{piece_text, place_paths, value_text, is_path}
use Rattle.ngx_variables.proofs.Alone.{lone_text, lone_unasked, ok_as}
use Rattle.ngx_variables.proofs.lone.paths_for.Goals as goal

pub returns-then-is_path : goal.returns-then-is_path
returns-then-is_path c =
    let main = c.args.main.now in
    let request = c.args.request.now in
    let vars = c.args.vars.now in
    let piece = c.args.piece.now in
    ok_as c.whole_paths.result
    (λ paths. paths ≡ place_paths main request vars request.place)
    (λ paths. piece_text paths main request vars piece ≡ value_text main request vars (piece ∷ []))
    (λ paths h. ap (λ p. piece_text p main request vars piece) h ∙ lone_text main request vars piece) c.whole_paths.ensures

pub returns : goal.returns
returns c =
    let unasked : is_path c.args.piece.now ≡ false = sym c.is_path.ensures ∙ c.if-is_path.false in
    lone_unasked c.args.main.now c.args.request.now c.args.vars.now c.args.piece.now c.none.result unasked
