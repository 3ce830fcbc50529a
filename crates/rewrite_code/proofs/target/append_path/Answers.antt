use Rattle.std.proofs.Common.{◌++◌, arith}
use Rattle.ngx_variables.specs.Texts.{value_text}
use Rattle.request_meaning.specs.Cuts.{cut}
use Rattle.rewrite_code.proofs.Cuts.{path_more_at, path_ends_at, path_over}
use Rattle.rewrite_code.proofs.target.append_path.Goals as goal

pub returns-in-Some : goal.returns-in-Some
returns-in-Some c =
    let main = c.args.main.now in
    let request = c.args.request.now in
    let vars = c.args.vars.now in
    let pieces = c.args.pieces.now in
    path_ends_at main request vars pieces c.loop-piece.piece-index c.piece-item.result c.in-Some.text.now c.loop-piece.out c.extend.new.self (c.args.out.now ++ value_text main request vars (cut pieces).path)
    (omega arith) c.piece-item.is c.in-Some.ensures c.loop-piece.invariant c.in_ok-extend-in-Some.ensures.ok

pub loop-piece-preserved : goal.loop-piece-preserved
loop-piece-preserved c =
    let main = c.args.main.now in
    let request = c.args.request.now in
    let vars = c.args.vars.now in
    let pieces = c.args.pieces.now in
    path_more_at main request vars pieces c.loop-piece.piece-index c.piece-item.result c.loop-piece.out c.append.new.out (c.args.out.now ++ value_text main request vars (cut pieces).path)
    (omega arith) c.piece-item.is c.in-None.ensures c.loop-piece.invariant c.in_ok-append-in-None.ensures

pub returns : goal.returns
returns c =
    let main = c.args.main.now in
    let request = c.args.request.now in
    let vars = c.args.vars.now in
    let pieces = c.args.pieces.now in
    path_over main request vars pieces c.loop-piece.piece-index c.loop-piece.out (c.args.out.now ++ value_text main request vars (cut pieces).path) (omega arith) c.loop-piece.invariant
