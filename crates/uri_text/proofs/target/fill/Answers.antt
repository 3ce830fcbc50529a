use Rattle.std.proofs.Common.{Ok, sym, ap, ◌∙◌}
use Rattle.std.proofs.lemmas.Result.{err_from_is_err_and}
use Rattle.uri_text.specs.Target.{with_args}
use Rattle.uri_text.proofs.Targets.{normal-none, normal-some}
use Rattle.uri_text.proofs.target.fill.Goals as goal

pub returns-in_default-clause-err : goal.returns-in_default-clause-err
returns-in_default-clause-err c = λ _. normal-none c.args.raw.now c.args.merge c.in_default.ensures

pub returns-in_err-write_path-clause-err : goal.returns-in_err-write_path-clause-err
returns-in_err-write_path-clause-err c =
    let p = err_from_is_err_and c.from_residual.result c.from_residual.ensures.1 in
    rw (p.1, p.2) (λ other. normal-some c.args.raw.now c.args.merge c.in-Some.text.now _ _ c.in-Some.ensures c.parts_of-parts.ensures
    ∙ ap (with_args c.parts_of-parts.result.query.now) (c.in_err-write_path.ensures.err other))

pub returns-clause-ok : goal.returns-clause-ok
returns-clause-ok c =
    normal-some c.args.raw.now c.args.merge c.in-Some.text.now _ _ c.in-Some.ensures c.parts_of-parts.ensures
    ∙ ap (with_args c.parts_of-parts.result.query.now) c.in_ok-write_path.ensures.ok
    ∙ ap (λ args. Ok (c.write_path.new.path, args)) (sym c.in_ok-set_args.ensures)
