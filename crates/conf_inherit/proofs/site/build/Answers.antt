use Rattle.std.proofs.lemmas.Result.{err_from_is_err_and}
use Rattle.conf_inherit.proofs.BuiltLaws.{built-faulty, built-ok}
use Rattle.conf_inherit.proofs.site.build.Goals as goal

pub returns-in_err-check : goal.returns-in_err-check
returns-in_err-check g c =
    let p = err_from_is_err_and c.from_residual.result c.from_residual.ensures.1 in
    rw (p.1, p.2) (built-faulty _ c.in_err-check.field-0.0 c.args.folder.now c.args.directives.now c.in_err-check.ensures)

pub returns : goal.returns
returns g c =
    built-ok c.args.folder.now c.args.directives.now _ _ _ c.in_ok-check.ensures c.in_ok-known.ensures c.http_in.ensures c.in_ok-built.ensures
