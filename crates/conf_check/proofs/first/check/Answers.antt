use Rattle.std.proofs.lemmas.Result.{err_from_is_err_and}
use Rattle.conf_check.proofs.FaultlessLaws.{faultless-faulty, faultless-serverless, faultless-sound}
use Rattle.conf_check.proofs.CheckLaws.{reads-alone}
use Rattle.conf_check.proofs.first.check.Goals as goal

pub returns-in_err-check_all : goal.returns-in_err-check_all
returns-in_err-check_all g c =
    let p = err_from_is_err_and c.from_residual.result c.from_residual.ensures.1 in
    rw (p.1, p.2) (faultless-faulty _ c.in_err-check_all.field-0.0 c.args.directives.now c.in_err-check_all.ensures)

pub returns-in_err-some_server : goal.returns-in_err-some_server
returns-in_err-some_server g c =
    let p = err_from_is_err_and c.from_residual-in_err-some_server.result c.from_residual-in_err-some_server.ensures.1 in
    rw (p.1, p.2) (faultless-serverless _ c.in_err-some_server.field-0.0 c.args.directives.now _ c.in_ok-check_all.ensures c.http_in.ensures (reads-alone _ c.in_err-some_server.field-0.0 _ c.in_err-some_server.ensures))

pub returns : goal.returns
returns g c = faultless-sound c.args.directives.now _ c.in_ok-check_all.ensures c.http_in.ensures c.in_ok-some_server.ensures
