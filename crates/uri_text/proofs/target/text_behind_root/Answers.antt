use Rattle.uri_text.proofs.Targets.{behind_root-slash, behind_root-none, behind_root-host}
use Rattle.uri_text.proofs.target.text_behind_root.Goals as goal

pub returns-in-Some : goal.returns-in-Some
returns-in-Some c = behind_root-slash c.args.target.now c.in-Some.rest.now c.in-Some.ensures

pub returns-in_err-form : goal.returns-in_err-form
returns-in_err-form c = rw c.from_residual.ensures (behind_root-none c.args.target.now c.in_default.ensures c.in_err-form.ensures)

pub returns-in-Some-without_slash : goal.returns-in-Some-without_slash
returns-in-Some-without_slash c = behind_root-host c.args.target.now _ c.in_ok-form.form.rest.now _ c.in_default.ensures c.in_ok-form.ensures c.in-Some-without_slash.ensures

pub returns-in-None : goal.returns-in-None
returns-in-None c = behind_root-host c.args.target.now _ c.in_ok-form.form.rest.now _ c.in_default.ensures c.in_ok-form.ensures c.in-None.ensures
