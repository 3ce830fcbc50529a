use Rattle.std.proofs.Common.{◌++◌, Err, sym, ◌∙◌, ap}
use Rattle.acts.specs.Act.{settled}
use Rattle.acts.specs.Vars.{set}
use Rattle.ngx_variables.specs.Texts.{value_text}
use Rattle.request_meaning.specs.Access.{sets}
use Rattle.request_phases.proofs.Admissions as admissions
use Rattle.request_phases.proofs.admission.put_one.Goals as goal

pub returns-in-Ok : goal.returns-in-Ok
returns-in-Ok c = λ left.
    let main = c.args.main.now in
    let request = c.args.request.now in
    let vars = c.args.vars.now in
    let s = c.args.set.now in
    let bytes = c.as_slice-in-Ok.result.now in
    admissions.fits_so main request vars c.fit_value_settles.ensures s.name s.text left bytes
    (c.as_slice-in-Ok.ensures ∙ (c.in-Ok.ensures.ok ∙ ap (λ t. t ++ value_text main request vars s.text) c.new-text.ensures))
    c.in-Ok.ensures.fits
    ∙ ap (λ table. settled (sets main request left) table) (ap (λ n. set n bytes vars) (sym c.as_slice.ensures) ∙ sym c.in_ok-put-in-Ok.ensures.ok)

pub returns-in-Err-TooLong : goal.returns-in-Err-TooLong
unfolding settled
returns-in-Err-TooLong c = λ left.
    let s = c.args.set.now in
    admissions.unfit_so c.args.main.now c.args.request.now c.args.vars.now c.fit_value_settles.ensures s.name s.text left (c.in-Err-TooLong.ensures.too_long (ap Err c.in-Err-TooLong.field-0-is))
