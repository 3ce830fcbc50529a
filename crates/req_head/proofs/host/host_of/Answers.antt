use Rattle.req_head.proofs.HostLemmas.{named_ok, of_target, of_field}
use Rattle.req_head.proofs.host.host_of.Goals as goal

pub returns-in-Some : goal.returns-in-Some
returns-in-Some c =
    named_ok c.lower_name.result c.args.target.now c.in-Some.form.host.now c.args.host
    (λ values are. of_target c.args.target.now c.in-Some.form.host.now c.in-Some.form.rest.now values c.in-Some.ensures)
    c.lower_name.ensures

pub returns-in-None : goal.returns-in-None
returns-in-None c =
    named_ok c.field_name.result c.args.target.now c.host_field.result.now c.args.host
    (λ values are. of_field c.args.target.now c.host_field.result.now c.args.host values c.in-None.ensures c.host_field.ensures are)
    c.field_name.ensures
